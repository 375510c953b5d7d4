use Rattle.std.proofs.Common.{true, false}
use Rattle.mail_store.proofs.ReplayLemmas.{IsReadTo-one, adds_here, told_bad, told_broken}
use Rattle.mail_store.proofs.opening.read_one.Goals as goal

pub returns-then-branch-clause-reads : goal.returns-then-branch-clause-reads
returns-then-branch-clause-reads g c =
    let frame = rw c.end-at.ensures at c.in_ok-frame.ensures.frame in
    let adds = adds_here (g.J.Keeper.observed c.args.keeper.now).octets _ c.in_ok-frame.frame c.args.version.now c.add_frame.new.version c.args.store.now c.add_frame.new.store _ true c.frame_at.ensures.same c.if-branch.true c.in_ok-add_frame.ensures.adds in
    IsReadTo-one (g.J.Keeper.observed c.args.keeper.now).octets c.in_ok-frame.frame c.args.version.now c.add_frame.new.version c.args.store.now c.add_frame.new.store frame adds

pub returns-then-branch-2-clause-one : goal.returns-then-branch-2-clause-one
returns-then-branch-2-clause-one g c =
    let frame = rw c.end-at.ensures at c.in_ok-frame.ensures.frame in
    let adds = adds_here (g.J.Keeper.observed c.args.keeper.now).octets _ c.in_ok-frame.frame c.args.version.now c.add_frame.new.version c.args.store.now c.add_frame.new.store _ false c.frame_at.ensures.same c.if-branch.false c.in_ok-add_frame.ensures.adds in
    let broken = rw (c.add_frame.ensures.same, c.frame_at.ensures.same, c.end-at.ensures) at c.in_ok-is_broken_off.ensures.broken in
    told_broken (g.J.Keeper.observed c.args.keeper.now).octets c.in_ok-frame.frame c.args.version.now c.add_frame.new.version c.args.store.now c.add_frame.new.store _ frame adds.0 adds.1 adds.2 broken c.if-branch-2.true

pub returns-clause-one : goal.returns-clause-one
returns-clause-one g c =
    let frame = rw c.end-at.ensures at c.in_ok-frame.ensures.frame in
    let adds = adds_here (g.J.Keeper.observed c.args.keeper.now).octets _ c.in_ok-frame.frame c.args.version.now c.add_frame.new.version c.args.store.now c.add_frame.new.store _ false c.frame_at.ensures.same c.if-branch.false c.in_ok-add_frame.ensures.adds in
    let broken = rw (c.add_frame.ensures.same, c.frame_at.ensures.same, c.end-at.ensures) at c.in_ok-is_broken_off.ensures.broken in
    told_bad (g.J.Keeper.observed c.args.keeper.now).octets c.in_ok-frame.frame c.args.version.now c.add_frame.new.version c.args.store.now c.add_frame.new.store _ c.end-at.result frame adds.0 adds.1 adds.2
    c.end-at.ensures broken c.if-branch-2.false
