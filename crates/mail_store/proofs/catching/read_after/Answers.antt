use Rattle.std.proofs.Common.{arith}
use Rattle.std.proofs.lemmas.Result.{err_from_is_err_and}
use Rattle.mail_store.proofs.CatchLemmas.{caught_up, end_caught, shorter, outside, outside_fault, caught_fault}
use Rattle.mail_store.proofs.ReplayLemmas.{ReadsTwo-none, ReadsTwo-read}
use Rattle.mail_store.proofs.catching.read_after.Goals as goal

pub returns-in_err-had-clause-reads : goal.returns-in_err-had-clause-reads
returns-in_err-had-clause-reads g c = ReadsTwo-none (g.J.Keeper.observed c.args.keeper.now).octets c.args.store.now

pub returns-in_err-had-clause-fault : goal.returns-in_err-had-clause-fault
returns-in_err-had-clause-fault g c =
    let p = err_from_is_err_and c.from_residual.result c.from_residual.ensures.1 in
    rw (p.1, p.2) (outside (g.J.Keeper.observed c.args.keeper.now).octets c.args.store.now c.in_err-had.field-0.0)

pub returns-then-had-end-clause-reads : goal.returns-then-had-end-clause-reads
returns-then-had-end-clause-reads g c = ReadsTwo-none (g.J.Keeper.observed c.args.keeper.now).octets c.args.store.now

pub returns-then-had-end-clause-fault : goal.returns-then-had-end-clause-fault
returns-then-had-end-clause-fault g c =
    shorter (g.J.Keeper.observed c.args.keeper.now).octets c.args.store.now c.in_ok-had.had c.in_ok-had.ensures.len (omega (arith, c.if-had-end.true, c.end-end.ensures))

pub returns-in_err-read_on-clause-fault : goal.returns-in_err-read_on-clause-fault
returns-in_err-read_on-clause-fault g c =
    let p = err_from_is_err_and c.from_residual-in_err-read_on.result c.from_residual-in_err-read_on.ensures.1 in
    let reads = rw c.len.ensures.same at c.read_on.ensures.reads in
    let fault = rw c.len.ensures.same at c.in_err-read_on.ensures.fault in
    rw (p.1, p.2) (caught_fault (g.J.Keeper.observed c.args.keeper.now).octets c.read_on.new.version c.args.store.now c.read_on.new.store c.in_ok-had.had c.in_err-read_on.field-0.0 c.in_ok-had.ensures.len
    (omega (arith, c.if-had-end.false, c.end-end.ensures)) reads fault)

pub returns-in_err-cut_after-clause-fault : goal.returns-in_err-cut_after-clause-fault
returns-in_err-cut_after-clause-fault g c =
    let p = err_from_is_err_and c.from_residual-in_err-cut_after.result c.from_residual-in_err-cut_after.ensures.1 in
    rw (p.1, p.2) (outside_fault (g.J.Keeper.observed c.args.keeper.now).octets c.args.store.now c.in_err-cut_after.field-0.0 c.in_err-cut_after.ensures.outside)

pub returns-clause-catches : goal.returns-clause-catches
returns-clause-catches g c =
    let reads = rw c.len.ensures.same at c.read_on.ensures.reads in
    let rest = rw c.len.ensures.same at c.in_ok-read_on.ensures.rest in
    let cut = rw (c.read_on.ensures.same, c.len.ensures.same, c.end.ensures) at c.in_ok-cut_after.ensures.cut in
    caught_up (g.J.Keeper.observed c.args.keeper.now).octets (g.J.Keeper.observed c.cut_after.new.keeper).octets c.read_on.new.version c.args.store.now c.read_on.new.store c.in_ok-had.had c.in_ok-had.ensures.len
    (omega (arith, c.if-had-end.false, c.end-end.ensures)) reads rest cut

pub returns-clause-end : goal.returns-clause-end
returns-clause-end g c =
    let cut = rw (c.read_on.ensures.same, c.len.ensures.same, c.end.ensures) at c.in_ok-cut_after.ensures.cut in
    end_caught (g.J.Keeper.observed c.args.keeper.now).octets (g.J.Keeper.observed c.cut_after.new.keeper).octets c.read_on.new.store.end c.in_ok-had.had c.in_ok-had.ensures.len c.read_on.ensures.within cut

pub returns-in_err-read_on-clause-reads : goal.returns-in_err-read_on-clause-reads
returns-in_err-read_on-clause-reads g c = ReadsTwo-read (g.J.Keeper.observed c.args.keeper.now).octets c.read_on.new.version c.args.store.now c.read_on.new.store (rw c.len.ensures.same at c.read_on.ensures.reads)

pub returns-in_err-cut_after-clause-reads : goal.returns-in_err-cut_after-clause-reads
returns-in_err-cut_after-clause-reads g c = ReadsTwo-read (g.J.Keeper.observed c.args.keeper.now).octets c.read_on.new.version c.args.store.now c.read_on.new.store (rw c.len.ensures.same at c.read_on.ensures.reads)

pub returns-clause-reads : goal.returns-clause-reads
returns-clause-reads g c = ReadsTwo-read (g.J.Keeper.observed c.args.keeper.now).octets c.read_on.new.version c.args.store.now c.read_on.new.store (rw c.len.ensures.same at c.read_on.ensures.reads)
