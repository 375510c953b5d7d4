use Rattle.mail_store.proofs.ReplayLemmas.{IsReadTo-then, Stays-then}
use Rattle.mail_store.proofs.opening.read_on.Goals as goal

pub returns-in_err-more-clause-reads : goal.returns-in_err-more-clause-reads
returns-in_err-more-clause-reads g c =
    IsReadTo-then (g.J.Keeper.observed c.args.keeper.now).octets c.args.version.now c.loop-more.version c.read_one.new.version c.args.store.now c.loop-more.store c.read_one.new.store
    c.loop-more.invariant.so_far (rw c.loop-more.invariant.stays.same at c.read_one.ensures.reads)

pub returns-then-not-more-clause-reads : goal.returns-then-not-more-clause-reads
returns-then-not-more-clause-reads g c =
    IsReadTo-then (g.J.Keeper.observed c.args.keeper.now).octets c.args.version.now c.loop-more.version c.read_one.new.version c.args.store.now c.loop-more.store c.read_one.new.store
    c.loop-more.invariant.so_far (rw c.loop-more.invariant.stays.same at c.read_one.ensures.reads)

pub loop-more-preserved : goal.loop-more-preserved
loop-more-preserved g c =
    let i = c.loop-more.invariant in
    record {
      so_far = IsReadTo-then (g.J.Keeper.observed c.args.keeper.now).octets c.args.version.now c.loop-more.version c.read_one.new.version c.args.store.now c.loop-more.store c.read_one.new.store
          i.so_far (rw i.stays.same at c.read_one.ensures.reads);
      stays = Stays-then (g.J.Keeper.observed c.args.keeper.now) (g.J.Keeper.observed c.loop-more.keeper) (g.J.Keeper.observed c.read_one.new.keeper) i.stays (record {
        same = c.read_one.ensures.same;
        unappended = c.read_one.ensures.unappended;
        later = c.read_one.ensures.cause.later;
        sure = λ h. (c.read_one.ensures.cause.sure h).0;
      });
      within = c.read_one.ensures.within;
    }
