use Rattle.std.proofs.Common.{rules, ◌+◌, ◌≤◌, arith}
use Rattle.mail_store.proofs.ReplayLemmas.{Stays-then}
use Rattle.mail_store.proofs.ZeroLemmas.{zeros_next, zeros_stop}
use Rattle.mail_store.proofs.frames.are_zeros_from.Goals as goal

pub returns-then-not-are_zeros-clause-zeros : goal.returns-then-not-are_zeros-clause-zeros
returns-then-not-are_zeros-clause-zeros g c =
    zeros_stop (g.J.Keeper.observed c.args.keeper.now).octets c.args.from c.loop-at.at _ _ c.loop-at.invariant.so_far (rw c.loop-at.invariant.stays.same at c.in_ok-fill.ensures.octets) (search rules)

pub loop-at-preserved : goal.loop-at-preserved
loop-at-preserved g c = record {
  stays = Stays-then (g.J.Keeper.observed c.args.keeper.now) (g.J.Keeper.observed c.loop-at.keeper) (g.J.Keeper.observed c.fill.new.keeper) c.loop-at.invariant.stays (record {
    same = c.fill.ensures.same;
    unappended = c.fill.ensures.unappended;
    later = c.fill.ensures.cause.later;
    sure = λ h. (c.fill.ensures.cause.sure h).0;
  });
  within = omega (arith, c.loop-at-test.true);
  so_far = zeros_next (g.J.Keeper.observed c.args.keeper.now).octets c.args.from c.loop-at.at _ _ c.loop-at.invariant.so_far (rw c.loop-at.invariant.stays.same at c.in_ok-fill.ensures.octets) (search rules);
}
