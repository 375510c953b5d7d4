use Rattle.std.proofs.Common.{◌-◌}
use Rattle.mail_store.specs.private.Replaying.{IsLooking}
use Rattle.mail_store.proofs.frames.are_zeros_from.Given as goal

abbrev pub invariant-loop-at : goal.invariant-loop-at
invariant-loop-at g l = IsLooking (g.J.Keeper.observed l.initial.keeper) (g.J.Keeper.observed l.keeper) l.from l.at l.had

abbrev pub decreases-loop-at : goal.decreases-loop-at
decreases-loop-at g l = l.had - l.at
