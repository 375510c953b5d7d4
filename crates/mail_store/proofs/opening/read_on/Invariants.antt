use Rattle.std.proofs.Common.{◌-◌}
use Rattle.mail_store.specs.private.Replaying.{IsGoing}
use Rattle.mail_store.proofs.opening.read_on.Given as goal

abbrev pub invariant-loop-more : goal.invariant-loop-more
invariant-loop-more g l = IsGoing (g.J.Keeper.observed l.initial.keeper) (g.J.Keeper.observed l.keeper) l.had l.initial.version l.version l.initial.store l.store

abbrev pub decreases-loop-more : goal.decreases-loop-more
decreases-loop-more g l = l.had - l.store.end
