use Rattle.surrogate_cache.proofs.HeldLemmas.{held_or_asked}
use Rattle.surrogate_cache.proofs.laws.what_is_held_was_asked_for.Goals as goal

pub returns : goal.returns
returns c = held_or_asked
