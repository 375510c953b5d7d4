use Rattle.surrogate_cache.proofs.HeldLemmas.{fetches_counted}
use Rattle.surrogate_cache.proofs.laws.fetches_are_counted.Goals as goal

pub returns : goal.returns
returns c = fetches_counted
