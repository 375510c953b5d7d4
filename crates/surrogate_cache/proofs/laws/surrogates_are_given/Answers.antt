use Rattle.surrogate_cache.proofs.ServedLemmas.{surrogates_given}
use Rattle.surrogate_cache.proofs.laws.surrogates_are_given.Goals as goal

pub returns : goal.returns
returns c = surrogates_given
