use Rattle.surrogate_cache.proofs.ServedLemmas.{IsServed-once}
use Rattle.surrogate_cache.proofs.laws.one_served_form.Goals as goal

pub returns : goal.returns
returns c = IsServed-once
