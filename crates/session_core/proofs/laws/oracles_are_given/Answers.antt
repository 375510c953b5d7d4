use Rattle.session_core.proofs.MeaningLemmas.{oracles_given}
use Rattle.session_core.proofs.laws.oracles_are_given.Goals as goal

pub returns : goal.returns
returns c = oracles_given
