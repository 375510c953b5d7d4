use Rattle.dsn_terms.proofs.XtextUnits.{IsXtext-once}
use Rattle.dsn_terms.proofs.laws.xtexts_are_one.Goals as goal

pub returns : goal.returns
returns c = IsXtext-once
