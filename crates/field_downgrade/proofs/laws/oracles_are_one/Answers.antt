use Rattle.field_downgrade.proofs.OneMeaning.{Means-once}
use Rattle.field_downgrade.proofs.laws.oracles_are_one.Goals as goal

pub returns : goal.returns
returns c = Means-once
