use Rattle.encapsulated_fields.proofs.EncapsulatedLemmas.{Encapsulates-once}
use Rattle.encapsulated_fields.proofs.laws.encapsulated_fields_are_one.Goals as goal

pub returns : goal.returns
returns c = Encapsulates-once
