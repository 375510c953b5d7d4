use Rattle.utf8_fields.proofs.OneField.{HasParts-once}
use Rattle.utf8_fields.proofs.laws.parts_are_one.Goals as goal

pub returns : goal.returns
returns c octets f g = HasParts-once octets f g
