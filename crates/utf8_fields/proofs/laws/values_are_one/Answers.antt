use Rattle.mail_wire.specs.Octets.{is_white}
use Rattle.mail_wire.specs.Folds.{unfolded}
use Rattle.utf8_fields.proofs.OneValue.{IsTrimmed-once}
use Rattle.utf8_fields.proofs.laws.values_are_one.Goals as goal

pub returns : goal.returns
returns c body value other = IsTrimmed-once is_white (unfolded body) value other
