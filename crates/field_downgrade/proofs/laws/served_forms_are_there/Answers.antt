use Rattle.field_downgrade.proofs.AllLayouts.{IsServed-some}
use Rattle.field_downgrade.proofs.laws.served_forms_are_there.Goals as goal

pub returns : goal.returns
returns c = IsServed-some
