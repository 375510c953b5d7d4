use Rattle.field_downgrade.proofs.OneLayout.{HasFieldLayout-once}
use Rattle.field_downgrade.proofs.laws.layouts_are_one.Goals as goal

pub returns : goal.returns
returns c = HasFieldLayout-once
