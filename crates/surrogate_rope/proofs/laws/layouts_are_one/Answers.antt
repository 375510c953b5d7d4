use Rattle.surrogate_rope.proofs.OneLayout.{one_layout}
use Rattle.surrogate_rope.proofs.laws.layouts_are_one.Goals as goal

pub returns : goal.returns
returns c = one_layout
