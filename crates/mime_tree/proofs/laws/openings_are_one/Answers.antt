use Rattle.mime_tree.proofs.OneOpening.{one_opening}
use Rattle.mime_tree.proofs.laws.openings_are_one.Goals as goal

pub returns : goal.returns
returns c = one_opening
