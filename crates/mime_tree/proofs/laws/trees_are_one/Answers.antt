use Rattle.mime_tree.proofs.OneTree.{one_tree}
use Rattle.mime_tree.proofs.laws.trees_are_one.Goals as goal

pub returns : goal.returns
returns c = one_tree
