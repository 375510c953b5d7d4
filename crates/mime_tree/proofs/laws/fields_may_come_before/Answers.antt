use Rattle.mime_tree.proofs.KeptTrees.{fields_before, high_after}
use Rattle.mime_tree.proofs.laws.fields_may_come_before.Goals as goal

pub returns-clause-tree : goal.returns-clause-tree
returns-clause-tree c = fields_before

pub returns-clause-high : goal.returns-clause-high
returns-clause-high c = high_after
