use Rattle.mime_tree.proofs.NoFaults.{no_tree_fault}
use Rattle.mime_tree.proofs.OneTreeFault.{one_tree_fault}
use Rattle.mime_tree.proofs.laws.tree_faults_are_one.Goals as goal

pub returns-clause-one : goal.returns-clause-one
returns-clause-one c = one_tree_fault

pub returns-clause-none : goal.returns-clause-none
returns-clause-none c = no_tree_fault
