use Rattle.utf8_reports.proofs.OneReport.{has_tree}
use Rattle.utf8_reports.proofs.laws.reports_have_trees.Goals as goal

pub returns : goal.returns
returns c = has_tree
