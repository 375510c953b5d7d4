use Rattle.utf8_reports.proofs.OneReport.{one_report}
use Rattle.utf8_reports.proofs.laws.reports_are_one.Goals as goal

pub returns : goal.returns
returns c = one_report
