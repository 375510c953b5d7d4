use Rattle.utf8_reports.proofs.OneReport.{report_there}
use Rattle.utf8_reports.proofs.laws.reports_are_there.Goals as goal

pub returns : goal.returns
returns c = report_there
