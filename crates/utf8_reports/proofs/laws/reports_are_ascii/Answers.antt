use Rattle.utf8_reports.proofs.OneReport.{is_ascii_report}
use Rattle.utf8_reports.proofs.laws.reports_are_ascii.Goals as goal

pub returns : goal.returns
returns c = is_ascii_report
