use Rattle.utf8_reports.proofs.OneSaying.{says_one}
use Rattle.utf8_reports.proofs.laws.reports_say_one.Goals as goal

pub returns : goal.returns
returns c = says_one
