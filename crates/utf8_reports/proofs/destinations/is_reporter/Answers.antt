use Rattle.std.proofs.Common.{rules}
use Rattle.std.proofs.lemmas.Str.{IsUtf8-from_ascii}
use Rattle.std.specs.Str.{IsUtf8}
use Rattle.ace_domains.proofs.FormLemmas.{form_ascii}
use Rattle.utf8_reports.specs.Destinations.{IsReporter}
use Rattle.utf8_reports.proofs.destinations.is_reporter.Goals as goal

pub returns-in_default : goal.returns-in_default
returns-in_default c =
    let utf8 : IsReporter c.args.text.now → IsUtf8 c.args.text.now = λ is. IsUtf8-from_ascii c.args.text.now (form_ascii c.args.text.now c.args.text.now is) in
    (λ t. cc, λ is. let u = utf8 is in search rules)
