use Rattle.utf8_reports.proofs.OutcomeLines.{no_code, some_code, other_code, code_whole}
use Rattle.utf8_reports.proofs.recipients.read_diagnostic.Goals as goal

pub returns-in_default-clause-exact : goal.returns-in_default-clause-exact
returns-in_default-clause-exact c code rest may ends whole = no_code c.args.octets.now rest code c.in_default.ensures.none whole

pub returns-in-Some-read_code-clause-found : goal.returns-in-Some-read_code-clause-found
returns-in-Some-read_code-clause-found c =
    let code = c.in-Some-read_code.ensures.found in
    (code.0, code_whole c.args.octets.now c.in-Some.digits.now c.in-Some.rest.now c.in-Some-read_code.code c.in-Some.ensures.found code.1)

pub returns-in-Some-read_code-clause-exact : goal.returns-in-Some-read_code-clause-exact
returns-in-Some-read_code-clause-exact c code rest may ends whole =
    let is = c.in-Some-read_code.ensures.found in
    some_code c.args.octets.now c.in-Some.digits.now c.in-Some.rest.now rest c.in-Some-read_code.code code c.in-Some.ensures.found is.0 is.1 may ends whole

pub returns-in-None-clause-exact : goal.returns-in-None-clause-exact
returns-in-None-clause-exact c code rest may ends whole =
    other_code c.args.octets.now c.in-Some.digits.now c.in-Some.rest.now rest code c.in-Some.ensures.found c.in-None.ensures.none may ends whole
