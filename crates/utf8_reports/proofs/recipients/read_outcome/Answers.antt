use Rattle.std.proofs.Common.{subst, sym}
use Rattle.utf8_reports.specs.Recipients.{IsStatusCode}
use Rattle.utf8_reports.proofs.OutcomeLines.{begins_status, status_is, outcome_whole}
use Rattle.utf8_reports.proofs.recipients.read_outcome.Goals as goal

pub returns-in_default-clause-exact : goal.returns-in_default-clause-exact
returns-in_default-clause-exact c status code rest is may ends whole = c.in_default.ensures.none _ whole

pub returns-in_default-field_body-clause-exact : goal.returns-in_default-field_body-clause-exact
returns-in_default-field_body-clause-exact c status code rest is may ends whole =
    c.in_default-field_body.ensures.none _ _ (begins_status c.args.octets.now c.in-Some.after.now status rest code c.in-Some.ensures.found is whole)

pub returns-then-not-is_status-clause-exact : goal.returns-then-not-is_status-clause-exact
returns-then-not-is_status-clause-exact c status code rest is may ends whole =
    let same = status_is c.args.octets.now c.in-Some.after.now c.in-Some-field_body.status.now c.in-Some-field_body.after.now status rest code c.in-Some.ensures.found c.in-Some-field_body.ensures.found is whole in
    let found = c.is_status.ensures.1 (subst IsStatusCode (sym same.body) is) in
    let not_so = c.if-not-is_status.true in
    cc

pub returns-in_default-read_diagnostic-clause-exact : goal.returns-in_default-read_diagnostic-clause-exact
returns-in_default-read_diagnostic-clause-exact c status code rest is may ends whole =
    let same = status_is c.args.octets.now c.in-Some.after.now c.in-Some-field_body.status.now c.in-Some-field_body.after.now status rest code c.in-Some.ensures.found c.in-Some-field_body.ensures.found is whole in
    c.in_default-read_diagnostic.ensures.exact code rest may ends same.rest

pub returns-clause-found : goal.returns-clause-found
returns-clause-found c =
    let code = c.in-Some-read_diagnostic.ensures.found in (
      c.is_status.ensures.0 c.if-not-is_status.false,
      code.0,
      outcome_whole c.args.octets.now c.in-Some.after.now c.in-Some-field_body.status.now c.in-Some-field_body.after.now c.in-Some-read_diagnostic.rest.now c.in-Some-read_diagnostic.code
          c.in-Some.ensures.found c.in-Some-field_body.ensures.found code.1,
    )

pub returns-clause-exact : goal.returns-clause-exact
returns-clause-exact c status code rest is may ends whole =
    let same = status_is c.args.octets.now c.in-Some.after.now c.in-Some-field_body.status.now c.in-Some-field_body.after.now status rest code c.in-Some.ensures.found c.in-Some-field_body.ensures.found is whole in
    let last = c.in-Some-read_diagnostic.ensures.exact code rest may ends same.rest in
    (same.body, last.0, last.1)
