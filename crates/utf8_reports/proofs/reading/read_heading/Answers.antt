use Rattle.std.proofs.Common.{sym, subst}
use Rattle.utf8_reports.specs.Destinations.{IsReporter}
use Rattle.utf8_reports.specs.private.Reading.{IsShownText, EndsHeading}
use Rattle.utf8_reports.proofs.HeadingLines.{from_begins, from_is, to_begins, to_is, ends_once, heading_begins}
use Rattle.utf8_reports.proofs.reading.read_heading.Goals as goal

pub returns-in_default-clause-exact : goal.returns-in_default-clause-exact
returns-in_default-clause-exact c name global rest is = c.in_default.ensures.none _ _ (from_begins c.args.octets.now name rest global is)

pub returns-then-not-branch-clause-exact : goal.returns-then-not-branch-clause-exact
returns-then-not-branch-clause-exact c name global rest is =
    let same = from_is c.args.octets.now c.in-Some.name.now c.in-Some.after.now name rest global c.in-Some.ensures.found is in
    let reporter = c.in_ok-is_reporter.ensures.1 (subst IsReporter (sym same.body) is.is_reporter) in
    let other = c.if-not-branch.true in
    cc

pub returns-in_default-field_body-clause-exact : goal.returns-in_default-field_body-clause-exact
returns-in_default-field_body-clause-exact c name global rest is =
    c.in_default-field_body.ensures.none _ _ (to_begins c.args.octets.now c.in-Some.name.now c.in-Some.after.now name rest global c.in-Some.ensures.found is)

pub returns-in_default-2-clause-exact : goal.returns-in_default-2-clause-exact
returns-in_default-2-clause-exact c name global rest is =
    let to = to_is c.args.octets.now c.in-Some.name.now c.in-Some.after.now c.in-Some-field_body.to.now c.in-Some-field_body.after.now name rest global c.in-Some.ensures.found c.in-Some-field_body.ensures.found is in
    let found = c.in_ok-global.ensures.exact global (subst (λ t. IsShownText t global) (sym to.body) is.is_path) in
    rw c.in_default-2.is at found

pub returns-in-Some-after_date-clause-found : goal.returns-in-Some-after_date-clause-found
returns-in-Some-after_date-clause-found c =
    let path = c.in_ok-global.ensures.found in
    heading_begins c.args.octets.now c.in-Some.name.now c.in-Some.after.now c.in-Some-field_body.to.now c.in-Some-field_body.after.now c.in-Some-after_date.rest.now c.in-Some-2.global
    c.in-Some.ensures.found c.in-Some-field_body.ensures.found (c.in_ok-is_reporter.ensures.0 c.if-not-branch.false) (rw c.in-Some-2.is at path) c.in-Some-after_date.ensures.found

pub returns-in-Some-after_date-clause-exact : goal.returns-in-Some-after_date-clause-exact
returns-in-Some-after_date-clause-exact c name global rest is =
    let from = from_is c.args.octets.now c.in-Some.name.now c.in-Some.after.now name rest global c.in-Some.ensures.found is in
    let to = to_is c.args.octets.now c.in-Some.name.now c.in-Some.after.now c.in-Some-field_body.to.now c.in-Some-field_body.after.now name rest global c.in-Some.ensures.found c.in-Some-field_body.ensures.found is in
    let found = c.in_ok-global.ensures.exact global (subst (λ t. IsShownText t global) (sym to.body) is.is_path) in
    (from.body, rw c.in-Some-2.is at found, ends_once c.in-Some-field_body.after.now _ rest c.in-Some-after_date.ensures.found (subst (λ d. EndsHeading d rest) (sym to.rest) is.ends))

pub returns-in-None-clause-exact : goal.returns-in-None-clause-exact
returns-in-None-clause-exact c name global rest is =
    let to = to_is c.args.octets.now c.in-Some.name.now c.in-Some.after.now c.in-Some-field_body.to.now c.in-Some-field_body.after.now name rest global c.in-Some.ensures.found c.in-Some-field_body.ensures.found is in
    c.in-None.ensures.none rest (subst (λ d. EndsHeading d rest) (sym to.rest) is.ends)
