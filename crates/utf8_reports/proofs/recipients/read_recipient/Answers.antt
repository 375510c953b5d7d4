use Rattle.std.proofs.Common.{◌≡◌, sym, subst, ◌∙◌}
use Rattle.utf8_reports.specs.Recipients.{IsStatusCode}
use Rattle.utf8_reports.proofs.OutcomeLines.{outcome_part}
use Rattle.utf8_reports.proofs.RecipientLines.{recipient_begins, recipient_is, recipient_made, same_recipient}
use Rattle.utf8_reports.proofs.recipients.read_recipient.Goals as goal

pub returns-in_default-clause-exact : goal.returns-in_default-clause-exact
returns-in_default-clause-exact c one rest begins ends = c.in_default.ensures.none _ _ (recipient_begins c.args.global c.args.octets.now rest one begins)

pub returns-in_default-2-clause-exact : goal.returns-in_default-2-clause-exact
returns-in_default-2-clause-exact c one rest begins ends =
    let same = recipient_is c.args.global c.args.octets.now c.in-Some.typed.now c.in-Some.after.now rest one c.in-Some.ensures.found begins in
    let found = c.in_ok-address.ensures.exact one.address begins.is_failed.address same.body in
    rw c.in_default-2.is at found

pub returns-in_default-read_outcome-clause-exact : goal.returns-in_default-read_outcome-clause-exact
returns-in_default-read_outcome-clause-exact c one rest begins ends =
    let same = recipient_is c.args.global c.args.octets.now c.in-Some.typed.now c.in-Some.after.now rest one c.in-Some.ensures.found begins in
    c.in_default-read_outcome.ensures.exact one.status one.code rest begins.is_failed.status begins.is_failed.code ends same.rest

pub returns-clause-found : goal.returns-clause-found
returns-clause-found c =
    let found = c.in_ok-address.ensures.found in
    let address = rw c.in-Some-2.is at found in
    let outcome = c.in-Some-read_outcome.ensures.found in
    let status = c.in_ok-status.ensures in
    recipient_made c.args.global c.args.octets.now c.in-Some.typed.now c.in-Some.after.now c.in-Some-read_outcome.outcome.rest.now
    (record { address = c.in-Some-2.address; status = c.in_ok-status.status; code = c.in-Some-read_outcome.outcome.code })
    c.in-Some.ensures.found address.0 address.1 (subst IsStatusCode (sym status) outcome.0) outcome.1
    (subst (λ s. c.in-Some.after.now ≡ outcome_part s c.in-Some-read_outcome.outcome.code c.in-Some-read_outcome.outcome.rest.now) (sym status) outcome.2)

pub returns-clause-exact : goal.returns-clause-exact
returns-clause-exact c one rest begins ends =
    let same = recipient_is c.args.global c.args.octets.now c.in-Some.typed.now c.in-Some.after.now rest one c.in-Some.ensures.found begins in
    let found = c.in_ok-address.ensures.exact one.address begins.is_failed.address same.body in
    let address = rw c.in-Some-2.is at found in
    let outcome = c.in-Some-read_outcome.ensures.exact one.status one.code rest begins.is_failed.status begins.is_failed.code ends same.rest in
    (same_recipient one c.in-Some-2.address c.in_ok-status.status c.in-Some-read_outcome.outcome.code address (c.in_ok-status.ensures ∙ outcome.0) outcome.1, outcome.2)
