use Rattle.std.proofs.Common.{sym, subst, ◌∙◌}
use Rattle.utf8_reports.specs.Reports.{header_part}
use Rattle.utf8_reports.specs.private.Reading.{IsSomeHeader}
use Rattle.utf8_reports.proofs.ReportReading.{no_status, ends_recipients, header_once, report_ends}
use Rattle.utf8_reports.proofs.reading.read_failed.Goals as goal

pub returns-in_default-clause-exact : goal.returns-in_default-clause-exact
returns-in_default-clause-exact c failed is =
    let h = c.args.heading.now in
    no_status h.rest.now c.as_slice.result.now h.name.now failed h.global (c.as_slice.ensures ∙ c.in_ok-front.ensures) (rw c.in_default.is at c.following-after_front.ensures.none) is

pub returns-in_default-2-clause-exact : goal.returns-in_default-2-clause-exact
returns-in_default-2-clause-exact c failed is =
    let h = c.args.heading.now in
    let begins = ends_recipients h.rest.now c.as_slice.result.now c.in-Some.fields.now h.name.now failed h.global (c.as_slice.ensures ∙ c.in_ok-front.ensures) (rw c.in-Some.is at c.following-after_front.ensures.found) is in
    let found = c.in_ok-failed.ensures.exact failed (header_part h.global is.header) begins in
    rw c.in_default-2.is at found

pub returns-in_default-3-clause-exact : goal.returns-in_default-3-clause-exact
returns-in_default-3-clause-exact c failed is =
    let h = c.args.heading.now in
    let begins = ends_recipients h.rest.now c.as_slice.result.now c.in-Some.fields.now h.name.now failed h.global (c.as_slice.ensures ∙ c.in_ok-front.ensures) (rw c.in-Some.is at c.following-after_front.ensures.found) is in
    let found = c.in_ok-failed.ensures.exact failed (header_part h.global is.header) begins in
    let same = rw c.in-Some-2.is at found in
    let none = c.in_ok-header.ensures.none in
    (rw c.in_default-3.is at none) is.header same.1

pub returns-then-not-branch-clause-exact : goal.returns-then-not-branch-clause-exact
returns-then-not-branch-clause-exact c failed is =
    let h = c.args.heading.now in
    let begins = ends_recipients h.rest.now c.as_slice.result.now c.in-Some.fields.now h.name.now failed h.global (c.as_slice.ensures ∙ c.in_ok-front.ensures) (rw c.in-Some.is at c.following-after_front.ensures.found) is in
    let found = c.in_ok-failed.ensures.exact failed (header_part h.global is.header) begins in
    let same = rw c.in-Some-2.is at found in
    let part = c.in_ok-header.ensures.found in
    let header = header_once h.global is.header c.in-Some-3.header.now (sym same.1 ∙ (rw c.in-Some-3.is at part)) in
    let shown = c.in_ok-is_some_header.ensures.1 (subst (IsSomeHeader h.global) header is.is_header) in
    let other = c.if-not-branch.true in
    cc

pub returns-clause-found : goal.returns-clause-found
returns-clause-found c =
    let h = c.args.heading.now in
    let recipients = c.in_ok-failed.ensures.found in
    let part = c.in_ok-header.ensures.found in
    report_ends h.rest.now c.as_slice.result.now c.in-Some.fields.now c.in-Some-2.rest.now c.in-Some-3.header.now h.name.now c.in-Some-2.failed h.global
    (c.as_slice.ensures ∙ c.in_ok-front.ensures) (rw c.in-Some.is at c.following-after_front.ensures.found) (rw c.in-Some-2.is at recipients) (rw c.in-Some-3.is at part)
    (c.in_ok-is_some_header.ensures.0 c.if-not-branch.false)

pub returns-clause-exact : goal.returns-clause-exact
returns-clause-exact c failed is =
    let h = c.args.heading.now in
    let begins = ends_recipients h.rest.now c.as_slice.result.now c.in-Some.fields.now h.name.now failed h.global (c.as_slice.ensures ∙ c.in_ok-front.ensures) (rw c.in-Some.is at c.following-after_front.ensures.found) is in
    let found = c.in_ok-failed.ensures.exact failed (header_part h.global is.header) begins in
    (rw c.in-Some-2.is at found).0
