use Rattle.utf8_reports.proofs.ReportReading.{report_parts, report_says, same_ends}
use Rattle.utf8_reports.proofs.reading.find_report.Goals as goal

pub returns-in_default-clause-exact : goal.returns-in_default-clause-exact
returns-in_default-clause-exact c failure msg on =
    let parts = report_parts failure msg c.args.octets.now on in
    let found = c.in_ok-heading.ensures.exact _ _ parts.rest parts.begins in
    rw c.in_default.is at found

pub returns-in-Some-2-clause-found : goal.returns-in-Some-2-clause-found
returns-in-Some-2-clause-found c =
    let h = c.in-Some.heading in
    let begins = c.in_ok-heading.ensures.found in
    let ends = c.in_ok-failed.ensures.found in
    report_says c.args.octets.now h.name.now h.rest.now h.global c.in-Some-2.failed (rw c.in-Some.is at begins) (rw c.in-Some-2.is at ends)

pub returns-in-Some-2-clause-exact : goal.returns-in-Some-2-clause-exact
returns-in-Some-2-clause-exact c failure msg on =
    let h = c.in-Some.heading in
    let parts = report_parts failure msg c.args.octets.now on in
    let found = c.in_ok-heading.ensures.exact _ _ parts.rest parts.begins in
    let same = rw c.in-Some.is at found in
    let failed = c.in_ok-failed.ensures.exact failure.failed (same_ends failure h.name.now h.rest.now parts.rest h.global same.0 same.1 same.2 parts.ends) in
    record { global = same.1; failed = rw c.in-Some-2.is at failed }

pub returns-in-None-clause-exact : goal.returns-in-None-clause-exact
returns-in-None-clause-exact c failure msg on =
    let h = c.in-Some.heading in
    let parts = report_parts failure msg c.args.octets.now on in
    let found = c.in_ok-heading.ensures.exact _ _ parts.rest parts.begins in
    let same = rw c.in-Some.is at found in
    let failed = c.in_ok-failed.ensures.exact failure.failed (same_ends failure h.name.now h.rest.now parts.rest h.global same.0 same.1 same.2 parts.ends) in
    rw c.in-None.is at failed
