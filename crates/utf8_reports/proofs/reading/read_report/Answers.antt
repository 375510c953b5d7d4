use Rattle.utf8_reports.proofs.reading.read_report.Goals as goal

pub returns-in-Some-clause-exact : goal.returns-in-Some-clause-exact
returns-in-Some-clause-exact c failure msg on =
    let said = c.in_ok-report.ensures.exact failure msg on in
    rw c.in-Some.is at said

pub returns-in-None-clause-not_report : goal.returns-in-None-clause-not_report
returns-in-None-clause-not_report c is failure msg on =
    let said = c.in_ok-report.ensures.exact failure msg on in
    rw c.in-None.is at said

pub returns-in-None-clause-exact : goal.returns-in-None-clause-exact
returns-in-None-clause-exact c failure msg on =
    let said = c.in_ok-report.ensures.exact failure msg on in
    absurd (rw c.in-None.is at said)
