use Rattle.smtp_session.proofs.session.accept_data.Goals as goal

pub returns-clause-marks : goal.returns-clause-marks
returns-clause-marks c is other =
    let marks = c.in_ok-local.ensures.marks (rw (c.in_ok-trace.ensures, c.as_slice.ensures) other) (c.in_ok-judged.ensures.mark is) in
    record { local = marks.0; remote = marks.1 }
