use Rattle.smtp_session.proofs.session.begun_next.Goals as goal

pub returns-in-Some-clause-first : goal.returns-in-Some-clause-first
returns-in-Some-clause-first c desk same known = c.begun.ensures.first desk same (rw c.in-Some.is at known)
