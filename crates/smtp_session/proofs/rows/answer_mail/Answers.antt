use Rattle.smtp_session.proofs.rows.answer_mail.Goals as goal

pub returns-in-Greeted-clause-reply : goal.returns-in-Greeted-clause-reply
returns-in-Greeted-clause-reply c = rw c.in-Greeted.is c.mail.ensures.reply

pub returns-in-Greeted-clause-next : goal.returns-in-Greeted-clause-next
returns-in-Greeted-clause-next c = rw c.in-Greeted.is c.mail.ensures.next
