use Rattle.address_grammar.proofs.lexemes.mail_marks.Goals as goal

pub returns-in-Ok-Some-clause-ok : goal.returns-in-Ok-Some-clause-ok
returns-in-Ok-Some-clause-ok c = rw (c.in-Ok-Some.field-0-is) at c.in-Ok-Some.ensures.some

pub returns-in-Ok-None-clause-malformed : goal.returns-in-Ok-None-clause-malformed
returns-in-Ok-None-clause-malformed c = λ _. rw (c.in-Ok-None.field-0-is) at c.in-Ok-None.ensures.none
