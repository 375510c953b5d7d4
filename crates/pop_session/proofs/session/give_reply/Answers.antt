use Rattle.pop_session.proofs.session.give_reply.Goals as goal

pub returns-in-Some-clause-replies : goal.returns-in-Some-clause-replies
returns-in-Some-clause-replies g c = rw c.in-Some.is c.give_by_argument.ensures.replies

pub returns-in-None-clause-replies : goal.returns-in-None-clause-replies
returns-in-None-clause-replies g c = rw c.in-None.is c.give_bare.ensures.replies
