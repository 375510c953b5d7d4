use Rattle.std.proofs.Common.{false, refl}
use Rattle.imap_session.specs.Machine.{not_authenticated_step, step}
use Rattle.imap_session.proofs.StepLemmas.{TakesAt-plain}
use Rattle.imap_session.proofs.commands.answer_command.Goals as goal

pub returns-in-NotAuthenticated-clause-takes : goal.returns-in-NotAuthenticated-clause-takes
unfolding step
returns-in-NotAuthenticated-clause-takes g c = rw c.in-NotAuthenticated.is
    (TakesAt-plain c.args.outside.now c.answer_unauthenticated.new.outside c.answer_unauthenticated.result false
    (λ oracles now. not_authenticated_step oracles c.args.tag.now c.args.outside.now.desk.store c.args.command.now) refl (λ now. c.answer_unauthenticated.ensures.takes))

pub returns-in-Authenticated-clause-takes : goal.returns-in-Authenticated-clause-takes
unfolding step
returns-in-Authenticated-clause-takes g c = rw c.in-Authenticated.is c.answer_authenticated.ensures.takes

pub returns-in-EnabledAuthenticated-clause-takes : goal.returns-in-EnabledAuthenticated-clause-takes
unfolding step
returns-in-EnabledAuthenticated-clause-takes g c = rw c.in-EnabledAuthenticated.is c.answer_authenticated-in-EnabledAuthenticated.ensures.takes

pub returns-in-Selected-clause-takes : goal.returns-in-Selected-clause-takes
unfolding step
returns-in-Selected-clause-takes g c = rw c.in-Selected.is c.answer_selected.ensures.takes

pub returns-in-EnabledSelected-clause-takes : goal.returns-in-EnabledSelected-clause-takes
unfolding step
returns-in-EnabledSelected-clause-takes g c = rw c.in-EnabledSelected.is c.answer_selected-in-EnabledSelected.ensures.takes
