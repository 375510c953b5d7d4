use Rattle.pop_session.specs.Machine.{asked_of, step}
use Rattle.pop_session.specs.declared.states.PopState.TheVariants as pop
use Rattle.pop_session.proofs.RowLemmas.{answers_step}
use Rattle.pop_session.proofs.session.PopStateRows.answer.Goals as goal

pub returns-in-Greeted-clause-answers : goal.returns-in-Greeted-clause-answers
unfolding asked_of step
returns-in-Greeted-clause-answers g c = rw c.in-Greeted.is
    (answers_step c.args.outside.now c.answer_first.new.outside pop.Greeted c.args.line.now c.answer_first.result
    (rw (c.read_command-command.ensures.keyword, c.read_command-command.ensures.argument) at c.answer_first.ensures.takes))

pub returns-in-Authorization-clause-answers : goal.returns-in-Authorization-clause-answers
unfolding asked_of step
returns-in-Authorization-clause-answers g c = rw c.in-Authorization.is
    (answers_step c.args.outside.now c.authorize.new.outside (pop.Authorization c.in-Authorization.pop) c.args.line.now c.authorize.result
    (rw (c.read_command-command.ensures.keyword, c.read_command-command.ensures.argument) at c.authorize.ensures.takes))

pub returns-in-EnabledAuthorization-clause-answers : goal.returns-in-EnabledAuthorization-clause-answers
unfolding asked_of step
returns-in-EnabledAuthorization-clause-answers g c = rw c.in-EnabledAuthorization.is
    (answers_step c.args.outside.now c.authorize-in-EnabledAuthorization.new.outside (pop.EnabledAuthorization c.in-EnabledAuthorization.pop) c.args.line.now c.authorize-in-EnabledAuthorization.result
    (rw (c.read_command-command.ensures.keyword, c.read_command-command.ensures.argument) at c.authorize-in-EnabledAuthorization.ensures.takes))

pub returns-in-Transaction-clause-answers : goal.returns-in-Transaction-clause-answers
unfolding asked_of step
returns-in-Transaction-clause-answers g c = rw c.in-Transaction.is
    (answers_step c.args.outside.now c.transact.new.outside (pop.Transaction c.in-Transaction.pop) c.args.line.now c.transact.result
    (rw (c.read_command-command.ensures.keyword, c.read_command-command.ensures.argument) at c.transact.ensures.takes))

pub returns-in-EnabledTransaction-clause-answers : goal.returns-in-EnabledTransaction-clause-answers
unfolding asked_of step
returns-in-EnabledTransaction-clause-answers g c = rw c.in-EnabledTransaction.is
    (answers_step c.args.outside.now c.transact-in-EnabledTransaction.new.outside (pop.EnabledTransaction c.in-EnabledTransaction.pop) c.args.line.now c.transact-in-EnabledTransaction.result
    (rw (c.read_command-command.ensures.keyword, c.read_command-command.ensures.argument) at c.transact-in-EnabledTransaction.ensures.takes))
