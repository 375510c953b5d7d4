use Rattle.mail_command.proofs.CauseLemmas.{complete_run}
use Rattle.mail_command.proofs.command.run.Goals as goal

pub returns-clause-generates : goal.returns-clause-generates
returns-clause-generates g c = rw c.status_after.ensures c.work.ensures.generates

pub returns-clause-session : goal.returns-clause-session
returns-clause-session g c = rw c.status_after.ensures c.work.ensures.session

pub returns-clause-account : goal.returns-clause-account
returns-clause-account g c = rw c.status_after.ensures c.work.ensures.account

pub returns-clause-account_exact : goal.returns-clause-account_exact
returns-clause-account_exact g c = rw c.status_after.ensures c.work.ensures.account_exact

pub returns-clause-account_by_input : goal.returns-clause-account_by_input
returns-clause-account_by_input g c = rw c.status_after.ensures c.work.ensures.account_by_input

pub returns-clause-account_by_input_exact : goal.returns-clause-account_by_input_exact
returns-clause-account_by_input_exact g c = rw c.status_after.ensures c.work.ensures.account_by_input_exact

pub returns-clause-domain : goal.returns-clause-domain
returns-clause-domain g c = rw c.status_after.ensures c.work.ensures.domain

pub returns-clause-domain_exact : goal.returns-clause-domain_exact
returns-clause-domain_exact g c = rw c.status_after.ensures c.work.ensures.domain_exact

pub returns-clause-journal : goal.returns-clause-journal
returns-clause-journal g c = rw c.status_after.ensures c.work.ensures.journal

pub returns-clause-relay : goal.returns-clause-relay
returns-clause-relay g c = rw c.status_after.ensures c.work.ensures.relay

pub returns-clause-statuses : goal.returns-clause-statuses
returns-clause-statuses g c = rw c.status_after.ensures c.work.ensures.statuses

pub returns-clause-complete : goal.returns-clause-complete
returns-clause-complete g c = rw c.status_after.ensures (complete_run _ _ _ _ _ c.work.ensures.cause)
