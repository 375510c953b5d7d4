use Rattle.smtp_session.proofs.IntakeLemmas.{accepted_kept_once, data_forget, refused_kept_none}
use Rattle.smtp_session.proofs.KnownRecipients.{step-recipients}
use Rattle.smtp_session.specs.laws.SmtpLaws.{step-changes}
use Rattle.smtp_session.proofs.StreamLemmas.{stream_kept}
use Rattle.smtp_session.proofs.TransactionLemmas.{transaction_kept}
use Rattle.smtp_session.proofs.laws.accepted_mail_is_kept_once.Goals as goal

pub returns-clause-stored : goal.returns-clause-stored
returns-clause-stored c = accepted_kept_once

pub returns-clause-transaction : goal.returns-clause-transaction
returns-clause-transaction c = transaction_kept

pub returns-clause-refused : goal.returns-clause-refused
returns-clause-refused c = refused_kept_none

pub returns-clause-commands : goal.returns-clause-commands
returns-clause-commands c = step-changes

pub returns-clause-recipients : goal.returns-clause-recipients
returns-clause-recipients c = step-recipients

pub returns-clause-forgotten : goal.returns-clause-forgotten
returns-clause-forgotten c = data_forget

pub returns-clause-stream : goal.returns-clause-stream
returns-clause-stream c = stream_kept
