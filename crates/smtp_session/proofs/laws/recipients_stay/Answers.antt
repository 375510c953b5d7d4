use Rattle.smtp_session.proofs.TransactionLemmas.{data_taken, goes_on, recipient_taken, sender_taken}
use Rattle.smtp_session.proofs.laws.recipients_stay.Goals as goal

pub returns-clause-sender : goal.returns-clause-sender
returns-clause-sender c = sender_taken

pub returns-clause-recipient : goal.returns-clause-recipient
returns-clause-recipient c = recipient_taken

pub returns-clause-data : goal.returns-clause-data
returns-clause-data c = data_taken

pub returns-clause-going : goal.returns-clause-going
returns-clause-going c = goes_on
