use Rattle.imap_mailboxes.proofs.ReadMailboxes.{mailboxes_read}
use Rattle.imap_mailboxes.proofs.laws.mailboxes_are_read.Goals as goal

pub returns : goal.returns
returns c = mailboxes_read
