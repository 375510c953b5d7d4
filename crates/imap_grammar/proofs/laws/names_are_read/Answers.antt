use Rattle.imap_grammar.proofs.DecidingMailboxes.{names_read}
use Rattle.imap_grammar.proofs.laws.names_are_read.Goals as goal

pub returns : goal.returns
returns c = names_read
