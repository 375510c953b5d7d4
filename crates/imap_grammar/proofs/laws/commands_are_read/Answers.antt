use Rattle.imap_grammar.proofs.DecidingDue.{commands_read}
use Rattle.imap_grammar.proofs.laws.commands_are_read.Goals as goal

pub returns : goal.returns
returns c = commands_read
