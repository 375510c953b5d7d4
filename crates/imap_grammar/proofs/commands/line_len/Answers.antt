use Rattle.imap_grammar.proofs.commands.line_len.Goals as goal
use Rattle.imap_words.proofs.InLine.{none_here}

pub returns-clause-line : goal.returns-clause-line
returns-clause-line c = c.line_end.ensures.line none_here
