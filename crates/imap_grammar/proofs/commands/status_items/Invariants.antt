use Rattle.std.proofs.Common.{length}
use Rattle.imap_words.specs.Languages.{IsOctet, IsMoreThan}
use Rattle.imap_words.specs.Tokens.{IsCloseParenthesis}
use Rattle.imap_words.specs.Keywords.{IsWordOf}
use Rattle.imap_words.specs.Going.{Continues}
use Rattle.imap_grammar.specs.Commands.{IsStatusItems, status_words}
use Rattle.imap_grammar.proofs.commands.status_items.Given as goal

abbrev pub invariant-loop-separator : goal.invariant-loop-separator
invariant-loop-separator l = Continues IsStatusItems l.text (IsMoreThan (IsOctet 32) (IsWordOf status_words) IsCloseParenthesis l.items) l.rest

abbrev pub decreases-loop-separator : goal.decreases-loop-separator
decreases-loop-separator l = length l.rest
