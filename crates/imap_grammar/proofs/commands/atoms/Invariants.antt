use Rattle.std.proofs.Common.{◌≡◌, None, length}
use Rattle.mail_wire.specs.Lines.{first_line}
use Rattle.imap_words.specs.Languages.{IsOctet, IsMoreThan}
use Rattle.imap_words.specs.Tokens.{IsCrlf, IsImapAtom}
use Rattle.imap_words.specs.Going.{Continues}
use Rattle.imap_grammar.specs.Commands.{IsAtoms}
use Rattle.imap_grammar.proofs.commands.atoms.Given as goal

abbrev pub invariant-loop-separator : goal.invariant-loop-separator
invariant-loop-separator l = record { so : Continues IsAtoms l.text (IsMoreThan (IsOctet 32) IsImapAtom IsCrlf l.atoms) l.rest; joins : first_line l.rest ≡ None → first_line l.text ≡ None }

abbrev pub decreases-loop-separator : goal.decreases-loop-separator
decreases-loop-separator l = length l.rest
