use Rattle.std.proofs.Common.{length}
use Rattle.imap_words.specs.Strings.{IsQuoted}
use Rattle.imap_words.specs.Going.{Continues}
use Rattle.imap_words.proofs.QuotedSteps.{IsRestQuoted}
use Rattle.imap_words.proofs.strings.quoted.Given as goal

abbrev pub invariant-loop-first : goal.invariant-loop-first
invariant-loop-first l = Continues (IsQuoted l.utf8) l.text (IsRestQuoted l.utf8 l.value) l.rest

abbrev pub decreases-loop-first : goal.decreases-loop-first
decreases-loop-first l = length l.rest
