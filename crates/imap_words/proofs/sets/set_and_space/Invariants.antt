use Rattle.std.proofs.Common.{length}
use Rattle.imap_words.specs.Languages.{IsOctet, IsMoreThan}
use Rattle.imap_words.specs.Tokens.{IsSpace}
use Rattle.imap_words.specs.Sets.{IsSeqRange, IsSetAndSpace}
use Rattle.imap_words.specs.Going.{Continues}
use Rattle.imap_words.proofs.sets.set_and_space.Given as goal

abbrev pub invariant-loop-separator : goal.invariant-loop-separator
invariant-loop-separator l = Continues IsSetAndSpace l.text (IsMoreThan (IsOctet 44) IsSeqRange IsSpace l.ranges) l.rest

abbrev pub decreases-loop-separator : goal.decreases-loop-separator
decreases-loop-separator l = length l.rest
