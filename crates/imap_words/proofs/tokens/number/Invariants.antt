use Rattle.std.proofs.Common.{length}
use Rattle.imap_words.proofs.TokenSteps.{Counted}
use Rattle.imap_words.proofs.tokens.number.Given as goal

abbrev pub invariant-loop-octet : goal.invariant-loop-octet
invariant-loop-octet l = Counted l.text l.value l.rest

abbrev pub decreases-loop-octet : goal.decreases-loop-octet
decreases-loop-octet l = length l.rest
