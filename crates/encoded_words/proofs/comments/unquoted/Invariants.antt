use Rattle.std.proofs.Common.{length}
use Rattle.encoded_words.proofs.CommentReading.{ReadsItems}
use Rattle.encoded_words.proofs.comments.unquoted.Given as goal

abbrev pub invariant-loop-octet : goal.invariant-loop-octet
invariant-loop-octet l = ReadsItems l.word l.octets.items l.rest

abbrev pub decreases-loop-octet : goal.decreases-loop-octet
decreases-loop-octet l = length l.rest
