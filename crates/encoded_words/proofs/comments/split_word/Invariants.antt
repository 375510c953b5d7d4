use Rattle.std.proofs.Common.{length}
use Rattle.encoded_words.proofs.CommentReading.{ReadsNonwhite}
use Rattle.encoded_words.proofs.comments.split_word.Given as goal

abbrev pub invariant-loop-after : goal.invariant-loop-after
invariant-loop-after l = ReadsNonwhite l.octets l.rest

abbrev pub decreases-loop-after : goal.decreases-loop-after
decreases-loop-after l = length l.rest
