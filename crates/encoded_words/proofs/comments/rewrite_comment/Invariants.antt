use Rattle.std.proofs.Common.{length}
use Rattle.encoded_words.proofs.CommentsWritten.{WritesSoFar}
use Rattle.encoded_words.proofs.comments.rewrite_comment.Given as goal

abbrev pub invariant-loop-rest : goal.invariant-loop-rest
invariant-loop-rest l = WritesSoFar l.text l.units l.run l.after_encoded l.rest l.initial.made l.made

abbrev pub decreases-loop-rest : goal.decreases-loop-rest
decreases-loop-rest l = length l.rest
