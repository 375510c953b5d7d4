use Rattle.std.proofs.Common.{[], length}
use Rattle.encoded_words.proofs.CommentReading.{ReadsComment}
use Rattle.encoded_words.proofs.comments.read_comment.Given as goal

abbrev pub invariant-loop-rest : goal.invariant-loop-rest
invariant-loop-rest l = ReadsComment l.text [] l.units l.run l.after_encoded l.rest

abbrev pub decreases-loop-rest : goal.decreases-loop-rest
decreases-loop-rest l = length l.rest
