use Rattle.std.proofs.Common.{length}
use Rattle.field_tokens.proofs.CommentReading.{ReadsOn}
use Rattle.field_tokens.proofs.trees.+read_comment.Given as goal

abbrev pub decreases-read_comment : goal.decreases-read_comment
decreases-read_comment l = l.levels

abbrev pub invariant-loop-items : goal.invariant-loop-items
invariant-loop-items l = ReadsOn l.levels l.end l.octets l.rest l.items.items

abbrev pub decreases-loop-items : goal.decreases-loop-items
decreases-loop-items l = length l.rest
