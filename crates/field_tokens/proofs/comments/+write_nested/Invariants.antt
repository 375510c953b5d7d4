use Rattle.std.proofs.Common.{length}
use Rattle.field_tokens.proofs.CommentWriting.{WritesOn}
use Rattle.field_tokens.proofs.comments.+write_nested.Given as goal

abbrev pub decreases-write_nested : goal.decreases-write_nested
decreases-write_nested l = l.levels

abbrev pub invariant-loop-ascii_text : goal.invariant-loop-ascii_text
invariant-loop-ascii_text l = WritesOn l.levels l.initial.rest l.rest l.ascii l.initial.made l.made

abbrev pub decreases-loop-ascii_text : goal.decreases-loop-ascii_text
decreases-loop-ascii_text l = length l.rest
