use Rattle.std.proofs.Common.{length}
use Rattle.field_tokens.specs.Lexemes.{values_of}
use Rattle.field_tokens.proofs.CommentsLeft.{CommentsLeft}
use Rattle.field_tokens.proofs.comments.write_comments.Given as goal

abbrev pub invariant-loop-lexeme : goal.invariant-loop-lexeme
invariant-loop-lexeme l = CommentsLeft (values_of l.lexemes) (values_of l.rest) l.fn.made l.made

abbrev pub decreases-loop-lexeme : goal.decreases-loop-lexeme
decreases-loop-lexeme l = length (values_of l.rest)
