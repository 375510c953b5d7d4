use Rattle.std.proofs.Common.{sym, ◌∙◌}
use Rattle.field_tokens.proofs.CommentsLeft.{CommentsLeft-all, comment_next, CommentsLeft-put, CommentsLeft-other, CommentsLeft-end}
use Rattle.field_tokens.proofs.comments.write_comments.Goals as goal

pub loop-lexeme-init : goal.loop-lexeme-init
loop-lexeme-init c = CommentsLeft-all _ _ c.requires

pub write_comment-requires-clause-comment : goal.write_comment-requires-clause-comment
write_comment-requires-clause-comment c = (comment_next _ _ _ _ _ _ c.loop-lexeme.invariant c.in-Some.ensures.found (sym c.is_comment.ensures ∙ c.if-is_comment.true)).0

pub write_comment-requires-clause-utf8 : goal.write_comment-requires-clause-utf8
write_comment-requires-clause-utf8 c = (comment_next _ _ _ _ _ _ c.loop-lexeme.invariant c.in-Some.ensures.found (sym c.is_comment.ensures ∙ c.if-is_comment.true)).1

pub loop-lexeme-preserved-in_ok-write_comment : goal.loop-lexeme-preserved-in_ok-write_comment
loop-lexeme-preserved-in_ok-write_comment c =
    CommentsLeft-put _ _ _ _ _ _ _ c.loop-lexeme.invariant c.in-Some.ensures.found (sym c.is_comment.ensures ∙ c.if-is_comment.true) c.in_ok-write_comment.ensures

pub loop-lexeme-preserved : goal.loop-lexeme-preserved
loop-lexeme-preserved c = CommentsLeft-other _ _ _ _ _ _ c.loop-lexeme.invariant c.in-Some.ensures.found (sym c.is_comment.ensures ∙ c.if-is_comment.false)

pub returns : goal.returns
returns c = CommentsLeft-end _ _ _ _ c.loop-lexeme.invariant c.in_default.ensures.none
