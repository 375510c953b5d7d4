use Rattle.std.proofs.Common.{sym, ◌∙◌}
use Rattle.std.proofs.lemmas.Result.{on_ok_weaker}
use Rattle.field_tokens.proofs.CommentWriting.{comment_begins, comment_kept, comment_written}
use Rattle.field_tokens.proofs.comments.write_comment.Goals as goal

pub returns-then-is_ascii : goal.returns-then-is_ascii
returns-then-is_ascii c = on_ok_weaker c.push_line.result (comment_kept c.args.comment.now _ _ c.requires.comment (sym c.is_ascii.ensures ∙ c.if-is_ascii.true)) c.push_line.ensures

pub write_nested-requires-clause-comment : goal.write_nested-requires-clause-comment
write_nested-requires-clause-comment c = comment_begins c.args.comment.now c.requires.comment

pub returns : goal.returns
returns c = comment_written c.args.comment.now _ _ _ _ c.requires.comment c.in_ok-write_nested.ensures
