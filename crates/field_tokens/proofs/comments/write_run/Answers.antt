use Rattle.std.proofs.Common.{sym, ◌∙◌}
use Rattle.field_tokens.proofs.CommentWriting.{run_ascii, run_encoded}
use Rattle.field_tokens.proofs.comments.write_run.Goals as goal

pub returns-then-is_ascii : goal.returns-then-is_ascii
returns-then-is_ascii c = run_ascii c.args.run.now _ _ (sym c.is_ascii.ensures ∙ c.if-is_ascii.true) c.in_ok-push_line.ensures

pub returns : goal.returns
returns c = run_encoded c.args.run.now _ _ (sym c.is_ascii.ensures ∙ c.if-is_ascii.false) c.in_ok-rewrite_comment.ensures
