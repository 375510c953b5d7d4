use Rattle.std.proofs.Common.{sym, inr}
use Rattle.param_grammar.proofs.bodies.push_comment.Goals as goal

pub returns-in_ok-push : goal.returns-in_ok-push
returns-in_ok-push c = inr (_, sym c.if-is_comment.ensures, c.in_ok-comment_tree.ensures, c.in_ok-push.ensures.items)
