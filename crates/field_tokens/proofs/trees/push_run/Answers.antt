use Rattle.field_tokens.proofs.TreeLemmas.{AddsItem-run}
use Rattle.field_tokens.proofs.trees.push_run.Goals as goal

pub returns-in_ok-push : goal.returns-in_ok-push
returns-in_ok-push c = rw (c.in-Some.is) (AddsItem-run _ _ c.in-Some.span c.in_ok-push.ensures.items)
