use Rattle.field_tokens.proofs.TreeLemmas.{AddsItem-nested}
use Rattle.field_tokens.proofs.trees.push_nested.Goals as goal

pub returns : goal.returns
returns c = AddsItem-nested _ _ _ c.in_ok-push.ensures.items
