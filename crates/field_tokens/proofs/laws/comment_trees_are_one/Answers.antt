use Rattle.field_tokens.proofs.BodyLemmas.{HasComment-once}
use Rattle.field_tokens.proofs.laws.comment_trees_are_one.Goals as goal

pub returns : goal.returns
returns c = HasComment-once
