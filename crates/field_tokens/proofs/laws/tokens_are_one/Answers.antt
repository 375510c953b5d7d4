use Rattle.field_tokens.proofs.TokenLists.{HasTokens-once}
use Rattle.field_tokens.proofs.laws.tokens_are_one.Goals as goal

pub returns : goal.returns
returns c = HasTokens-once
