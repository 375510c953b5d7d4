use Rattle.field_tokens.proofs.Joined.{HasTokens-join}
use Rattle.field_tokens.proofs.laws.tokens_join.Goals as goal

pub returns : goal.returns
returns c = HasTokens-join
