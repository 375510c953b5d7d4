use Rattle.std.proofs.Common.{drop}
use Rattle.field_tokens.proofs.SqueezedLemmas.{Squeezes}
use Rattle.field_tokens.proofs.squeezing.squeezed.Given as goal

abbrev pub invariant-loop-token : goal.invariant-loop-token
invariant-loop-token l = Squeezes l.text l.tokens l.made l.has_space_before (drop l.token-index l.tokens)
