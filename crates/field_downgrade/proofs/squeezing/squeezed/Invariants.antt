use Rattle.std.proofs.Common.{length}
use Rattle.field_tokens.specs.Lexemes.{values_of}
use Rattle.field_tokens.specs.Squeezed.{squeezed_values}
use Rattle.field_downgrade.proofs.SqueezedTokens.{Squeezes}
use Rattle.field_downgrade.proofs.squeezing.squeezed.Given as goal

abbrev pub invariant-loop-token : goal.invariant-loop-token
invariant-loop-token l = Squeezes (squeezed_values (values_of l.tokens)) l.made l.is_after l.has_space_before (values_of l.rest)

abbrev pub decreases-loop-token : goal.decreases-loop-token
decreases-loop-token l = length (values_of l.rest)
