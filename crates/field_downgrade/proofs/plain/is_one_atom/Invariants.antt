use Rattle.std.proofs.Common.{◌≡◌, length}
use Rattle.field_tokens.specs.Lexemes.{values_of}
use Rattle.field_tokens.specs.Squeezed.{words_of}
use Rattle.field_downgrade.proofs.plain.is_one_atom.Given as goal

abbrev pub invariant-loop-token : goal.invariant-loop-token
invariant-loop-token l = words_of (values_of l.tokens) ≡ words_of (values_of l.rest)

abbrev pub decreases-loop-token : goal.decreases-loop-token
decreases-loop-token l = length (values_of l.rest)
