use Rattle.std.proofs.Common.{length}
use Rattle.field_tokens.specs.Lexemes.{values_of}
use Rattle.field_tokens.specs.Squeezed.{is_gap}
use Rattle.address_lists.proofs.PhraseWriting.{TrailSoFar}
use Rattle.address_lists.proofs.ascii_texts.before_gaps.Given as goal

abbrev pub invariant-loop-lexeme : goal.invariant-loop-lexeme
invariant-loop-lexeme l = TrailSoFar (λ t. is_gap t.kind) (values_of l.lexemes) (values_of l.trail) (values_of l.rest)

abbrev pub decreases-loop-lexeme : goal.decreases-loop-lexeme
decreases-loop-lexeme l = length (values_of l.rest)
