use Rattle.std.proofs.Common.{length}
use Rattle.field_tokens.specs.Lexemes.{values_of}
use Rattle.address_lists.proofs.PhraseWriting.{PassesGaps}
use Rattle.address_lists.proofs.writing.after_gaps.Given as goal

abbrev pub invariant-loop-lexeme : goal.invariant-loop-lexeme
invariant-loop-lexeme l = PassesGaps (values_of l.lexemes) (values_of l.rest)

abbrev pub decreases-loop-lexeme : goal.decreases-loop-lexeme
decreases-loop-lexeme l = length (values_of l.rest)
