use Rattle.std.proofs.Common.{◌≡◌, ◌≤◌, length}
use Rattle.field_tokens.specs.Squeezed.{words_of}
use Rattle.field_tokens.specs.Lexemes.{values_of}
use Rattle.address_grammar.proofs.lexemes.first_word.Given as goal

abbrev pub invariant-loop-lexeme : goal.invariant-loop-lexeme
invariant-loop-lexeme l = (words_of (values_of l.lexemes) ≡ words_of (values_of l.rest)) × (length (values_of l.rest) ≤ length (values_of l.lexemes))

abbrev pub decreases-loop-lexeme : goal.decreases-loop-lexeme
decreases-loop-lexeme l = length (values_of l.rest)
