use Rattle.std.proofs.Common.{◌≡◌, length}
use Rattle.field_tokens.specs.Lexemes.{values_of}
use Rattle.address_grammar.specs.private.Lexemes.{are_blank}
use Rattle.address_grammar.proofs.lexemes.are_blank.Given as goal

abbrev pub invariant-loop-lexeme : goal.invariant-loop-lexeme
invariant-loop-lexeme l = are_blank (values_of l.lexemes) ≡ are_blank (values_of l.rest)

abbrev pub decreases-loop-lexeme : goal.decreases-loop-lexeme
decreases-loop-lexeme l = length (values_of l.rest)
