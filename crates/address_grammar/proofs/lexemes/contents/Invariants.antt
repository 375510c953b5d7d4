use Rattle.std.proofs.Common.{◌≡◌, ◌++◌, length}
use Rattle.field_tokens.specs.Lexemes.{values_of}
use Rattle.address_grammar.specs.private.Lexemes.{contents}
use Rattle.address_grammar.proofs.lexemes.contents.Given as goal

abbrev pub invariant-loop-lexeme : goal.invariant-loop-lexeme
invariant-loop-lexeme l = l.made ++ contents (values_of l.rest) ≡ contents (values_of l.lexemes)

abbrev pub decreases-loop-lexeme : goal.decreases-loop-lexeme
decreases-loop-lexeme l = length (values_of l.rest)
