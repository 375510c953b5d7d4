use Rattle.std.proofs.Common.{◌≡◌, length}
use Rattle.std.specs.List.{list_all}
use Rattle.field_tokens.specs.Lexemes.{values_of}
use Rattle.address_grammar.specs.private.Lexemes.{says_itself}
use Rattle.address_grammar.proofs.lexemes.are_plain.Given as goal

abbrev pub invariant-loop-lexeme : goal.invariant-loop-lexeme
invariant-loop-lexeme l = list_all says_itself (values_of l.lexemes) ≡ list_all says_itself (values_of l.rest)

abbrev pub decreases-loop-lexeme : goal.decreases-loop-lexeme
decreases-loop-lexeme l = length (values_of l.rest)
