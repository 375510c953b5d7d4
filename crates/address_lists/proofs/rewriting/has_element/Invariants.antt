use Rattle.std.proofs.Common.{◌≡◌, length}
use Rattle.field_tokens.specs.Lexemes.{values_of}
use Rattle.std.specs.List.{list_any}
use Rattle.address_lists.specs.private.ListWriting.{is_element_token}
use Rattle.address_lists.proofs.rewriting.has_element.Given as goal

abbrev pub invariant-loop-lexeme : goal.invariant-loop-lexeme
invariant-loop-lexeme l = list_any is_element_token (values_of l.lexemes) ≡ list_any is_element_token (values_of l.rest)

abbrev pub decreases-loop-lexeme : goal.decreases-loop-lexeme
decreases-loop-lexeme l = length (values_of l.rest)
