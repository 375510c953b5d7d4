use Rattle.std.proofs.Common.{◌≡◌, ◌++◌, length}
use Rattle.field_tokens.specs.Lexemes.{values_of}
use Rattle.field_tokens.specs.Squeezed.{octets_of}
use Rattle.address_lists.proofs.writing.push_octets.Given as goal

abbrev pub invariant-loop-lexeme : goal.invariant-loop-lexeme
invariant-loop-lexeme l = l.made ++ octets_of (values_of l.rest) ≡ l.fn.made ++ octets_of (values_of l.lexemes)

abbrev pub decreases-loop-lexeme : goal.decreases-loop-lexeme
decreases-loop-lexeme l = length (values_of l.rest)
