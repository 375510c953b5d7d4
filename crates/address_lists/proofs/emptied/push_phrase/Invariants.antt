use Rattle.std.proofs.Common.{length}
use Rattle.field_tokens.specs.Lexemes.{values_of}
use Rattle.address_lists.proofs.UnitsOnto.{TakesStream}
use Rattle.address_lists.proofs.emptied.push_phrase.Given as goal

abbrev pub invariant-loop-lexeme : goal.invariant-loop-lexeme
invariant-loop-lexeme l = TakesStream (values_of l.lexemes) l.fn.units l.units l.fn.made l.made l.reader (values_of l.rest)

abbrev pub decreases-loop-lexeme : goal.decreases-loop-lexeme
decreases-loop-lexeme l = length (values_of l.rest)
