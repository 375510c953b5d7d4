use Rattle.std.proofs.Common.{length}
use Rattle.field_tokens.specs.Lexemes.{values_of}
use Rattle.address_lists.proofs.UnitStream.{WritesStream}
use Rattle.address_lists.proofs.writing.write_said.Given as goal

abbrev pub invariant-loop-lexeme : goal.invariant-loop-lexeme
invariant-loop-lexeme l = WritesStream (values_of l.lexemes) l.fn.made l.made l.reader l.is_said (values_of l.rest)

abbrev pub decreases-loop-lexeme : goal.decreases-loop-lexeme
decreases-loop-lexeme l = length (values_of l.rest)
