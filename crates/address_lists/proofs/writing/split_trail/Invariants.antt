use Rattle.std.proofs.Common.{length}
use Rattle.field_tokens.specs.Lexemes.{values_of}
use Rattle.address_grammar.specs.private.Lexemes.{is_blank_token}
use Rattle.address_lists.proofs.PhraseWriting.{TrailSoFar}
use Rattle.address_lists.proofs.writing.split_trail.Given as goal

abbrev pub invariant-loop-lexeme : goal.invariant-loop-lexeme
invariant-loop-lexeme l = TrailSoFar is_blank_token (values_of l.lexemes) (values_of l.trail) (values_of l.rest)

abbrev pub decreases-loop-lexeme : goal.decreases-loop-lexeme
decreases-loop-lexeme l = length (values_of l.rest)
