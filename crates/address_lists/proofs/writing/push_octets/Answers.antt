use Rattle.field_tokens.specs.Lexemes.{values_of}
use Rattle.address_lists.proofs.PhraseWriting.{octets_turn, octets_end}
use Rattle.address_lists.proofs.writing.push_octets.Goals as goal

pub loop-lexeme-preserved : goal.loop-lexeme-preserved
loop-lexeme-preserved c = octets_turn (values_of c.args.lexemes) _ _ _ c.args.made.now c.loop-lexeme.made _ c.loop-lexeme.invariant c.in-Some.ensures.found c.in_ok-push_slice.ensures.ok

pub returns : goal.returns
returns c = octets_end (values_of c.args.lexemes) _ c.args.made.now c.loop-lexeme.made c.loop-lexeme.invariant c.in_default.ensures.none
