use Rattle.field_tokens.proofs.MarkLemmas.{marks_turn, marks_octets}
use Rattle.field_tokens.proofs.lexemes.Lexemes.octets.Goals as goal

pub loop-mark-preserved : goal.loop-mark-preserved
loop-mark-preserved c = marks_turn _ _ _ _ _ _ _ _ c.loop-mark.invariant c.loop-mark-test.true c.split_at.ensures.back c.min.ensures c.len.ensures

pub returns : goal.returns
returns c = marks_octets _ _ _ _ _ _ c.loop-mark.invariant c.loop-mark-test.false c.split_at-2.ensures.front c.saturating_sub.ensures
