use Rattle.std.proofs.Common.{sym, ◌∙◌}
use Rattle.address_lists.proofs.PhraseWriting.{gaps_start, gaps_turn, gaps_end, gaps_only}
use Rattle.address_lists.proofs.writing.after_gaps.Goals as goal

pub loop-lexeme-init : goal.loop-lexeme-init
loop-lexeme-init c = gaps_start _

pub returns-then-not-is_gap : goal.returns-then-not-is_gap
returns-then-not-is_gap c = gaps_end _ _ _ _ c.loop-lexeme.invariant c.in-Some.ensures.found (sym c.is_gap.ensures ∙ c.if-not-is_gap.true)

pub loop-lexeme-preserved : goal.loop-lexeme-preserved
loop-lexeme-preserved c = gaps_turn _ _ _ _ c.loop-lexeme.invariant c.in-Some.ensures.found (sym c.is_gap.ensures ∙ c.if-not-is_gap.false)

pub returns : goal.returns
returns c = gaps_only _ _ c.loop-lexeme.invariant c.in_default.ensures.none
