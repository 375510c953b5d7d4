use Rattle.std.proofs.Common.{sym, ◌∙◌}
use Rattle.field_tokens.specs.Squeezed.{is_gap}
use Rattle.address_lists.proofs.PhraseWriting.{trail_start, trail_anew, trail_onward, trail_end}
use Rattle.address_lists.proofs.TextLemmas.{gap_trail}
use Rattle.address_lists.proofs.ascii_texts.before_gaps.Goals as goal

pub loop-lexeme-init : goal.loop-lexeme-init
loop-lexeme-init c = trail_start (λ t. is_gap t.kind) _

pub loop-lexeme-preserved-then-not-is_gap : goal.loop-lexeme-preserved-then-not-is_gap
loop-lexeme-preserved-then-not-is_gap c = trail_anew (λ t. is_gap t.kind) _ _ _ _ _ c.loop-lexeme.invariant c.in-Some.ensures.found (sym c.is_gap.ensures ∙ c.if-not-is_gap.true)

pub loop-lexeme-preserved : goal.loop-lexeme-preserved
loop-lexeme-preserved c = trail_onward (λ t. is_gap t.kind) _ _ _ _ _ c.loop-lexeme.invariant c.in-Some.ensures.found (sym c.is_gap.ensures ∙ c.if-not-is_gap.false)

pub returns : goal.returns
returns c = gap_trail _ _ _ (trail_end (λ t. is_gap t.kind) _ _ _ _ c.loop-lexeme.invariant c.in_default.ensures.none c.front_before.ensures)
