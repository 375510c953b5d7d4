use Rattle.std.proofs.Common.{sym, ◌∙◌}
use Rattle.address_grammar.specs.private.Lexemes.{is_blank_token}
use Rattle.address_lists.proofs.PhraseWriting.{trail_start, trail_anew, trail_onward, trail_end, blank_trail}
use Rattle.address_lists.proofs.writing.split_trail.Goals as goal

pub loop-lexeme-init : goal.loop-lexeme-init
loop-lexeme-init c = trail_start is_blank_token _

pub loop-lexeme-preserved-then-not-is_blank : goal.loop-lexeme-preserved-then-not-is_blank
loop-lexeme-preserved-then-not-is_blank c = trail_anew is_blank_token _ _ _ _ _ c.loop-lexeme.invariant c.in-Some.ensures.found (sym c.is_blank.ensures ∙ c.if-not-is_blank.true)

pub loop-lexeme-preserved : goal.loop-lexeme-preserved
loop-lexeme-preserved c = trail_onward is_blank_token _ _ _ _ _ c.loop-lexeme.invariant c.in-Some.ensures.found (sym c.is_blank.ensures ∙ c.if-not-is_blank.false)

pub returns : goal.returns
returns c = blank_trail _ _ _ (trail_end is_blank_token _ _ _ _ c.loop-lexeme.invariant c.in_default.ensures.none c.front_before.ensures)
