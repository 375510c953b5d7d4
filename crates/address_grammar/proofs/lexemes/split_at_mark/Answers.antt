use Rattle.std.proofs.Common.{sym, ◌∙◌}
use Rattle.address_grammar.proofs.LexemeLemmas.{mark_start, mark_turn, mark_found, mark_shorter, mark_missing}
use Rattle.address_grammar.proofs.lexemes.split_at_mark.Goals as goal

pub loop-lexeme-init : goal.loop-lexeme-init
loop-lexeme-init c = mark_start _ _

pub returns-then-is_mark-clause-found : goal.returns-then-is_mark-clause-found
returns-then-is_mark-clause-found c =
    mark_found _ _ _ _ _ _ c.loop-lexeme.invariant c.in-Some.ensures.found (sym c.is_mark.ensures ∙ c.if-is_mark.true) c.front_before.ensures

pub returns-then-is_mark-clause-shorter : goal.returns-then-is_mark-clause-shorter
returns-then-is_mark-clause-shorter c = mark_shorter _ _ _ _ _ c.loop-lexeme.invariant c.in-Some.ensures.found

pub loop-lexeme-preserved : goal.loop-lexeme-preserved
loop-lexeme-preserved c = mark_turn _ _ _ _ _ c.loop-lexeme.invariant c.in-Some.ensures.found (sym c.is_mark.ensures ∙ c.if-is_mark.false)

pub returns-clause-none : goal.returns-clause-none
returns-clause-none c = mark_missing _ _ _ c.loop-lexeme.invariant c.in_default.ensures.none
