use Rattle.std.proofs.Common.{sym, ◌∙◌}
use Rattle.address_grammar.proofs.WalkLemmas.{walks_start, walks_turn, place_ends, place_shorter, last_place}
use Rattle.address_grammar.proofs.places.split_place.Goals as goal

pub loop-lexeme-init : goal.loop-lexeme-init
loop-lexeme-init c = walks_start _

pub returns-in_default-awaited_after-clause-found : goal.returns-in_default-awaited_after-clause-found
returns-in_default-awaited_after-clause-found c = place_ends _ _ _ _ _ _ c.loop-lexeme.invariant c.in-Some.ensures.found (sym c.awaited_after.ensures ∙ c.in_default-awaited_after.is) c.front_before.ensures

pub returns-in_default-awaited_after-clause-shorter : goal.returns-in_default-awaited_after-clause-shorter
returns-in_default-awaited_after-clause-shorter c = place_shorter _ _ _ _ _ c.loop-lexeme.invariant c.in-Some.ensures.found

pub loop-lexeme-preserved : goal.loop-lexeme-preserved
loop-lexeme-preserved c = walks_turn _ _ _ _ _ _ c.loop-lexeme.invariant c.in-Some.ensures.found (sym c.awaited_after.ensures ∙ c.in-Some-awaited_after.is)

pub returns-clause-none : goal.returns-clause-none
returns-clause-none c = last_place _ _ _ c.loop-lexeme.invariant c.in_default.ensures.none
