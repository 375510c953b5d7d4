use Rattle.std.proofs.Common.{sym, ◌∙◌}
use Rattle.field_downgrade.specs.Received.{starts_clause}
use Rattle.field_downgrade.proofs.ReceivedReading.{PassesNone-start, PassesNone-turn, cuts_at, cuts_end}
use Rattle.field_downgrade.proofs.received.split_clause.Goals as goal

pub loop-token-init : goal.loop-token-init
loop-token-init c = PassesNone-start starts_clause _

pub returns-then-starts_clause : goal.returns-then-starts_clause
returns-then-starts_clause c = cuts_at starts_clause _ _ _ _ _ c.in-Some.ensures.found c.loop-token.invariant c.front_before.ensures (sym c.starts_clause.ensures ∙ c.if-starts_clause.true)

pub loop-token-preserved : goal.loop-token-preserved
loop-token-preserved c = PassesNone-turn starts_clause _ _ _ (rw (c.in-Some.ensures.found) at c.loop-token.invariant) (sym c.starts_clause.ensures ∙ c.if-starts_clause.false)

pub returns : goal.returns
returns c = cuts_end starts_clause _ _ _ c.in_default.ensures.none c.loop-token.invariant c.front_before-2.ensures
