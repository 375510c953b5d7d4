use Rattle.std.proofs.Common.{sym, ◌∙◌}
use Rattle.field_downgrade.proofs.TypedLemmas.{IsTyped-utf8, not-IsTyped-utf8}
use Rattle.field_downgrade.proofs.typed.utf8_address.Goals as goal

pub returns-then-not-is_same_name-clause-none : goal.returns-then-not-is_same_name-clause-none
returns-then-not-is_same_name-clause-none c =
    not-IsTyped-utf8 c.args.value.now c.in-Some.front.now c.in-Some.following.now c.trim.result.now c.in-Some.ensures.found c.trim.ensures (sym c.is_same_name.ensures ∙ c.if-not-is_same_name.true)

pub returns-clause-found : goal.returns-clause-found
returns-clause-found c =
    IsTyped-utf8 c.args.value.now c.in-Some.front.now c.in-Some.following.now c.trim.result.now _ c.in-Some.ensures.found c.trim.ensures (sym c.is_same_name.ensures ∙ c.if-not-is_same_name.false) c.trim-2.ensures
