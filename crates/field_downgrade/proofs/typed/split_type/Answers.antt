use Rattle.std.proofs.Common.{sym, ◌∙◌}
use Rattle.field_downgrade.proofs.TypedLemmas.{cuts_found, cuts_none}
use Rattle.field_downgrade.proofs.typed.split_type.Goals as goal

pub returns-in_default-clause-none : goal.returns-in_default-clause-none
returns-in_default-clause-none c = cuts_none c.args.value.now (sym c.find_semicolon.ensures ∙ c.in_default.is)

pub returns-clause-found : goal.returns-clause-found
returns-clause-found c =
    cuts_found c.args.value.now _ c.split_at.result.1.now _ _ c.in-Some.at (sym c.find_semicolon.ensures ∙ c.in-Some.is) c.split_at.ensures.front c.split_at.ensures.back c.in-Some-split_first.ensures.cases.0
