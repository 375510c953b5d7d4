use Rattle.std.proofs.Common.{sym, ◌∙◌}
use Rattle.mail_wire.proofs.SpanLemmas.{IsSpan-found, IsSpan-whole, IsSpan-at}
use Rattle.field_tokens.proofs.TokenLemmas.{not_opposite}
use Rattle.param_grammar.proofs.names_order.split_named.Goals as goal

pub returns-in-Some : goal.returns-in-Some
returns-in-Some c =
    let found = IsSpan-found _ _ c.args.order.now c.in-Some.at (not_opposite _) (sym c.find_other.ensures ∙ c.in-Some.is) in
    IsSpan-at _ _ _ _ _ _ c.split_at.ensures.front c.split_at.ensures.back found.1

pub returns-in-None : goal.returns-in-None
returns-in-None c =
    let whole = IsSpan-whole _ _ c.args.order.now (not_opposite _) (sym c.find_other.ensures ∙ c.in-None.is) in
    IsSpan-at _ _ _ _ _ _ c.split_at-in-None.ensures.front c.split_at-in-None.ensures.back whole
