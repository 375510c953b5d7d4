use Rattle.std.proofs.Common.{sym, ◌∙◌}
use Rattle.mail_wire.proofs.SpanLemmas.{IsSpan-found, IsSpan-whole, IsSpan-at, white_opposite}
use Rattle.mail_wire.proofs.text.split_white.Goals as goal

pub returns-in-Some : goal.returns-in-Some
returns-in-Some c =
    let found = IsSpan-found _ _ c.args.octets.now c.in-Some.at white_opposite (sym c.find_nonwhite.ensures ∙ c.in-Some.is) in
    IsSpan-at _ _ _ _ _ _ c.split_at.ensures.front c.split_at.ensures.back found.1

pub returns-in-None : goal.returns-in-None
returns-in-None c =
    let whole = IsSpan-whole _ _ c.args.octets.now white_opposite (sym c.find_nonwhite.ensures ∙ c.in-None.is) in
    IsSpan-at _ _ _ _ _ _ c.split_at-in-None.ensures.front c.split_at-in-None.ensures.back whole
