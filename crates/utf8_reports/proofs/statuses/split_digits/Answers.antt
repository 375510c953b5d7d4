use Rattle.std.proofs.Common.{sym, ◌∙◌}
use Rattle.mail_wire.proofs.SpanLemmas.{IsSpan-found, IsSpan-whole, IsSpan-at}
use Rattle.utf8_reports.proofs.DigitLemmas.{digit_opposite}
use Rattle.utf8_reports.proofs.statuses.split_digits.Goals as goal

pub returns-in-Some : goal.returns-in-Some
returns-in-Some c =
    let found = IsSpan-found _ _ c.args.text.now c.in-Some.at digit_opposite (sym c.find_other.ensures ∙ c.in-Some.is) in
    IsSpan-at _ _ _ _ _ _ c.split_at.ensures.front c.split_at.ensures.back found.1

pub returns-in-None : goal.returns-in-None
returns-in-None c =
    let whole = IsSpan-whole _ _ c.args.text.now digit_opposite (sym c.find_other.ensures ∙ c.in-None.is) in
    IsSpan-at _ _ _ _ _ _ c.split_at-in-None.ensures.front c.split_at-in-None.ensures.back whole
