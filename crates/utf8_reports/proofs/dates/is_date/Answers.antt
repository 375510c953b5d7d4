use Rattle.std.proofs.Common.{codes, sym, ap, ◌++◌, ◌∙◌, arith}
use Rattle.std.proofs.lemmas.Bool.Decides.{Decides-eqb}
use Rattle.std.proofs.lemmas.Slice.Eq.{slice_eq-Decides}
use Rattle.utf8_reports.proofs.DateTexts.{whole_by, some_date, date_parts}
use Rattle.utf8_reports.proofs.dates.is_date.Goals as goal

pub returns-then-text-lt-FRONT : goal.returns-then-text-lt-FRONT
returns-then-text-lt-FRONT c =
    (λ t. cc, λ is. let size = (date_parts c.args.text.now is).size in let short = c.if-text-lt-FRONT.true in absurd (omega arith))

pub returns-then-eq : goal.returns-then-eq
returns-then-eq c =
    let text = c.args.text.now in
    let decides = slice_eq-Decides Decides-eqb c.split_at.result.1.now c.as_slice.result.now c.eq.result c.eq.ensures in
    let zone = decides.0 c.if-eq.true ∙ c.as_slice.ensures in
    let whole = whole_by text _ _ c.split_at.ensures.front c.split_at.ensures.back in (
      (λ t.
          let date = c.is_http_date.ensures.0 t in
          some_date text c.split_at.result.0.now c.split_at.result.1.now date.0 whole c.split_at.ensures.front_len zone (sym c.http_text.ensures ∙ date.1)),
      (λ is.
          let parts = date_parts text is in
          c.is_http_date.ensures.1 (parts.date, c.http_text.ensures ∙ (ap (λ f. f ++ codes "GMT") c.split_at.ensures.front ∙ parts.front))),
    )

pub returns-else-eq : goal.returns-else-eq
returns-else-eq c =
    let decides = slice_eq-Decides Decides-eqb c.split_at.result.1.now c.as_slice.result.now c.eq.result c.eq.ensures in
    (λ t. cc, λ is. decides.1 (c.split_at.ensures.back ∙ ((date_parts c.args.text.now is).zone ∙ sym c.as_slice.ensures)))
