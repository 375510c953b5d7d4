use Rattle.std.proofs.Common.{sym, ap, inl, ◌∙◌}
use Rattle.std.proofs.lemmas.Bool.Decides.{Decides-eqb}
use Rattle.std.proofs.lemmas.Slice.Eq.{slice_eq-Decides}
use Rattle.httpdate.specs.Text.{imf_fixdate}
use Rattle.httpdate.proofs.Theorems.{IsDateText_unique}
use Rattle.utf8_reports.proofs.dates.is_http_date.Goals as goal

pub returns-in-Ok : goal.returns-in-Ok
returns-in-Ok c =
    let decides = slice_eq-Decides Decides-eqb c.as_slice.result.now c.args.text.now c.eq.result c.eq.ensures in
    let made = c.as_slice.ensures ∙ c.to_bytes.ensures in (
      (λ t. (c.in-Ok.date, sym (decides.0 t) ∙ made)),
      (λ other.
          let same = IsDateText_unique c.args.text.now c.in-Ok.date other.0 c.in-Ok.ensures.shown (inl other.1) in
          decides.1 (made ∙ (ap imf_fixdate same ∙ sym other.1))),
    )
