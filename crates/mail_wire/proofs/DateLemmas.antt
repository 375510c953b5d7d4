-- A moment has one text of each kind.
use Rattle.std.proofs.Common.{◌≡◌, ℕ, List, ◌∷◌, ◌++◌, take, codes, sym, ap, ◌∙◌}
use Rattle.std.specs.Prelude.{slice_range}
use Rattle.httpdate.specs.Date.{unix_secs, date_text}
use Rattle.httpdate.specs.declared.date.HttpDate.{HttpDate as Date}
use Rattle.httpdate.specs.Text.{imf_fixdate}
use Rattle.httpdate.proofs.Theorems.{unix_secs_injective}
use Rattle.mail_wire.specs.Dates.{IsDateText, IsInternalDate}

same_text : (a b : Date) (seconds : ℕ) → unix_secs a ≡ seconds → unix_secs b ≡ seconds → date_text a ≡ date_text b
same_text a b seconds p q = ap imf_fixdate (unix_secs_injective a b (p ∙ sym q))

pub one_date : (seconds : ℕ) (a b : List ℕ) → IsDateText seconds a → IsDateText seconds b → a ≡ b
one_date seconds a b p q =
    p.spelled ∙ ap (λ text. take 26 text ++ codes "+0000") (same_text p.date q.date seconds p.moment q.moment) ∙ sym q.spelled

pub one_internal_date : (seconds : ℕ) (a b : List ℕ) → IsInternalDate seconds a → IsInternalDate seconds b → a ≡ b
one_internal_date seconds a b p q =
    p.spelled
    ∙ ap (λ text. slice_range text 5 7 ++ 45 ∷ (slice_range text 8 11 ++ 45 ∷ (slice_range text 12 25 ++ codes " +0000")))
    (same_text p.date q.date seconds p.moment q.moment)
    ∙ sym q.spelled
