-- Numbers with dots between them.
use Rattle.std.proofs.Common.{◌≡◌, ◌≢◌, ℕ, Bool, true, false, not, List, ◌∷◌, ◌++◌, length, refl, sym, ap, subst, ◌∙◌, arith}
use Rattle.mail_wire.specs.Numbers.{is_digit}
use Rattle.mail_wire.specs.Spans.{IsSpan}
use Rattle.mail_wire.proofs.SpanLemmas.{Opposite, span_once}
use Rattle.utf8_reports.specs.Recipients.{IsDecimal, IsStatusCode}
use Rattle.utf8_reports.specs.private.Reading.{BeginsNumber}

-- an octet is a digit or another
pub digit_opposite : Opposite is_digit (λ x. not (is_digit x))
digit_opposite x = not_not (is_digit x)
  where
    not_not : (b : Bool) → b ≡ not (not b)
    not_not true = refl
    not_not false = refl

pub number_once : (text front after rest : List ℕ) → IsSpan is_digit text front after → (is : BeginsNumber text rest) → (front ≡ is.digits) × (after ≡ 46 ∷ rest)
number_once text front after rest span is =
    span_once is_digit front is.digits after (46 ∷ rest) span.passes is.span.passes span.stops refl (sym span.whole ∙ is.span.whole)

pub no_digits : (text front after rest : List ℕ) → IsSpan is_digit text front after → length front ≡ 0 → BeginsNumber text rest → ⊥
no_digits text front after rest span none is =
    let same = ap length (number_once text front after rest span is).0 in
    let some = is.some in
    omega arith

pub no_dot : (text front after rest : List ℕ) → IsSpan is_digit text front after → after ≢ 46 ∷ rest → BeginsNumber text rest → ⊥
no_dot text front after rest span none is = none (number_once text front after rest span is).1

numbers_once : (text rest other : List ℕ) → BeginsNumber text rest → BeginsNumber text other → rest ≡ other
numbers_once text rest other is others = after_dot (number_once text is.digits (46 ∷ rest) other is.span others).1
  where
    after_dot : {a b : List ℕ} → 46 ∷ a ≡ 46 ∷ b → a ≡ b
    after_dot h = cc

pub class_first : (text : List ℕ) (is : IsStatusCode text) → BeginsNumber text (is.subject ++ 46 ∷ is.detail)
class_first text is = record {
  digits = is.class_digits;
  span = record { whole = is.whole; passes = is.is_class.digits; stops = refl };
  some = is.is_class.some;
}

subject_first : (text : List ℕ) (is : IsStatusCode text) → BeginsNumber (is.subject ++ 46 ∷ is.detail) is.detail
subject_first text is = record {
  digits = is.subject;
  span = record { whole = refl; passes = is.is_subject.digits; stops = refl };
  some = is.is_subject.some;
}

pub subject_next : (text following : List ℕ) → BeginsNumber text following → (is : IsStatusCode text) → BeginsNumber following is.detail
subject_next text following first is =
    subst (λ b. BeginsNumber b is.detail) (numbers_once text _ following (class_first text is) first) (subject_first text is)

pub status_of : (text following detail : List ℕ) → BeginsNumber text following → BeginsNumber following detail → IsDecimal detail → IsStatusCode text
status_of text following detail first next last = record {
  class_digits = first.digits;
  subject = next.digits;
  detail = detail;
  is_class = record { some = first.some; digits = first.span.passes };
  is_subject = record { some = next.some; digits = next.span.passes };
  is_detail = last;
  whole = first.span.whole ∙ ap (λ l. first.digits ++ 46 ∷ l) next.span.whole;
}

pub status_detail : (text following detail : List ℕ) → BeginsNumber text following → BeginsNumber following detail → IsStatusCode text → IsDecimal detail
status_detail text following detail first next is =
    subst IsDecimal (numbers_once following is.detail detail (subject_next text following first is) next) is.is_detail
