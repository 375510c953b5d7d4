-- What stands after a recipient's address is read back.
use Rattle.std.proofs.Common.{◌≡◌, ◌≢◌, ℕ, ◌+◌, ◌/◌, ◌%◌, inl, inr, List, ◌∷◌, ◌++◌, get_or, codes, Option, Some, None, refl, sym, ap, subst, ◌∙◌, arith, slice_get}
use Rattle.std.proofs.lemmas.List.{append_cancel_left}
use Rattle.std.specs.Prelude.{IfSome}
use Rattle.utf8_reports.specs.Fields.{text_line, field_line}
use Rattle.utf8_reports.specs.Recipients.{IsStatusCode, IsReplyCode, code_digits, diagnostic_field}
use Rattle.utf8_reports.specs.private.Reading.{BeginsFieldLine, EndsRecipient}
use Rattle.utf8_reports.proofs.PlainTexts.{code_plain}
use Rattle.utf8_reports.proofs.ReportLines.{status_plain}
use Rattle.utf8_reports.proofs.WholeLines.{IsPlain}
use Rattle.utf8_reports.proofs.FieldLines.{SameField, field_begins, field_whole, field_is}

-- ---- the field of a code

abbrev pub code_name : List ℕ
code_name = codes "Diagnostic-Code: smtp; "

digits_plain : (code : ℕ) → IsPlain (code_digits code)
digits_plain code = code_plain (code / 100) (code / 10 % 10) (code % 10)

digits_once : (a b : ℕ) → IsReplyCode a → IsReplyCode b → code_digits a ≡ code_digits b → a ≡ b
digits_once a b is other e =
    let hundreds : 48 + a / 100 ≡ 48 + b / 100 = ap (λ l. get_or l 0 0) e in
    let tens : 48 + a / 10 % 10 ≡ 48 + b / 10 % 10 = ap (λ l. get_or l 1 0) e in
    let ones : 48 + a % 10 ≡ 48 + b % 10 = ap (λ l. get_or l 2 0) e in
    let top = is.most in
    let other_top = other.most in
    omega arith

pub first_is : (x y : ℕ) (tail last : List ℕ) → last ≡ x ∷ tail → slice_get last 0 ≡ Some y → x ≡ y
first_is x y tail last e first = let at : slice_get (x ∷ tail) 0 ≡ Some y = subst (λ l. slice_get l 0 ≡ Some y) e first in cc

not_ended : (tail last : List ℕ) → last ≡ 68 ∷ tail → EndsRecipient last → ⊥
not_ended tail last e ends = elim ends [
  | inl cr ↦ let same = first_is 68 13 tail last e cr in omega arith
  | inr hyphen ↦ let same = first_is 68 45 tail last e hyphen in omega arith
]

pub no_code : (octets last : List ℕ) (code : Option ℕ) → ((body rest : List ℕ) → ¬ BeginsFieldLine code_name octets body rest)
    → octets ≡ diagnostic_field code ++ last → (None ≡ code) × (octets ≡ last)
no_code octets last None none whole = (refl, whole)
no_code octets last (Some code) none whole =
    absurd (none (code_digits code) last (field_begins code_name octets (code_digits code) last (digits_plain code) whole))

pub some_code : (octets digits rest last : List ℕ) (found : ℕ) (code : Option ℕ) → BeginsFieldLine code_name octets digits rest → IsReplyCode found
    → digits ≡ code_digits found → IfSome code IsReplyCode → EndsRecipient last → octets ≡ diagnostic_field code ++ last → (Some found ≡ code) × (rest ≡ last)
some_code octets digits rest last found None begins is digits_are may ends whole = absurd (not_ended _ last (sym whole ∙ begins.named) ends)
some_code octets digits rest last found (Some code) begins is digits_are may ends whole =
    let same = field_is code_name octets digits (code_digits code) rest last begins (digits_plain code) whole in
    (ap Some (digits_once found code is may (sym digits_are ∙ same.body)), same.rest)

pub other_code : (octets digits rest last : List ℕ) (code : Option ℕ) → BeginsFieldLine code_name octets digits rest
    → ((number : ℕ) → IsReplyCode number → digits ≢ code_digits number) → IfSome code IsReplyCode → EndsRecipient last → octets ≡ diagnostic_field code ++ last → ⊥
other_code octets digits rest last None begins none may ends whole = not_ended _ last (sym whole ∙ begins.named) ends
other_code octets digits rest last (Some code) begins none may ends whole =
    none code may (field_is code_name octets digits (code_digits code) rest last begins (digits_plain code) whole).body

pub code_whole : (octets digits rest : List ℕ) (found : ℕ) → BeginsFieldLine code_name octets digits rest → digits ≡ code_digits found
    → octets ≡ diagnostic_field (Some found) ++ rest
code_whole octets digits rest found begins digits_are = subst (λ d. octets ≡ field_line code_name d ++ rest) digits_are (field_whole code_name octets digits rest begins)

-- ---- all of them

abbrev pub status_part : List ℕ → Option ℕ → List ℕ → List ℕ
status_part status code rest = field_line (codes "Status: ") status ++ (diagnostic_field code ++ rest)

abbrev pub outcome_part : List ℕ → Option ℕ → List ℕ → List ℕ
outcome_part status code rest = text_line (codes "Action: failed") ++ status_part status code rest

pub after_action : (octets after status rest : List ℕ) (code : Option ℕ) → octets ≡ codes "Action: failed\r\n" ++ after → octets ≡ outcome_part status code rest
    → after ≡ status_part status code rest
after_action octets after status rest code found whole = append_cancel_left (codes "Action: failed\r\n") after (status_part status code rest) (sym found ∙ whole)

pub begins_status : (octets after status rest : List ℕ) (code : Option ℕ) → octets ≡ codes "Action: failed\r\n" ++ after → IsStatusCode status
    → octets ≡ outcome_part status code rest → BeginsFieldLine (codes "Status: ") after status (diagnostic_field code ++ rest)
begins_status octets after status rest code found is whole =
    field_begins (codes "Status: ") after status (diagnostic_field code ++ rest) (status_plain status is) (after_action octets after status rest code found whole)

pub status_is : (octets after found following status rest : List ℕ) (code : Option ℕ) → octets ≡ codes "Action: failed\r\n" ++ after
    → BeginsFieldLine (codes "Status: ") after found following → IsStatusCode status → octets ≡ outcome_part status code rest
    → SameField found status following (diagnostic_field code ++ rest)
status_is octets after found following status rest code action begins is whole =
    field_is (codes "Status: ") after found status following (diagnostic_field code ++ rest) begins (status_plain status is)
    (after_action octets after status rest code action whole)

pub outcome_whole : (octets after status following rest : List ℕ) (code : Option ℕ) → octets ≡ codes "Action: failed\r\n" ++ after
    → BeginsFieldLine (codes "Status: ") after status following → following ≡ diagnostic_field code ++ rest → octets ≡ outcome_part status code rest
outcome_whole octets after status following rest code action begins last =
    action ∙ ap (λ l. codes "Action: failed\r\n" ++ l)
    (field_whole (codes "Status: ") after status following begins ∙ ap (λ l. field_line (codes "Status: ") status ++ l) last)
