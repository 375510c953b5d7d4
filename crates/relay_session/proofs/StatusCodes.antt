-- The status of a failure is a status code.
use Rattle.std.proofs.Common.{◌≡◌, ℕ, zero, suc, ◌+◌, ◌/◌, ◌%◌, ◌<◌, ◌==◌, Bool, true, false, List, [], ◌∷◌, ◌++◌, length, codes, decimal, nat_lt, arith, refl}
use Rattle.std.specs.Prelude.{if◌then◌else◌}
use Rattle.std.specs.Fmt.{digits, digits_onto, digit_glyph}
use Rattle.std.specs.List.{list_all}
use Rattle.std.proofs.lemmas.Bool.Decides.{nat_tests}
use Rattle.mail_wire.specs.Numbers.{is_digit}
use Rattle.utf8_reports.specs.Recipients.{IsDecimal, IsStatusCode}
use Rattle.relay_session.specs.Reporting.{status_text}

-- ---- a number as it is written

below_ten : (n : ℕ) → n % 10 < 10
below_ten n = omega arith

digit_octet : (digit : ℕ) → digit < 10 → is_digit (48 + digit) ≡ true
digit_octet digit low = grind (arith, nat_tests)

first_digit : (n : ℕ) (following : List ℕ) → list_all is_digit following ≡ true → IsDecimal (digit_glyph false (n % 10) ∷ following)
first_digit n following are =
    let low = below_ten n in
    let small : nat_lt (n % 10) 10 ≡ true = grind (arith, nat_tests) in
    record { some = omega arith; digits = rw (small, digit_octet (n % 10) low) are }

onto_by : (places n : ℕ) (following : List ℕ) → IsDecimal (digit_glyph false (n % 10) ∷ following)
    → ((more : List ℕ) → IsDecimal more → IsDecimal (digits_onto places 10 false (n / 10) more)) → (last : Bool) → (n / 10 == 0) ≡ last
    → IsDecimal (digits_onto (suc places) 10 false n following)
onto_by places n following is others true last_is = rw last_is is
onto_by places n following is others false last_is = rw last_is (others (digit_glyph false (n % 10) ∷ following) is)

onto : (places n : ℕ) (following : List ℕ) → IsDecimal following → IsDecimal (digits_onto places 10 false n following)
onto zero n following is = is
onto (suc places) n following is = onto_by places n following (first_digit n following is.digits) (λ more m. onto places (n / 10) more m) (n / 10 == 0) refl

-- a number is written in digits, however large it is
decimal_is : (n : ℕ) → IsDecimal (decimal n)
unfolding digits
decimal_is n = onto_by 63 n [] (first_digit n [] refl) (λ more m. onto 63 (n / 10) more m) (n / 10 == 0) refl

-- ---- statuses

number : (text : List ℕ) → 0 < length text → list_all is_digit text ≡ true → IsDecimal text
number text some are = record { some = some; digits = are }

by_detail : (detail : ℕ) (none : Bool) → IsStatusCode (if none then codes "5.0.0" else codes "5.6." ++ decimal detail)
by_detail detail true = record {
  class_digits = codes "5";
  subject = codes "0";
  detail = codes "0";
  is_class = number (codes "5") (omega arith) refl;
  is_subject = number (codes "0") (omega arith) refl;
  is_detail = number (codes "0") (omega arith) refl;
  whole = refl;
}
by_detail detail false = record {
  class_digits = codes "5";
  subject = codes "6";
  detail = decimal detail;
  is_class = number (codes "5") (omega arith) refl;
  is_subject = number (codes "6") (omega arith) refl;
  is_detail = decimal_is detail;
  whole = refl;
}

pub status_code : (detail : ℕ) → IsStatusCode (status_text detail)
status_code detail = by_detail detail (detail == 0)
