-- The date of a report is of printed octets.
use Rattle.std.proofs.Common.{◌≡◌, ℕ, suc, zero, ◌+◌, ◌-◌, ◌/◌, ◌%◌, ◌<◌, ◌≤◌, Bool, true, false, ◌&&◌, cond, List, [], ◌∷◌, ◌++◌, take, refl, arith}
use Rattle.std.specs.Prelude.{codes, nat_le, slice_index_or}
use Rattle.std.specs.List.{list_all}
use Rattle.std.proofs.lemmas.Bool.{and_from, and_parts}
use Rattle.std.proofs.lemmas.Bool.Decides.{nat_tests}
use Rattle.httpdate.specs.declared.parts.Parts.{Parts}
use Rattle.httpdate.specs.Text.{day_name, month_name, two_digits, four_digits, time_of_day, imf_fixdate}
use Rattle.mail_wire.specs.Dates.{IsDateText}
use Rattle.mail_wire.specs.Octets.{is_ascii}
use Rattle.mail_wire.proofs.AllLemmas.{pass-append, pass-take}
use Rattle.field_tokens.specs.TokenOctets.{is_line_octet}

-- a space or a printed octet of ASCII
abbrev pub is_printed : ℕ → Bool
is_printed x = nat_le 32 x && nat_le x 126

record IsPrinted (text : List ℕ) : Type 0 where
  octets : list_all is_printed text ≡ true

printed : (text : List ℕ) → list_all is_printed text ≡ true → IsPrinted text
printed text is = record { octets = is }

pub printed_ascii : (x : ℕ) → is_printed x ≡ true → is_ascii x ≡ true
printed_ascii x is = grind (arith, nat_tests)

pub printed_plain : (x : ℕ) → is_printed x ≡ true → is_line_octet x ≡ true
printed_plain x is = grind (arith, nat_tests)

one_of : (names : List (List ℕ)) → list_all (list_all is_printed) names ≡ true → (n : ℕ) → IsPrinted (slice_index_or names n [])
one_of [] all n = printed [] refl
one_of (name ∷ names) all zero = printed name (and_parts (list_all is_printed name) (list_all (list_all is_printed) names) all).0
one_of (name ∷ names) all (suc n) = one_of names (and_parts (list_all is_printed name) (list_all (list_all is_printed) names) all).1 n

abbrev days : List (List ℕ)
days = codes "Mon" ∷ codes "Tue" ∷ codes "Wed" ∷ codes "Thu" ∷ codes "Fri" ∷ codes "Sat" ∷ codes "Sun" ∷ []

day : (n : ℕ) → IsPrinted (day_name n)
day n = one_of days refl (n - 1)

abbrev months : List (List ℕ)
months =
    codes "Jan" ∷ codes "Feb" ∷ codes "Mar" ∷ codes "Apr" ∷ codes "May" ∷ codes "Jun" ∷ codes "Jul" ∷ codes "Aug" ∷ codes "Sep" ∷ codes "Oct" ∷ codes "Nov" ∷ codes "Dec" ∷ []

month : (n : ℕ) → IsPrinted (month_name n)
month n = one_of months refl (n - 1)

digit : (n : ℕ) → n < 10 → is_printed (48 + n) ≡ true
digit n small = grind (arith, nat_tests)

two : (n : ℕ) → n < 100 → IsPrinted (two_digits n)
two n small = printed (two_digits n) (and_from (is_printed (48 + n / 10)) _ (digit (n / 10) (omega arith)) (and_from (is_printed (48 + n % 10)) true (digit (n % 10) (omega arith)) refl))

-- one text after another
following : {a b : List ℕ} → IsPrinted a → IsPrinted b → IsPrinted (a ++ b)
following {a} {b} x y = printed (a ++ b) (pass-append is_printed a b x.octets y.octets)

day_small : (d : ℕ) (a b c : Bool) → d ≤ cond a (cond b 29 28) (cond c 30 31) → d < 100
day_small d true true c within = omega arith
day_small d true false c within = omega arith
day_small d false b true within = omega arith
day_small d false b false within = omega arith

-- the text of these numbers
text_printed : (p : Parts) → p.day < 100 → p.year ≤ 9999 → p.hour < 24 → p.min < 60 → p.sec < 60 → IsPrinted (imf_fixdate p)
text_printed p days years hours mins secs =
    let space = printed (codes " ") refl in
    let colon = printed (codes ":") refl in
    let year : IsPrinted (four_digits p.year) = following (two (p.year / 100) (omega (arith, years))) (two (p.year % 100) (omega arith)) in
    let time : IsPrinted (time_of_day p) = following (following (following (following (two p.hour (omega (arith, hours))) colon) (two p.min (omega (arith, mins)))) colon) (two p.sec (omega (arith, secs))) in
    following (following (following (following (following (following (following (following (following (day p.wday) (printed (codes ", ") refl)) (two p.day days)) space) (month p.mon)) space) year) space) time) (printed (codes " GMT") refl)

pub date_printed : (seconds : ℕ) (text : List ℕ) → IsDateText seconds text → list_all is_printed text ≡ true
date_printed seconds text is =
    let date = is.date in
    let all = text_printed date.parts (day_small date.parts.day _ _ _ date.civil.2.1) date.civil.0.1 date.time.0 date.time.1 date.time.2 in
    rw is.spelled (pass-append is_printed (take 26 (imf_fixdate date.parts)) (codes "+0000") (pass-take is_printed 26 (imf_fixdate date.parts) all.octets) refl)
