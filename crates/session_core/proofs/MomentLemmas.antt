-- The texts of moments, by their letters and numbers.
use Rattle.std.proofs.Common.{◌≡◌, ℕ, zero, suc, ◌+◌, ◌-◌, ◌/◌, ◌%◌, ◌<◌, ◌≤◌, Bool, true, false, cond, List, [], ◌∷◌, ◌++◌, length, refl, arith}
use Rattle.std.specs.Prelude.{codes, slice_index_or, slice_range}
use Rattle.std.specs.List.{AllByRecursion, list_any}
use Rattle.std.proofs.lemmas.Bool.Decides.{nat_tests}
use Rattle.std.proofs.lemmas.List.Elements.{All-from_recursion}
use Rattle.mail_wire.specs.Dates.{IsInternalDate}
use Rattle.mail_wire.specs.Numbers.{is_digit}
use Rattle.mail_wire.specs.Octets.{same_name}
use Rattle.journal_records.specs.Grammar.{IsDate, date_shape, fits_letter, months}

-- the days of the week
abbrev pub days : List (List ℕ)
days = codes "Mon" ∷ codes "Tue" ∷ codes "Wed" ∷ codes "Thu" ∷ codes "Fri" ∷ codes "Sat" ∷ codes "Sun" ∷ []

-- the three letters of a day, of which Monday is the first
abbrev pub day_letters : ℕ → List ℕ
day_letters n = slice_index_or days (n - 1) []

-- the three letters of a month
abbrev pub month_letters : ℕ → List ℕ
month_letters n = slice_index_or months (n - 1) []

-- three octets
record IsThree (text : List ℕ) : Type 0 where
  a : ℕ
  b : ℕ
  c : ℕ
  is : text ≡ a ∷ b ∷ c ∷ []

-- three octets that name a month
record IsMonth (text : List ℕ) : Type 0 where
  three : IsThree text
  listed : list_any (λ month. same_name month text) months ≡ true

-- three letters are three octets
three : (a b c : ℕ) → IsThree (a ∷ b ∷ c ∷ [])
three a b c = record { a = a; b = b; c = c; is = refl }

-- and name a month, where the test says so
month : (a b c : ℕ) → list_any (λ month. same_name month (a ∷ b ∷ c ∷ [])) months ≡ true → IsMonth (a ∷ b ∷ c ∷ [])
month a b c listed = record { three = three a b c; listed = listed }

-- a day's name has three letters
days_three : AllByRecursion IsThree days
days_three = (three 77 111 110, (three 84 117 101, (three 87 101 100, (three 84 104 117, (three 70 114 105, (three 83 97 116, (three 83 117 110, tt)))))))

-- a month's name is one
months_three : AllByRecursion IsMonth months
unfolding same_name
months_three = (month 74 97 110 refl, (month 70 101 98 refl, (month 77 97 114 refl, (month 65 112 114 refl, (month 77 97 121 refl, (month 74 117 110 refl, (month 74 117 108 refl, (month 65 117 103 refl, (month 83 101 112 refl, (month 79 99 116 refl, (month 78 111 118 refl, (month 68 101 99 refl, tt))))))))))))

-- the day of a number has three letters
day_three : (n : ℕ) → 1 ≤ n → n ≤ 7 → IsThree (day_letters n)
day_three n some small = All-from_recursion IsThree days days_three (n - 1) [] (omega arith)

-- the month of a number is one
month_three : (n : ℕ) → 1 ≤ n → n ≤ 12 → IsMonth (month_letters n)
month_three n some small = All-from_recursion IsMonth months months_three (n - 1) [] (omega arith)

-- each letter of a shape stands for the octet at its place
abbrev FitEach : List ℕ → List ℕ → Type 0
FitEach [] text = Unit {0}
FitEach (letter ∷ letters) [] = ⊥
FitEach (letter ∷ letters) (x ∷ text) = (fits_letter letter x ≡ true) × FitEach letters text

-- and so it is place by place
each_at : (letters text : List ℕ) → FitEach letters text → (at : ℕ) → at < length letters → fits_letter (slice_index_or letters at 0) (slice_index_or text at 0) ≡ true
each_at [] text fit at within = absurd (omega arith)
each_at (letter ∷ letters) [] fit at within = absurd fit
each_at (letter ∷ letters) (x ∷ text) fit zero within = fit.0
each_at (letter ∷ letters) (x ∷ text) fit (suc at) within = each_at letters text fit.1 at (omega (arith, within))

-- a digit is one
digit_is : (n : ℕ) → n < 10 → is_digit (48 + n) ≡ true
digit_is n small = grind (arith, nat_tests)

-- a digit fits
digit : (n : ℕ) → n < 10 → fits_letter 57 (48 + n) ≡ true
unfolding fits_letter
digit n small = digit_is n small

-- a digit fits where a space would, too
first_digit : (n : ℕ) → n < 10 → fits_letter 100 (48 + n) ≡ true
unfolding fits_letter
first_digit n small = rw (digit_is n small) refl

-- a number below 100, in two digits
abbrev pub two_digits : ℕ → List ℕ
two_digits n = (48 + n / 10) ∷ (48 + n % 10) ∷ []

-- the text of a moment, with its zone
abbrev pub moment_text : (day month : List ℕ) (d year hour min sec : ℕ) → List ℕ
moment_text day month d year hour min sec =
    day ++ codes ", " ++ two_digits d ++ codes " " ++ month ++ codes " " ++ (two_digits (year / 100) ++ two_digits (year % 100)) ++ codes " "
    ++ (two_digits hour ++ codes ":" ++ two_digits min ++ codes ":" ++ two_digits sec) ++ codes " GMT"

-- the date-time that is made of it
abbrev internal_text : List ℕ → List ℕ
internal_text text = slice_range text 5 7 ++ 45 ∷ (slice_range text 8 11 ++ 45 ∷ (slice_range text 12 25 ++ codes " +0000"))

-- the numbers have so many digits
pub record AreShort (d year hour min sec : ℕ) : Type 0 where
  pub d_short : d < 100
  pub year_short : year < 10000
  pub hour_short : hour < 100
  pub min_short : min < 100
  pub sec_short : sec < 100

-- a date-time of these letters and numbers
letters_date : (a b c x y z d year hour min sec : ℕ) → AreShort d year hour min sec → list_any (λ month. same_name month (x ∷ y ∷ z ∷ [])) months ≡ true
    → IsDate (internal_text (moment_text (a ∷ b ∷ c ∷ []) (x ∷ y ∷ z ∷ []) d year hour min sec))
unfolding fits_letter
letters_date a b c x y z d year hour min sec short listed =
    let tens : (n : ℕ) → n < 100 → n / 10 < 10 = λ n small. omega arith in
    let ones : (n : ℕ) → n % 10 < 10 = λ n. omega arith in
    let hundreds : year / 100 < 100 = omega (arith, short.year_short) in
    let rest : year % 100 < 100 = omega arith in
    record {
      len = refl;
      shape = each_at date_shape (internal_text (moment_text (a ∷ b ∷ c ∷ []) (x ∷ y ∷ z ∷ []) d year hour min sec))
          (first_digit (d / 10) (tens d short.d_short), (digit (d % 10) (ones d), (refl, (refl, (refl, (refl, (refl, (digit (year / 100 / 10) (tens (year / 100) hundreds), (digit (year / 100 % 10) (ones (year / 100)), (digit (year % 100 / 10) (tens (year % 100) rest), (digit (year % 100 % 10) (ones (year % 100)), (refl, (digit (hour / 10) (tens hour short.hour_short), (digit (hour % 10) (ones hour), (refl, (digit (min / 10) (tens min short.min_short), (digit (min % 10) (ones min), (refl, (digit (sec / 10) (tens sec short.sec_short), (digit (sec % 10) (ones sec), (refl, (refl, (refl, (refl, (refl, (refl, tt))))))))))))))))))))))))));
      month = listed;
    }

-- and of names
names_date : (day month : List ℕ) (d year hour min sec : ℕ) → IsThree day → IsMonth month → AreShort d year hour min sec → IsDate (internal_text (moment_text day month d year hour min sec))
names_date day month d year hour min sec of_day of_month short =
    rw (of_day.is, of_month.three.is) (letters_date of_day.a of_day.b of_day.c of_month.three.a of_month.three.b of_month.three.c d year hour min sec short (rw of_month.three.is at of_month.listed))

-- no month has more than 31 days
day_short : (d : ℕ) (a b c : Bool) → d ≤ cond a (cond b 29 28) (cond c 30 31) → d < 100
day_short d true true c within = omega arith
day_short d true false c within = omega arith
day_short d false b true within = omega arith
day_short d false b false within = omega arith

-- the numbers of a date are short
pub numbers_short : (d year hour min sec : ℕ) (a b c : Bool) → d ≤ cond a (cond b 29 28) (cond c 30 31) → year ≤ 9999 → hour < 24 → min < 60 → sec < 60 → AreShort d year hour min sec
numbers_short d year hour min sec a b c of_month of_year of_hour of_min of_sec = record {
  d_short = day_short d a b c of_month;
  year_short = omega arith;
  hour_short = omega arith;
  min_short = omega arith;
  sec_short = omega arith;
}

-- the date-time of a moment is one of RFC 3501
pub moment_date : (seconds : ℕ) (text : List ℕ) → IsInternalDate seconds text → IsDate text
moment_date seconds text p =
    let date = p.date in
    let parts = date.parts in
    rw p.spelled (names_date (day_letters parts.wday) (month_letters parts.mon) parts.day parts.year parts.hour parts.min parts.sec
    (day_three parts.wday (omega (arith, date.right_day)) (omega (arith, date.right_day))) (month_three parts.mon date.civil.1.0 date.civil.1.1) (numbers_short parts.day parts.year parts.hour parts.min parts.sec _ _ _ date.civil.2.1 date.civil.0.1 date.time.0 date.time.1 date.time.2))
