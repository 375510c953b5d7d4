-- Each moment that a clock tells has a date.
use Rattle.std.proofs.Common.{◌≡◌, ℕ, suc, zero, ◌+◌, ◌-◌, ◌*◌, ◌/◌, ◌%◌, ◌<◌, ◌≤◌, inl, inr, List, ◌++◌, take, refl, sym, ◌∙◌, subst, arith}
use Rattle.std.specs.Prelude.{codes}
use Rattle.std.proofs.lemmas.Bool.{cases_lt}
use Rattle.httpdate.specs.Calendar.{days_in_month, days_in_year, days_of_months, days_of_years, days_from_civil, weekday}
use Rattle.httpdate.specs.Date.{date_text, unix_secs}
use Rattle.httpdate.specs.declared.date.HttpDate.{HttpDate as Date}
use Rattle.httpdate.specs.declared.parts.Parts.{Parts}
use Rattle.httpdate.proofs.CalendarLemmas.{days_of_months_all, days_of_years_closed}
use Rattle.mail_wire.specs.declared.clock.TheConstants.{CLOCK_END}
use Rattle.mail_wire.specs.Dates.{IsDateText}

-- the last place at which a sum isn't above this number
record HasLast (sum : ℕ → ℕ) (bound number : ℕ) : Type 0 where
  place : ℕ
  below : place < bound
  reached : sum place ≤ number
  within : number < sum (suc place)

last_place : (sum : ℕ → ℕ) (number bound : ℕ) → sum 0 ≤ number → number < sum bound → HasLast sum bound number
last_place sum number zero least most = absurd (omega arith)
last_place sum number (suc bound) least most = elim (cases_lt number (sum bound)) [
  | inl before ↦
      let last = last_place sum number bound least before in
      let below = last.below in
      record { place = last.place; below = omega arith; reached = last.reached; within = last.within }
  | inr reached ↦ record { place = bound; below = omega arith; reached = omega arith; within = most }
]

-- the date of a day
record HasDay (days : ℕ) : Type 0 where
  year : ℕ
  month : ℕ
  day : ℕ
  since_1970 : 1970 ≤ year
  four_digits : year ≤ 9999
  some_month : 1 ≤ month
  a_month : month ≤ 12
  some_day : 1 ≤ day
  a_day : day ≤ days_in_month year month
  is : days_from_civil year month day ≡ days

no_years : days_of_years 0 ≡ 0
unfolding days_of_years
no_years = refl

one_year : (n : ℕ) → days_of_years (suc n) ≡ days_of_years n + days_in_year (1970 + n)
unfolding days_of_years
one_year n = refl

no_months : (year : ℕ) → days_of_months year 0 ≡ 0
unfolding days_of_months
no_months year = refl

one_month : (year n : ℕ) → days_of_months year (suc n) ≡ days_of_months year n + days_in_month year (suc n)
unfolding days_of_months
one_month year n = refl

-- by its place in a month
in_month : (days years months year rest : ℕ) → year ≡ 1970 + years → years < 8030 → months < 12 → days_of_years years + rest ≡ days
    → days_of_months year months ≤ rest → rest < days_of_months year (suc months) → HasDay days
in_month days years months year rest is below some whole reached within =
    let back : year - 1970 ≡ years = omega arith in
    let first : suc months - 1 ≡ months = omega arith in
    let more = one_month year months in
    record {
      year = year;
      month = suc months;
      day = suc (rest - days_of_months year months);
      since_1970 = omega arith;
      four_digits = omega arith;
      some_month = omega arith;
      a_month = omega arith;
      some_day = omega arith;
      a_day = omega (arith, more);
      is = rw (back, first) (omega arith);
    }

in_year : (days years rest : ℕ) → years < 8030 → days_of_years years + rest ≡ days → rest < days_in_year (1970 + years) → HasDay days
in_year days years rest below whole within =
    let year : ℕ = 1970 + years in
    let months = last_place (days_of_months year) rest 12 (omega (arith, no_months year)) (omega (arith, within, days_of_months_all year)) in
    in_month days years months.place year rest refl below months.below whole months.reached months.within

has_day : (days : ℕ) → days < 2_932_897 → HasDay days
has_day days small =
    let all = days_of_years_closed 8030 in
    let years = last_place days_of_years days 8030 (omega (arith, no_years)) (omega (arith, all)) in
    let reached = years.reached in
    let within = years.within in
    let more = one_year years.place in
    in_year days years.place (days - days_of_years years.place) years.below (omega (arith, reached)) (omega (arith, reached, within, more))

-- some date has so many seconds
date_there : (seconds : ℕ) → seconds < CLOCK_END → (date : Date) × (unix_secs date ≡ seconds)
date_there seconds small =
    let day = has_day (seconds / 86400) (omega arith) in
    let is = day.is in
    let parts : Parts = record {
      year = day.year;
      mon = day.month;
      day = day.day;
      hour = seconds % 86400 / 3600;
      min = seconds % 86400 % 3600 / 60;
      sec = seconds % 60;
      wday = weekday (days_from_civil day.year day.month day.day);
    } in (
      record {
        parts = parts;
        civil = ((day.since_1970, day.four_digits), (day.some_month, day.a_month), (day.some_day, day.a_day));
        time = (omega arith, omega arith, omega arith);
        right_day = refl;
      },
      omega arith,
    )

pub date_text_there : (seconds : ℕ) → seconds < CLOCK_END → (text : List ℕ) × IsDateText seconds text
date_text_there seconds small =
    let date = date_there seconds small in
    (take 26 (date_text date.0) ++ codes "+0000", record { date = date.0; moment = date.1; spelled = refl })
