-- The text of a date, as a field has it and as HTTP has it.
use Rattle.std.proofs.Common.{◌≡◌, ℕ, zero, suc, ◌+◌, ◌<◌, List, [], ◌∷◌, ◌++◌, length, take, drop, get_or, codes, refl, sym, ap, ◌∙◌, arith, take_at, drop_at}
use Rattle.std.proofs.lemmas.List.{append_assoc, length-append, take-append-drop}
use Rattle.std.proofs.lemmas.Slice.Eq.{text_from_reads}
use Rattle.std.specs.Int.{IsInRange}
use Rattle.httpdate.specs.Date.{unix_secs, date_text}
use Rattle.httpdate.specs.Text.{day_name, month_name, two_digits, four_digits, time_of_day}
use Rattle.httpdate.specs.declared.date.HttpDate.{HttpDate as Date}
use Rattle.httpdate.specs.declared.parts.Parts.{Parts}
use Rattle.httpdate.proofs.CalendarLemmas.{days_from_civil_bound}
use Rattle.field_tokens.specs.TokenOctets.{is_line_octet}
use Rattle.mail_wire.proofs.AllLemmas.{pass-weaker}
use Rattle.mail_wire.specs.declared.clock.TheConstants.{CLOCK_END}
use Rattle.utf8_reports.specs.private.Reading.{IsSomeDate}
use Rattle.utf8_reports.proofs.DateOctets.{is_printed, date_printed, printed_plain}
use Rattle.utf8_reports.proofs.WholeLines.{IsPlain}

day_size : (n : ℕ) → IsInRange 1 7 n → length (day_name n) ≡ 3
day_size (suc zero) h = refl
day_size (suc (suc zero)) h = refl
day_size (suc (suc (suc zero))) h = refl
day_size (suc (suc (suc (suc zero)))) h = refl
day_size (suc (suc (suc (suc (suc zero))))) h = refl
day_size (suc (suc (suc (suc (suc (suc zero)))))) h = refl
day_size (suc (suc (suc (suc (suc (suc (suc zero))))))) h = refl
day_size zero h = absurd (omega arith)
day_size (suc (suc (suc (suc (suc (suc (suc (suc k)))))))) h = absurd (omega arith)

month_size : (n : ℕ) → IsInRange 1 12 n → length (month_name n) ≡ 3
month_size (suc zero) h = refl
month_size (suc (suc zero)) h = refl
month_size (suc (suc (suc zero))) h = refl
month_size (suc (suc (suc (suc zero)))) h = refl
month_size (suc (suc (suc (suc (suc zero))))) h = refl
month_size (suc (suc (suc (suc (suc (suc zero)))))) h = refl
month_size (suc (suc (suc (suc (suc (suc (suc zero))))))) h = refl
month_size (suc (suc (suc (suc (suc (suc (suc (suc zero)))))))) h = refl
month_size (suc (suc (suc (suc (suc (suc (suc (suc (suc zero))))))))) h = refl
month_size (suc (suc (suc (suc (suc (suc (suc (suc (suc (suc zero)))))))))) h = refl
month_size (suc (suc (suc (suc (suc (suc (suc (suc (suc (suc (suc zero))))))))))) h = refl
month_size (suc (suc (suc (suc (suc (suc (suc (suc (suc (suc (suc (suc zero)))))))))))) h = refl
month_size zero h = absurd (omega arith)
month_size (suc (suc (suc (suc (suc (suc (suc (suc (suc (suc (suc (suc (suc k))))))))))))) h = absurd (omega arith)

three_items : (xs : List ℕ) → length xs ≡ 3 → xs ≡ get_or xs 0 0 ∷ get_or xs 1 0 ∷ get_or xs 2 0 ∷ []
three_items xs h = text_from_reads xs _ h (refl, (refl, (refl, tt)))

-- what stands before the zone's name and its space
abbrev before_space : List ℕ → List ℕ → Parts → List ℕ
before_space day month p =
    day ++ codes ", " ++ two_digits p.day ++ codes " " ++ month ++ codes " " ++ four_digits p.year ++ codes " " ++ time_of_day p

before_size : (day month : List ℕ) (p : Parts) → length day ≡ 3 → length month ≡ 3 → length (before_space day month p ++ 32 ∷ []) ≡ 26
before_size day month p d m = rw (three_items day d, three_items month m) refl

-- a date's text ends with the name of its zone
record IsZoned (date : Date) : Type 0 where
  front : List ℕ
  size : length front ≡ 26
  whole : date_text date ≡ front ++ codes "GMT"

zoned : (date : Date) → IsZoned date
zoned date =
    let p = date.parts in
    let day = day_size p.wday (rw date.right_day (omega arith)) in
    let month = month_size p.mon date.civil.1 in
    let before = before_space (day_name p.wday) (month_name p.mon) p in
    record {
      front = before ++ 32 ∷ [];
      size = before_size (day_name p.wday) (month_name p.mon) p day month;
      whole = sym (append_assoc before (32 ∷ []) (codes "GMT"));
    }

pub whole_by : (text front zone : List ℕ) → front ≡ take 26 text → zone ≡ drop 26 text → text ≡ front ++ zone
whole_by text front zone first last = rw (first, last) (sym (take-append-drop 26 text))

in_time : (date : Date) → unix_secs date < CLOCK_END
in_time date =
    let p = date.parts in
    omega (arith, days_from_civil_bound p.year p.mon p.day date.civil, date.time)

pub some_date : (text front zone : List ℕ) (date : Date) → text ≡ front ++ zone → length front ≡ 26 → zone ≡ codes "+0000" → front ++ codes "GMT" ≡ date_text date → IsSomeDate text
some_date text front zone date whole size zone_is front_is =
    let first : take 26 (date_text date) ≡ front = ap (take 26) (sym front_is) ∙ take_at front (codes "GMT") 26 size in
    record {
      seconds = unix_secs date;
      bound = in_time date;
      is_date = record { date = date; moment = refl; spelled = whole ∙ ap (λ z. front ++ z) zone_is ∙ ap (λ f. f ++ codes "+0000") (sym first) };
    }

-- the parts of a field's date
pub record HasDateParts (text : List ℕ) : Type 0 where
  pub date : Date
  pub size : length text ≡ 31
  pub front : take 26 text ++ codes "GMT" ≡ date_text date
  pub zone : drop 26 text ≡ codes "+0000"

pub date_parts : (text : List ℕ) → IsSomeDate text → HasDateParts text
date_parts text is =
    let date = is.is_date.date in
    let z = zoned date in
    let first : take 26 (date_text date) ≡ z.front = ap (take 26) z.whole ∙ take_at z.front (codes "GMT") 26 z.size in
    let spelled : text ≡ z.front ++ codes "+0000" = is.is_date.spelled ∙ ap (λ f. f ++ codes "+0000") first in
    record {
      date = date;
      size = ap length spelled ∙ (length-append z.front (codes "+0000") ∙ ap (λ n. n + 5) z.size);
      front = ap (λ t. take 26 t ++ codes "GMT") spelled ∙ (ap (λ f. f ++ codes "GMT") (take_at z.front (codes "+0000") 26 z.size) ∙ sym z.whole);
      zone = ap (drop 26) spelled ∙ drop_at z.front (codes "+0000") 26 z.size;
    }

pub date_plain : (text : List ℕ) → IsSomeDate text → IsPlain text
date_plain text is = pass-weaker is_printed is_line_octet printed_plain text (date_printed is.seconds text is.is_date)
