-- The steps of reading a date with its time.
use Rattle.std.proofs.Common.{◌≡◌, ℕ, ◌-◌, true, false, List, [], ◌∷◌, ◌++◌, length, take, drop, inl, inr, refl, sym, ap, ◌∙◌, subst, arith}
use Rattle.std.proofs.lemmas.Bool.{both_ways}
use Rattle.std.proofs.lemmas.Result.{MatchResult-weaker}
use Rattle.std.specs.Prelude.{Result, MatchResult}
use Rattle.imap_words.specs.Languages.{Then, After, Or, Is, IsOctet, SaysItself, IsViable}
use Rattle.imap_words.specs.Reading.{never, Reads, FailsAt, StopsReading}
use Rattle.imap_words.specs.declared.stop.Stop.{Stop}
use Rattle.imap_words.specs.declared.stop.Stop.TheVariants.{More}
use Rattle.imap_words.specs.Going.{Continues}
use Rattle.imap_words.specs.Tokens.{IsSpace, IsDoubleQuote, is_digit}
use Rattle.imap_words.specs.Keywords.{IsWordOf, IsTable}
use Rattle.imap_words.specs.Dates.{IsDigit, IsTwoDigits, IsFourDigits, IsDateDayFixed, IsTime, IsZone, IsDateTimeText, months}
use Rattle.imap_words.proofs.Passing.{no_octets}
use Rattle.imap_words.proofs.Writing.{written_stops, written_split}
use Rattle.imap_words.proofs.Composing.{NeverAt, left_reads, swap_reads, fails_first}
use Rattle.imap_words.proofs.TokenSteps.{octet_never, octet_viable}
use Rattle.imap_words.proofs.TableSteps.{is_table}
use Rattle.imap_words.proofs.Going.{begins, onwards, ends_at, never_avoids, is_viable, then_viable, left_continues, right_continues, then_never}
use Rattle.imap_words.proofs.Choosing.{octet_reads, octet_at, seq_never}

-- ---- sequences whose parts are read whatever follows

pub after : {V W : Type 0} {P Q : List ℕ → V → Type 0} {F : List ℕ → W → Type 0} {text rest mid : List ℕ} {w : W} → Continues P text (After F Q) rest → Reads F never rest w mid → Continues P text Q mid
after so r = onwards so r (λ _. never_avoids _)

pub stops_in : {V W : Type 0} {P Q : List ℕ → V → Type 0} {F : List ℕ → W → Type 0} {text rest : List ℕ} (stop : Stop) → Continues P text (After F Q) rest → IsViable Q [] → StopsReading F never rest stop → StopsReading P never text stop
stops_in stop so some stops = ends_at never never stop so stops (λ _. never_avoids _) (λ _. some)

pub both_viable : {V W : Type 0} {P : List ℕ → V → Type 0} {F : List ℕ → W → Type 0} → IsViable F [] → IsViable P [] → IsViable (After F P) []
both_viable {P} {F} first second = then_viable F (λ _. P) first (λ _. second)

-- what is left is read by one call
pub by_call : {T V : Type 0} {P Q : List ℕ → V → Type 0} {text rest : List ℕ} (value : T → V) (following : T → List ℕ) (r : Result T Stop) → Continues P text Q rest
    → MatchResult r (λ x. Reads Q never rest (value x) (following x)) (λ stop. StopsReading Q never rest stop) → MatchResult r (λ x. Reads P never text (value x) (following x)) (λ stop. StopsReading P never text stop)
by_call value following r so found = MatchResult-weaker r found (λ x. so.reads never (value x) (following x)) (λ stop. so.stops never stop)

pub open_viable : {V : Type 0} (P : List ℕ → V → Type 0) (text : List ℕ) → length text ≡ 0 → IsViable P [] → IsViable P text
open_viable P text e some = subst (λ z. IsViable P z) (sym (no_octets text e)) some

-- ---- digits

zero_digit : is_digit 48 ≡ true
unfolding is_digit
zero_digit = refl

space_no_digit : is_digit 32 ≡ false
unfolding is_digit
space_no_digit = refl

pub digit_viable : IsViable IsDigit []
digit_viable = record { rest = 48 ∷ []; value = 48; is_word = record { is = refl; digit = zero_digit } }

digit_never : (x : ℕ) → is_digit x ≡ false → NeverAt IsDigit x
digit_never x bad a b v more is e = let same : v ≡ x = first_is a v is.is e in both_ways (is_digit x) bad (subst (λ z. is_digit z ≡ true) same is.digit)
  where
    first_is : (a : List ℕ) (v : ℕ) → a ≡ v ∷ [] → a ++ b ≡ x ∷ more → v ≡ x
    first_is [] v is e = cc is
    first_is (z ∷ a) v is e = cc (is, e)

pub digit_fails : (text : List ℕ) (x : ℕ) (xs : List ℕ) → text ≡ x ∷ xs → is_digit x ≡ false → FailsAt IsDigit never text (length text)
digit_fails text x xs e bad = rw e (fails_first IsDigit never x xs digit_viable (digit_never x bad))

pub two_viable : IsViable IsTwoDigits []
two_viable = both_viable digit_viable digit_viable

pub four_viable : IsViable IsFourDigits []
four_viable = both_viable two_viable two_viable

-- ---- a day

pub day_viable : IsViable IsDateDayFixed []
day_viable = record { rest = two_viable.rest; value = two_viable.value; is_word = inr two_viable.is_word }

pub after_space : (text : List ℕ) (x : ℕ) (others : List ℕ) → text ≡ x ∷ others → x ≡ 32 → Continues IsDateDayFixed text IsDigit others
after_space text x others e space =
    let at : text ≡ 32 ∷ others = e ∙ ap (λ z. z ∷ others) space in
    let chosen : Continues IsDateDayFixed text (After IsSpace IsDigit) text
    = subst (λ z. Continues IsDateDayFixed z (After IsSpace IsDigit) z) (sym at) (left_continues (After IsSpace IsDigit) IsTwoDigits 32 others (seq_never IsDigit (λ _. IsDigit) 32 (digit_never 32 space_no_digit))) in
    after chosen (octet_at text x 32 others e space)

pub without_space : (text : List ℕ) (x : ℕ) (others : List ℕ) → text ≡ x ∷ others → (x ≡ 32 → ⊥) → Continues IsDateDayFixed text IsTwoDigits text
without_space text x others e other = subst (λ z. Continues IsDateDayFixed z IsTwoDigits z) (sym e) (right_continues (After IsSpace IsDigit) IsTwoDigits x others (then_never 32 x (λ _. IsDigit) other))

-- ---- a zone

pub zone_viable : IsViable IsZone []
zone_viable = both_viable (record { rest = 43 ∷ []; value = 43; is_word = inl (refl, refl) }) four_viable

pub after_plus : (text : List ℕ) (x : ℕ) (others : List ℕ) → text ≡ x ∷ others → x ≡ 43 → Continues IsZone text IsFourDigits others
after_plus text x others e plus =
    let at : text ≡ 43 ∷ others = e ∙ ap (λ z. z ∷ others) plus in
    let sign = left_reads (IsOctet 43) (IsOctet 45) never 43 others others 43 (octet_never 45 43 (λ bad. absurd (omega (arith, bad)))) (octet_reads 43 others) in
    after (begins IsZone text) (subst (λ z. Reads (Or (IsOctet 43) (IsOctet 45)) never z 43 others) (sym at) sign)

pub after_minus : (text : List ℕ) (x : ℕ) (others : List ℕ) → text ≡ x ∷ others → x ≡ 45 → Continues IsZone text IsFourDigits others
after_minus text x others e minus =
    let at : text ≡ 45 ∷ others = e ∙ ap (λ z. z ∷ others) minus in
    let sign = left_reads (IsOctet 45) (IsOctet 43) never 45 others others 45 (octet_never 43 45 (λ bad. absurd (omega (arith, bad)))) (octet_reads 45 others) in
    after (begins IsZone text) (subst (λ z. Reads (Or (IsOctet 43) (IsOctet 45)) never z 45 others) (sym at) (swap_reads (IsOctet 45) (IsOctet 43) never (45 ∷ others) others 45 sign))

pub sign_fails : (text : List ℕ) (x : ℕ) (xs : List ℕ) → text ≡ x ∷ xs → (x ≡ 43 → ⊥) → (x ≡ 45 → ⊥) → FailsAt IsZone never text (length text)
sign_fails text x xs e plus minus = rw e (fails_first IsZone never x xs zone_viable (seq_never (Or (IsOctet 43) (IsOctet 45)) (λ _. IsFourDigits) x sign_never))
  where
    sign_never : NeverAt (Or (IsOctet 43) (IsOctet 45)) x
    sign_never a b v more (inl is) same = octet_never 43 x plus a b v more is same
    sign_never a b v more (inr is) same = octet_never 45 x minus a b v more is same

-- ---- a time

pub after_minute : IsViable (After (IsOctet 58) IsTwoDigits) []
after_minute = both_viable (octet_viable 58) two_viable

pub after_colon : IsViable (After IsTwoDigits (After (IsOctet 58) IsTwoDigits)) []
after_colon = both_viable two_viable after_minute

pub after_hour : IsViable (After (IsOctet 58) (After IsTwoDigits (After (IsOctet 58) IsTwoDigits))) []
after_hour = both_viable (octet_viable 58) after_colon

pub time_viable : IsViable IsTime []
time_viable = both_viable two_viable after_hour

-- ---- a date with its time

month_viable : IsViable (IsWordOf months) []
month_viable = let table : IsTable months = is_table _ _ refl refl in record {
  rest = table.some.word;
  value = table.some.says;
  is_word = record { entry = table.some; known = table.known; word = table.each table.some table.known; says = refl };
}

pub after_time : IsViable (After IsSpace IsZone) []
after_time = both_viable (octet_viable 32) zone_viable

pub after_year_space : IsViable (After IsTime (After IsSpace IsZone)) []
after_year_space = both_viable time_viable after_time

pub after_year : IsViable (After IsSpace (After IsTime (After IsSpace IsZone))) []
after_year = both_viable (octet_viable 32) after_year_space

pub after_month_dash : IsViable (After IsFourDigits (After IsSpace (After IsTime (After IsSpace IsZone)))) []
after_month_dash = both_viable four_viable after_year

pub after_month : IsViable (After (IsOctet 45) (After IsFourDigits (After IsSpace (After IsTime (After IsSpace IsZone))))) []
after_month = both_viable (octet_viable 45) after_month_dash

pub after_day_dash : IsViable (After (IsWordOf months) (After (IsOctet 45) (After IsFourDigits (After IsSpace (After IsTime (After IsSpace IsZone)))))) []
after_day_dash = both_viable month_viable after_month

pub after_day : IsViable (After (IsOctet 45) (After (IsWordOf months) (After (IsOctet 45) (After IsFourDigits (After IsSpace (After IsTime (After IsSpace IsZone))))))) []
after_day = both_viable (octet_viable 45) after_day_dash

date_viable : IsViable IsDateTimeText []
date_viable = both_viable day_viable after_day

-- ---- what stands between the quotes

pub written_stops_so : (text : List ℕ) (stop : Stop) → StopsReading IsDateTimeText never text stop → StopsReading (SaysItself IsDateTimeText) never text stop
written_stops_so = written_stops IsDateTimeText never never (λ u a b h. h)

pub split_so : (text rest front back : List ℕ) (v : ℕ) → Reads IsDateTimeText never text v rest → front ≡ take (length text - length rest) text → back ≡ drop (length text - length rest) text
    → Reads (SaysItself IsDateTimeText) never text front back
split_so = written_split IsDateTimeText never never (λ u a b h. h)

pub ends_viable : (date : List ℕ) → IsViable (After IsDoubleQuote (Is date)) []
ends_viable date = then_viable IsDoubleQuote (λ _. Is date) (octet_viable 34) (λ _. is_viable date)

pub written_viably : IsViable (Then (SaysItself IsDateTimeText) (λ date. After IsDoubleQuote (Is date))) []
written_viably = then_viable (SaysItself IsDateTimeText) _ (written_stops_so [] More date_viable) ends_viable
