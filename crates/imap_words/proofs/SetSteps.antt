-- The steps of reading a set.
use Rattle.std.proofs.Common.{◌≡◌, ℕ, false, List, [], ◌∷◌, ◌++◌, length, Option, None, Some, inl, inr, refl, sym, ap, ◌∙◌, subst}
use Rattle.std.proofs.lemmas.Bool.{or_left}
use Rattle.imap_words.specs.Languages.{Then, After, Or, Is, IsOctet, IsViable}
use Rattle.imap_words.specs.Reading.{BeginsIn, always, Reads, StopsReading}
use Rattle.imap_words.specs.declared.stop.Stop.{Stop}
use Rattle.imap_words.specs.declared.stop.Stop.TheVariants.{More}
use Rattle.imap_words.specs.Going.{Continues}
use Rattle.imap_words.specs.Tokens.{IsNonZero, IsSpace, is_digit}
use Rattle.imap_words.specs.Sets.{IsSeqNumber, IsSeqRange, after_range}
use Rattle.imap_words.proofs.Passing.{no_octets}
use Rattle.imap_words.proofs.Composing.{Avoids, NeverAt}
use Rattle.imap_words.proofs.TokenSteps.{octet_viable, number_never}
use Rattle.imap_words.proofs.Going.{begins, onwards, never_avoids, then_avoids, octet_avoids, then_viable, is_viable, left_continues, right_continues, then_never}
use Rattle.imap_words.proofs.Choosing.{seq_never, octet_at, end_reads, mapped_reads, mapped_stops}
use Rattle.imap_words.proofs.Handing.{Hands, both_read, second_stops, both_stop, nothing_reads, something_reads, something_stops}

-- ---- a number or `*`

abbrev pub Numbered : List ℕ → Option ℕ → Type 0
Numbered = Then IsNonZero (λ n. Is (Some n))

abbrev pub Starred : List ℕ → Option ℕ → Type 0
Starred = After (IsOctet 42) (Is None)

star_no_digit : is_digit 42 ≡ false
unfolding is_digit
star_no_digit = refl

non_zero_never : (x : ℕ) → is_digit x ≡ false → NeverAt IsNonZero x
non_zero_never x bad a b v more is e = number_never x bad a b v more is.is_number e

pub seq_number_viable : IsViable IsSeqNumber []
seq_number_viable = let some = then_viable (IsOctet 42) (λ _. Is None) (octet_viable 42) (λ _. is_viable None) in record { rest = some.rest; value = some.value; is_word = inr some.is_word }

pub seq_number_more : (text : List ℕ) → length text ≡ 0 → IsViable IsSeqNumber text
seq_number_more text e = subst (λ z. IsViable IsSeqNumber z) (sym (no_octets text e)) seq_number_viable

pub star_reads : (text : List ℕ) (x : ℕ) (others : List ℕ) → text ≡ x ∷ others → x ≡ 42 → Reads IsSeqNumber (always is_digit) text None others
star_reads text x others e star =
    let at : text ≡ 42 ∷ others = e ∙ ap (λ z. z ∷ others) star in
    let chosen : Continues IsSeqNumber text Starred text =
    subst (λ z. Continues IsSeqNumber z Starred z) (sym at) (right_continues Numbered Starred 42 others (seq_never IsNonZero (λ n. Is (Some n)) 42 (non_zero_never 42 star_no_digit))) in
    (onwards chosen (octet_at text x 42 others e star) (λ _. never_avoids _)).reads (always is_digit) None others (end_reads None (always is_digit) others)

numbered_at : (text : List ℕ) (x : ℕ) (others : List ℕ) → text ≡ x ∷ others → (x ≡ 42 → ⊥) → Continues IsSeqNumber text Numbered text
numbered_at text x others e other = subst (λ z. Continues IsSeqNumber z Numbered z) (sym e) (left_continues Numbered Starred x others (then_never 42 x (λ _. Is None) other))

pub number_stops : (text : List ℕ) (x : ℕ) (others : List ℕ) (stop : Stop) → text ≡ x ∷ others → (x ≡ 42 → ⊥) → StopsReading IsNonZero (always is_digit) text stop → StopsReading IsSeqNumber (always is_digit) text stop
number_stops text x others stop e other stops = (numbered_at text x others e other).stops (always is_digit) stop (mapped_stops IsNonZero Some (always is_digit) (always is_digit) text stop (λ u b h. h) stops)

pub number_read : (text : List ℕ) (x : ℕ) (others : List ℕ) (n : ℕ) (rest : List ℕ) → text ≡ x ∷ others → (x ≡ 42 → ⊥) → Reads IsNonZero (always is_digit) text n rest → Reads IsSeqNumber (always is_digit) text (Some n) rest
number_read text x others n rest e other r = (numbered_at text x others e other).reads (always is_digit) (Some n) rest (mapped_reads IsNonZero Some (always is_digit) (always is_digit) text rest n (λ u b h. h) r)

-- ---- a range

abbrev pub Last : Option ℕ → List ℕ → Option ℕ × Option ℕ → Type 0
Last first = After (IsOctet 58) (Then IsSeqNumber (λ last. Is (first, last)))

abbrev pub MaybeLast : Option ℕ → List ℕ → Option ℕ × Option ℕ → Type 0
MaybeLast first = Or (Is (first, first)) (Last first)

colon_no_digit : is_digit 58 ≡ false
unfolding is_digit
colon_no_digit = refl

digit_after : (b : List ℕ) → BeginsIn is_digit b → BeginsIn after_range b
digit_after [] h = h
digit_after (x ∷ b) h = or_left (is_digit x) _ h

last_hands : (first : Option ℕ) → Hands is_digit (always after_range) (MaybeLast first)
last_hands first a b w (inl is) begin = digit_after b (subst (λ z. BeginsIn is_digit (z ++ b)) is.0 begin)
last_hands first a b w (inr is) begin = absurd (then_avoids is_digit (IsOctet 58) (λ _. Then IsSeqNumber (λ last. Is (first, last))) (octet_avoids is_digit 58 colon_no_digit) a b w is begin)

last_viable : (first : Option ℕ) → IsViable (MaybeLast first) []
last_viable first = record { rest = []; value = (first, first); is_word = inl (refl, refl) }

pub first_number_stops : (text : List ℕ) (stop : Stop) → StopsReading IsSeqNumber (always is_digit) text stop → StopsReading IsSeqRange (always after_range) text stop
first_number_stops text stop stops = both_stop IsSeqNumber MaybeLast (always is_digit) (always after_range) text stop stops last_hands last_viable

pub range_open : (text rest : List ℕ) (first : Option ℕ) → Reads IsSeqNumber (always is_digit) text first rest → length rest ≡ 0 → IsViable IsSeqRange text
range_open text rest first r e = second_stops IsSeqNumber MaybeLast (always is_digit) (always after_range) text rest first More r last_hands (subst (λ z. IsViable (MaybeLast first) z) (sym (no_octets rest e)) (last_viable first))

pub range_alone : (text rest : List ℕ) (first : Option ℕ) (x : ℕ) (others : List ℕ) → Reads IsSeqNumber (always is_digit) text first rest → rest ≡ x ∷ others → (x ≡ 58 → ⊥)
    → Reads IsSeqRange (always after_range) text (first, first) rest
range_alone text rest first x others r e other =
    both_read IsSeqNumber MaybeLast (always is_digit) (always after_range) text rest rest first (first, first) r last_hands
    (subst (λ z. Reads (MaybeLast first) (always after_range) z (first, first) z) (sym e) (nothing_reads (first, first) (Last first) (always after_range) x others (then_never 58 x _ other)))

last_begun : (first : Option ℕ) (rest : List ℕ) (x : ℕ) (others : List ℕ) → rest ≡ x ∷ others → x ≡ 58 → Continues (Last first) rest (Then IsSeqNumber (λ last. Is (first, last))) others
last_begun first rest x others e colon = onwards (begins (Last first) rest) (octet_at rest x 58 others e colon) (λ _. never_avoids _)

pub last_stops : (text rest : List ℕ) (first : Option ℕ) (x : ℕ) (others : List ℕ) (stop : Stop) → Reads IsSeqNumber (always is_digit) text first rest → rest ≡ x ∷ others → x ≡ 58
    → StopsReading IsSeqNumber (always is_digit) others stop → StopsReading IsSeqRange (always after_range) text stop
unfolding is_digit
last_stops text rest first x others stop r e colon stops =
    second_stops IsSeqNumber MaybeLast (always is_digit) (always after_range) text rest first stop r last_hands
    (subst (λ z. StopsReading (MaybeLast first) (always after_range) z stop) (sym at) (something_stops (first, first) (Last first) (always after_range) 58 others stop refl
    (subst (λ z. StopsReading (Last first) (always after_range) z stop) at ((last_begun first rest x others e colon).stops (always after_range) stop
    (mapped_stops IsSeqNumber (λ last. (first, last)) (always is_digit) (always after_range) others stop (λ u. digit_after) stops)))))
  where
    at : rest ≡ 58 ∷ others
    at = e ∙ ap (λ z. z ∷ others) colon

pub range_reads : (text rest mid : List ℕ) (first last : Option ℕ) (x : ℕ) (others : List ℕ) → Reads IsSeqNumber (always is_digit) text first rest → rest ≡ x ∷ others → x ≡ 58
    → Reads IsSeqNumber (always is_digit) others last mid → Reads IsSeqRange (always after_range) text (first, last) mid
unfolding is_digit
range_reads text rest mid first last x others r e colon second =
    both_read IsSeqNumber MaybeLast (always is_digit) (always after_range) text rest mid first (first, last) r last_hands
    (subst (λ z. Reads (MaybeLast first) (always after_range) z (first, last) mid) (sym at) (something_reads (first, first) (Last first) (always after_range) 58 others (first, last) mid refl
    (subst (λ z. Reads (Last first) (always after_range) z (first, last) mid) at ((last_begun first rest x others e colon).reads (always after_range) (first, last) mid
    (mapped_reads IsSeqNumber (λ last. (first, last)) (always is_digit) (always after_range) others mid last (λ u. digit_after) second)))))
  where
    at : rest ≡ 58 ∷ others
    at = e ∙ ap (λ z. z ∷ others) colon

-- ---- a set

comma_ends : after_range 44 ≡ false
unfolding is_digit
comma_ends = refl

space_ends : after_range 32 ≡ false
unfolding is_digit
space_ends = refl

pub comma_avoids : Avoids after_range (IsOctet 44)
comma_avoids = octet_avoids after_range 44 comma_ends

pub space_avoids : Avoids after_range IsSpace
space_avoids = octet_avoids after_range 32 space_ends
