-- Of a text one front at most is a word of a table, a string, a set, a date or a flag, with one value.
use Rattle.std.proofs.Common.{◌≡◌, ℕ, ◌<◌, ◌≤◌, nat_lt, ◌==◌, Bool, true, false, List, [], ◌∷◌, ◌++◌, length, map, Option, None, Some, inl, inr, refl, sym, ap, ◌∙◌, subst, append_assoc, length-append, if◌then◌else◌, arith}
use Rattle.std.proofs.lemmas.Bool.{and_parts, both_ways, or_left, cond-false, cond-true, false_from_ne_true, eqb-true, ltb-true, lt-ltb}
use Rattle.std.proofs.lemmas.Bool.Decides.{nat_tests}
use Rattle.std.proofs.lemmas.Grind.{common_steps}
use Rattle.std.proofs.lemmas.List.{append_cancel_left, append_cancel_right, map-append}
use Rattle.std.specs.List.{list_all}
use Rattle.imap_words.specs.Languages.{Then, After, Or, Is, IsOctet, IsCounted, SaysItself}
use Rattle.imap_words.specs.Reading.{BeginsIn, never, always}
use Rattle.imap_words.specs.Tokens.{IsSpace, IsDoubleQuote, IsCrlf, IsRunOf, IsNumber32, IsNonZero, IsImapAtom, is_digit, is_quoted_text, is_atom_char, is_astring_char, is_list_char}
use Rattle.imap_words.specs.Keywords.{Named, upper, IsWordOf, IsTable, TellsLonger}
use Rattle.imap_words.specs.Strings.{IsHeader, IsHeader8, IsLiteral, IsString, IsAstring, IsListMailbox, IsHeaderName, IsQuoted, IsOneQuoted, QuotedChar, text, escaped, high, IsQuotedChar, quoted_spelling, quoted_octets, IsHighChar}
use Rattle.imap_words.specs.Sets.{IsSeqNumber, IsSeqRange, IsSetAndSpace, after_range}
use Rattle.imap_words.specs.Dates.{IsDigit, IsTwoDigits, IsFourDigits, IsDateDayFixed, IsTime, IsZone, IsDateTimeText, IsDateTime, months}
use Rattle.imap_words.specs.declared.tokens.Kind.TheVariants.{Atom}
use Rattle.imap_words.proofs.Passing.{all_append}
use Rattle.imap_words.proofs.Composing.{Avoids, NeverAt}
use Rattle.imap_words.proofs.Going.{octet_avoids, then_avoids}
use Rattle.imap_words.proofs.Handing.{Hands}
use Rattle.imap_words.proofs.TableSteps.{is_table, tells_longer}
use Rattle.imap_words.proofs.HeaderSteps.{brace_avoids}
use Rattle.imap_words.proofs.HighSteps.{Following, put_apart, high_never}
use Rattle.imap_words.proofs.QuotedSteps.{quote_never, AreRest, IsRestQuoted, to_rest}
use Rattle.imap_words.proofs.SetSteps.{comma_avoids, space_avoids}
use Rattle.imap_words.proofs.StringHeads.{astring_starts, list_starts}
use Rattle.imap_grammar.specs.Flags.{IsFlag, IsFlagList, IsFlagsToEnd}
use Rattle.imap_grammar.specs.Commands.{at_octet}
use Rattle.imap_grammar.proofs.LineLaws.{fronts_same}
use Rattle.imap_grammar.proofs.Sames.{or_avoids}
use Rattle.imap_grammar.proofs.CommandSteps.{crlf_avoids}
use Rattle.imap_grammar.proofs.Single.{Single, nothing_goes, any_single, within_single, Opens, then_opens, octet_opens, never_avoid, then_single, ends_single, read_single, is_single, mapped_single, either_single, nothing_single, nothing_hands, greedy_single, octet_single, itself_single, list_single}
use Rattle.imap_grammar.proofs.FlagSteps.{space_ends, backslash_ends, open_ends}

-- ---- tables, runs and numbers

pub word_single : {V : Type 0} (table : List (Named V)) (later : V → ℕ → Bool) → IsTable table → TellsLonger table later → Single later (IsWordOf table)
word_single {V} table later t observed = greedy_single once goes
  where
    once : (a : List ℕ) (v w : V) → IsWordOf table a v → IsWordOf table a w → v ≡ w
    once a v w is other = is.says ∙ (t.one is.entry other.entry is.known other.known (sym is.word ∙ other.word) ∙ sym other.says)

    goes : (a : List ℕ) (z : ℕ) (c : List ℕ) (v w : V) → IsWordOf table a v → IsWordOf table (a ++ z ∷ c) w → later v z ≡ true
    goes a z c v w is other =
        let longer : other.entry.word ≡ (is.entry.word ++ upper z ∷ []) ++ map upper c
        = sym other.word ∙ (map-append upper a (z ∷ c) ∙ (ap (λ k. k ++ upper z ∷ map upper c) is.word ∙ sym (append_assoc is.entry.word (upper z ∷ []) (map upper c)))) in
        subst (λ k. later k z ≡ true) (sym is.says) (observed is.entry z is.known (other.entry, map upper c, other.known, longer))

-- what is after a front passes too
passes_after : (p : ℕ → Bool) (a : List ℕ) (z : ℕ) (c : List ℕ) → list_all p (a ++ z ∷ c) ≡ true → p z ≡ true
passes_after p a z c all = (and_parts (p z) (list_all p c) (all_append p a (z ∷ c) all).1).0

pub run_single : (p : ℕ → Bool) → Single (always p) (IsRunOf p)
run_single p = greedy_single (λ a v w is other. is.value_is ∙ sym other.value_is) (λ a z c v w is other. passes_after p a z c other.passes)

begins_all : (p : ℕ → Bool) (a b : List ℕ) → 0 < length a → list_all p a ≡ true → BeginsIn p (a ++ b)
begins_all p [] b some all = absurd (omega (arith, some))
begins_all p (x ∷ a) b some all = (and_parts (p x) (list_all p a) all).0

pub run_opens : (p : ℕ → Bool) → Opens p (IsRunOf p)
run_opens p a b v is = begins_all p a b is.some is.passes

pub number_single : Single (always is_digit) IsNumber32
number_single = greedy_single (λ a v w is other. is.value_is ∙ sym other.value_is) (λ a z c v w is other. passes_after is_digit a z c other.digits)

pub non_zero_single : Single (always is_digit) IsNonZero
non_zero_single = within_single number_single (λ octets v is. is.is_number)

pub non_zero_opens : Opens is_digit IsNonZero
non_zero_opens a b v is = begins_all is_digit a b is.is_number.some is.is_number.digits

longer : (a : List ℕ) (z : ℕ) (c : List ℕ) → length a < length (a ++ z ∷ c)
longer a z c = omega (arith, length-append a (z ∷ c))

pub counted_single : (n : ℕ) → Single never (IsCounted n)
counted_single n = greedy_single (λ a v w is other. is.1 ∙ sym other.1) (λ a z c v w is other. absurd (omega (arith, is.0, other.0, longer a z c)))

pub crlf_single : Single never IsCrlf
crlf_single = read_single (octet_single 13) (λ _. octet_single 10)

pub space_single : Single never IsSpace
space_single = octet_single 32

-- ---- literals

pub header_single : Single never IsHeader
header_single = read_single (octet_single 123) (λ _. ends_single number_single (λ n. brace_avoids n) (λ n. read_single (octet_single 125) (λ _. read_single crlf_single (λ _. is_single n))))

pub header8_single : Single never IsHeader8
header8_single = read_single (octet_single 126) (λ _. header_single)

literal_single : Single never IsLiteral
literal_single = read_single header_single (λ n. counted_single n)

-- ---- quoted strings

-- how many octets a character has that begins with this one
abbrev size_from : ℕ → ℕ
size_from x = if x == 92 then 2 else if nat_lt x 128 then 1 else if nat_lt x 224 then 2 else if nat_lt x 240 then 3 else 4

-- what the octets of a character say
abbrev said_by : List ℕ → List ℕ
said_by [] = []
said_by (x ∷ xs) = if x == 92 then xs else x ∷ xs

-- the first octet tells how many there are, and they tell what they say
abbrev IsFormed : List ℕ → List ℕ → Type 0
IsFormed octets value = (x : ℕ) × (xs : List ℕ) × (octets ≡ x ∷ xs) × (length octets ≡ size_from x) × (value ≡ said_by octets)

text_low : (x : ℕ) → is_quoted_text x ≡ true → x < 128
unfolding is_quoted_text
text_low x e = grind (arith, common_steps, nat_tests, e)

backslash_none : is_quoted_text 92 ≡ true → ⊥
unfolding is_quoted_text
backslash_none e = cc e

text_plain : (x : ℕ) → is_quoted_text x ≡ true → (x == 92) ≡ false
text_plain x may = false_from_ne_true (x == 92) (λ e. backslash_none (subst (λ z. is_quoted_text z ≡ true) (eqb-true x 92 e) may))

high_plain : (x : ℕ) → 194 ≤ x → (x == 92) ≡ false
high_plain x low = false_from_ne_true (x == 92) (λ e. omega (arith, low, eqb-true x 92 e))

not_below : (x n : ℕ) → n ≤ x → nat_lt x n ≡ false
not_below x n low = false_from_ne_true (nat_lt x n) (λ e. omega (arith, low, ltb-true x n e))

size_text : (x : ℕ) → (x == 92) ≡ false → x < 128 → size_from x ≡ 1
size_text x other less = cond-false (x == 92) _ _ other ∙ cond-true (nat_lt x 128) _ _ (lt-ltb x 128 less)

size_high : (x : ℕ) → 194 ≤ x → size_from x ≡ (if nat_lt x 224 then 2 else if nat_lt x 240 then 3 else 4)
size_high x low = cond-false (x == 92) _ _ (high_plain x low) ∙ cond-false (nat_lt x 128) _ _ (not_below x 128 (omega (arith, low)))

size_two : (x : ℕ) → 194 ≤ x → x < 224 → size_from x ≡ 2
size_two x low less = size_high x low ∙ cond-true (nat_lt x 224) _ _ (lt-ltb x 224 less)

size_three : (x : ℕ) → 224 ≤ x → x < 240 → size_from x ≡ 3
size_three x low less = size_high x (omega (arith, low)) ∙ (cond-false (nat_lt x 224) _ _ (not_below x 224 low) ∙ cond-true (nat_lt x 240) _ _ (lt-ltb x 240 less))

size_four : (x : ℕ) → 240 ≤ x → size_from x ≡ 4
size_four x low = size_high x (omega (arith, low)) ∙ (cond-false (nat_lt x 224) _ _ (not_below x 224 (omega (arith, low))) ∙ cond-false (nat_lt x 240) _ _ (not_below x 240 low))

high_formed : (octets : List ℕ) (v : ℕ) → IsHighChar octets v → IsFormed octets octets
high_formed [] v is = absurd (high_never 0 (λ l h. omega (arith, l)) [] (0 ∷ []) v [] is refl)
high_formed (x ∷ xs) v is = by (put_apart x xs v is)
  where
    formed : 194 ≤ x → length (x ∷ xs) ≡ size_from x → IsFormed (x ∷ xs) (x ∷ xs)
    formed low sized = (x, xs, refl, sized, sym (cond-false (x == 92) xs (x ∷ xs) (high_plain x low)))

    by : Following x xs v → IsFormed (x ∷ xs) (x ∷ xs)
    by (inl two) = let len : length (x ∷ xs) ≡ 2 = omega (arith, ap length two.2.is) in formed two.0 (len ∙ sym (size_two x two.0 two.1))
    by (inr (inl three)) =
        let s = three.2 in
        let len : length (x ∷ xs) ≡ 3 = omega (arith, ap length s.whole, length-append s.front s.back, ap length s.first.is, ap length s.second.is) in
        formed (omega (arith, three.0)) (len ∙ sym (size_three x three.0 three.1))
    by (inr (inr four)) =
        let s = four.2 in
        let t = s.second in
        let len : length (x ∷ xs) ≡ 4 = omega (arith, ap length s.whole, length-append s.front s.back, ap length s.first.is, ap length t.whole, length-append t.front t.back, ap length t.first.is, ap length t.second.is) in
        formed (omega (arith, four.0)) (len ∙ sym (size_four x four.0))

one_formed : (utf8 : Bool) (octets value : List ℕ) → IsOneQuoted utf8 octets value → IsFormed octets value
one_formed utf8 octets value is = by is.item is.is is.spelled is.value_is
  where
    moved : (spelled said : List ℕ) → IsFormed spelled said → octets ≡ spelled → value ≡ said → IsFormed octets value
    moved spelled said formed e f = subst (λ z. IsFormed z value) (sym e) (subst (λ z. IsFormed spelled z) (sym f) formed)

    by : (item : QuotedChar) → IsQuotedChar utf8 item → octets ≡ quoted_spelling item → value ≡ quoted_octets item → IsFormed octets value
    by (text x) may e f =
        let len : length (x ∷ []) ≡ 1 = omega arith in
        moved (x ∷ []) (x ∷ []) (x, [], refl, len ∙ sym (size_text x (text_plain x may) (text_low x may)), sym (cond-false (x == 92) [] (x ∷ []) (text_plain x may))) e f
    by (escaped x) may e f = let len : length (92 ∷ x ∷ []) ≡ 2 = omega arith in moved (92 ∷ x ∷ []) (x ∷ []) (92, x ∷ [], refl, len, refl) e f
    by (high spelled) may e f = moved spelled spelled (high_formed spelled may.1.0 may.1.1) e f

-- octets of which one character is made
one_single : (utf8 : Bool) → Single never (IsOneQuoted utf8)
one_single utf8 = record {
  one = λ a b x y v w is other e no_x no_y. by a b x y v w (one_formed utf8 a v is) (one_formed utf8 b w other) e;
}
  where
    by : (a b x y v w : List ℕ) → IsFormed a v → IsFormed b w → a ++ x ≡ b ++ y → (a ≡ b) × (v ≡ w)
    by a b x y v w is other e =
        let heads : is.0 ∷ (is.1 ++ x) ≡ other.0 ∷ (other.1 ++ y) = ap (λ z. z ++ x) (sym is.2) ∙ (e ∙ ap (λ z. z ++ y) other.2) in
        let first : is.0 ≡ other.0 = cc heads in
        let sized : length a ≡ length b = is.3 ∙ (ap size_from first ∙ sym other.3) in
        let tails : x ≡ y = fronts_same a b x y sized e in
        let same : a ≡ b = append_cancel_right a b y (ap (λ z. a ++ z) (sym tails) ∙ e) in
        (same, is.4 ∙ (ap said_by same ∙ sym other.4))

rest_single : (utf8 : Bool) (items others : List QuotedChar) (a b x y v w : List ℕ) → AreRest utf8 a v items → AreRest utf8 b w others → a ++ x ≡ b ++ y → (a ≡ b) × (v ≡ w)
rest_single utf8 [] [] a b x y v w is other e = (is.0 ∙ sym other.0, is.1 ∙ sym other.1)
rest_single utf8 [] (item ∷ others) a b x y v w is other e =
    absurd (quote_never utf8 (quoted_spelling item) (other.0 ++ y) (quoted_octets item) x (record { item = item; is = other.2; spelled = refl; value_is = refl })
    (sym (append_assoc (quoted_spelling item) other.0 y) ∙ (ap (λ z. z ++ y) (sym other.3) ∙ (sym e ∙ ap (λ z. z ++ x) is.0))))
rest_single utf8 (item ∷ items) [] a b x y v w is other e =
    absurd (quote_never utf8 (quoted_spelling item) (is.0 ++ x) (quoted_octets item) y (record { item = item; is = is.2; spelled = refl; value_is = refl })
    (sym (append_assoc (quoted_spelling item) is.0 x) ∙ (ap (λ z. z ++ x) (sym is.3) ∙ (e ∙ ap (λ z. z ++ y) other.0))))
rest_single utf8 (item ∷ items) (another ∷ others) a b x y v w is other e =
    let apart : quoted_spelling item ++ (is.0 ++ x) ≡ quoted_spelling another ++ (other.0 ++ y)
    = sym (ap (λ z. z ++ x) is.3 ∙ append_assoc (quoted_spelling item) is.0 x) ∙ (e ∙ (ap (λ z. z ++ y) other.3 ∙ append_assoc (quoted_spelling another) other.0 y)) in
    let same = (one_single utf8).one (quoted_spelling item) (quoted_spelling another) (is.0 ++ x) (other.0 ++ y) (quoted_octets item) (quoted_octets another) (record { item = item; is = is.2; spelled = refl; value_is = refl })
    (record { item = another; is = other.2; spelled = refl; value_is = refl }) apart (nothing_goes (quoted_octets item) _) (nothing_goes (quoted_octets another) _) in
    let rest : is.0 ++ x ≡ other.0 ++ y = append_cancel_left (quoted_spelling another) _ _ (ap (λ z. z ++ (is.0 ++ x)) (sym same.0) ∙ apart) in
    let tail = rest_single utf8 items others is.0 other.0 x y is.1 other.1 is.5 other.5 rest in
    (is.3 ∙ (joined same.0 tail.0 ∙ sym other.3), is.4 ∙ (joined same.1 tail.1 ∙ sym other.4))
  where
    joined : {a b c d : List ℕ} → a ≡ c → b ≡ d → a ++ b ≡ c ++ d
    joined p q = rw (p, q) refl

quoted_single : (utf8 : Bool) → Single never (IsQuoted utf8)
quoted_single utf8 = let parts : Single never (After IsDoubleQuote (IsRestQuoted utf8 [])) = read_single (octet_single 34) (λ _. rest) in within_single parts (to_rest utf8)
  where
    rest : Single never (IsRestQuoted utf8 [])
    rest = record { one = λ a b x y v w is other e no_x no_y. let same = rest_single utf8 is.1 other.1 a b x y is.0 other.0 is.3 other.3 e in (same.0, is.2 ∙ (same.1 ∙ sym other.2)) }

-- ---- strings

quoted_opens : (utf8 : Bool) (p : ℕ → Bool) → p 34 ≡ true → Opens p (IsQuoted utf8)
quoted_opens utf8 p may a b v is = subst (λ z. BeginsIn p (z ++ b)) (sym is.spelled) may

string_single : (utf8 : Bool) → Single never (IsString utf8)
string_single utf8 = either_single (at_octet 34) (quoted_single utf8) literal_single (quoted_opens utf8 (at_octet 34) refl) (then_avoids (at_octet 34) IsHeader _ (then_avoids (at_octet 34) (IsOctet 123) _ (octet_avoids (at_octet 34) 123 refl)))

string_avoids : (utf8 : Bool) (p : ℕ → Bool) → p 123 ≡ false → p 34 ≡ false → Avoids p (IsString utf8)
string_avoids utf8 p brace quote = or_avoids p (IsQuoted utf8) IsLiteral (λ a b v is begin. both_ways (p 34) quote (subst (λ z. BeginsIn p (z ++ b)) is.spelled begin)) (then_avoids p IsHeader _ (then_avoids p (IsOctet 123) _ (octet_avoids p 123 brace)))

pub astring_single : (utf8 : Bool) → Single (always is_astring_char) (IsAstring utf8)
astring_single utf8 = either_single is_astring_char (run_single is_astring_char) (any_single (string_single utf8)) (run_opens is_astring_char) (string_avoids utf8 is_astring_char astring_starts.0 astring_starts.1)

pub pattern_single : (utf8 : Bool) → Single (always is_list_char) (IsListMailbox utf8)
pattern_single utf8 = either_single is_list_char (run_single is_list_char) (any_single (string_single utf8)) (run_opens is_list_char) (string_avoids utf8 is_list_char list_starts.0 list_starts.1)

pub header_name_single : (utf8 : Bool) → Single (always is_astring_char) (IsHeaderName utf8)
header_name_single utf8 = within_single (astring_single utf8) (λ octets v is. is.is_astring)

-- ---- sets

star_no_digit : is_digit 42 ≡ false
unfolding is_digit
star_no_digit = refl

colon_no_digit : is_digit 58 ≡ false
unfolding is_digit
colon_no_digit = refl

colon_goes : after_range 58 ≡ true
unfolding is_digit
colon_goes = refl

digit_after : (b : List ℕ) → BeginsIn is_digit b → BeginsIn after_range b
digit_after [] h = h
digit_after (x ∷ b) h = or_left (is_digit x) _ h

seq_number_single : Single (always is_digit) IsSeqNumber
seq_number_single =
    either_single is_digit (mapped_single Some non_zero_single (λ u b h. h)) (read_single (octet_single 42) (λ _. is_single None)) (then_opens is_digit IsNonZero _ non_zero_opens) (then_avoids is_digit (IsOctet 42) _ (octet_avoids is_digit 42 star_no_digit))

abbrev pair_of : Option ℕ → Option ℕ → Option ℕ × Option ℕ
pair_of first last = (first, last)

abbrev Last : Option ℕ → List ℕ → Option ℕ × Option ℕ → Type 0
Last first = After (IsOctet 58) (Then IsSeqNumber (λ last. Is (pair_of first last)))

last_single : (first : Option ℕ) → Single (always after_range) (Last first)
last_single first = read_single (octet_single 58) (λ _. mapped_single (pair_of first) seq_number_single (λ u. digit_after))

last_hands : (first : Option ℕ) → Hands is_digit (always after_range) (Or (Is (pair_of first first)) (Last first))
last_hands first = nothing_hands is_digit (always after_range) (pair_of first first) (Last first) digit_after (then_avoids is_digit (IsOctet 58) _ (octet_avoids is_digit 58 colon_no_digit))

range_single : Single (always after_range) IsSeqRange
range_single = then_single seq_number_single last_hands (λ first. nothing_single (pair_of first first) (last_single first) (then_opens after_range (IsOctet 58) _ (octet_opens after_range 58 colon_goes)))

pub set_single : Single never IsSetAndSpace
set_single = list_single (at_octet 44) (octet_single 44) range_single space_single (octet_opens (at_octet 44) 44 refl) (octet_avoids (at_octet 44) 32 refl) (λ v. comma_avoids) (λ v. space_avoids)

-- ---- dates

digit_single : Single never IsDigit
digit_single = record { one = λ a b x y v w is other e no_x no_y. let same : v ≡ w = cc (ap (λ z. z ++ x) (sym is.is) ∙ (e ∙ ap (λ z. z ++ y) other.is)) in (is.is ∙ (ap (λ z. z ∷ []) same ∙ sym other.is), same) }

two_single : Single never IsTwoDigits
two_single = read_single digit_single (λ _. digit_single)

four_single : Single never IsFourDigits
four_single = read_single two_single (λ _. two_single)

space_no_digit : is_digit 32 ≡ false
unfolding is_digit
space_no_digit = refl

digit_avoids : Avoids (at_octet 32) IsDigit
digit_avoids = never_avoid 32 IsDigit (λ a b v more is e. let same : v ≡ 32 = cc (sym (ap (λ z. z ++ b) is.is) ∙ e) in both_ways (is_digit 32) space_no_digit (subst (λ z. is_digit z ≡ true) same is.digit))

day_single : Single never IsDateDayFixed
day_single = either_single (at_octet 32) (read_single space_single (λ _. digit_single)) two_single (then_opens (at_octet 32) IsSpace _ (octet_opens (at_octet 32) 32 refl)) (then_avoids (at_octet 32) IsDigit _ digit_avoids)

time_single : Single never IsTime
time_single = read_single two_single (λ _. read_single (octet_single 58) (λ _. read_single two_single (λ _. read_single (octet_single 58) (λ _. two_single))))

zone_single : Single never IsZone
zone_single = read_single (either_single (at_octet 43) (octet_single 43) (octet_single 45) (octet_opens (at_octet 43) 43 refl) (octet_avoids (at_octet 43) 45 refl)) (λ _. four_single)

date_text_single : Single never IsDateTimeText
date_text_single =
    read_single day_single (λ _. read_single (octet_single 45) (λ _. read_single (word_single months never (is_table _ _ refl refl) (tells_longer never months refl)) (λ _. read_single (octet_single 45) (λ _. read_single four_single (λ _.
    read_single space_single (λ _. read_single time_single (λ _. read_single space_single (λ _. zone_single))))))))

pub date_single : Single never IsDateTime
date_single = read_single (octet_single 34) (λ _. read_single written (λ date. read_single (octet_single 34) (λ _. is_single date)))
  where
    written : Single never (SaysItself IsDateTimeText)
    written = itself_single date_text_single (λ u octets b h. h)

-- ---- flags

close_ends : is_atom_char 41 ≡ false
unfolding is_atom_char
close_ends = refl

pub atom_single : Single (always is_atom_char) IsImapAtom
atom_single = run_single is_atom_char

flag_single : Single (always is_atom_char) IsFlag
flag_single =
    either_single is_atom_char atom_single (itself_single (read_single (octet_single 92) (λ _. atom_single)) (λ u octets b h. h)) (run_opens is_atom_char)
    (λ a b v is begin. then_avoids is_atom_char (IsOctet 92) _ (octet_avoids is_atom_char 92 backslash_ends) a b is.says is.is_word begin)

-- an octet that begins no flag
flag_avoids : (c : ℕ) → is_atom_char c ≡ false → at_octet c 92 ≡ false → Avoids (at_octet c) IsFlag
flag_avoids c none other = or_avoids (at_octet c) IsImapAtom _ (never_avoid c IsImapAtom at) (λ a b v is begin. then_avoids (at_octet c) (IsOctet 92) _ (octet_avoids (at_octet c) 92 other) a b is.says is.is_word begin)
  where
    at : NeverAt IsImapAtom c
    at a b v more is e = both_ways (is_atom_char c) none (subst (λ z. BeginsIn is_atom_char z) e (run_opens is_atom_char a b v is))

pub flag_list_single : Single never IsFlagList
flag_list_single =
    read_single (octet_single 40) (λ _. either_single (at_octet 41) (read_single (octet_single 41) (λ _. is_single []))
    (list_single (at_octet 32) space_single flag_single (octet_single 41) (octet_opens (at_octet 32) 32 refl) (octet_avoids (at_octet 32) 41 refl) (λ v. octet_avoids is_atom_char 32 space_ends) (λ v. octet_avoids is_atom_char 41 close_ends))
    (then_opens (at_octet 41) (IsOctet 41) _ (octet_opens (at_octet 41) 41 refl)) (then_avoids (at_octet 41) IsFlag _ (flag_avoids 41 close_ends refl)))

pub flags_single : Single never IsFlagsToEnd
flags_single =
    either_single (at_octet 40) (read_single flag_list_single (λ flags. read_single crlf_single (λ _. is_single flags)))
    (list_single (at_octet 32) space_single flag_single crlf_single (octet_opens (at_octet 32) 32 refl) (then_avoids (at_octet 32) (IsOctet 13) _ (octet_avoids (at_octet 32) 13 refl)) (λ v. octet_avoids is_atom_char 32 space_ends) (λ v. crlf_avoids Atom))
    (then_opens (at_octet 40) IsFlagList _ (then_opens (at_octet 40) (IsOctet 40) _ (octet_opens (at_octet 40) 40 refl))) (then_avoids (at_octet 40) IsFlag _ (flag_avoids 40 open_ends refl))
