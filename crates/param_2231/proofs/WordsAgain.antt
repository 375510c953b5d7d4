-- The octets of pieces are octets of atoms.
use Rattle.std.proofs.Common.{◌≡◌, ℕ, ◌+◌, ◌*◌, ◌/◌, ◌%◌, ◌<◌, ◌==◌, nat_lt, Bool, true, false, not, ◌&&◌, ◌||◌, if◌then◌else◌, inl, inr, List, [], ◌∷◌, length, map, codes, All, refl, sym, ap, ◌∙◌, subst, arith}
use Rattle.std.proofs.lemmas.Bool.{cases_Bool, true≢false, and_parts, and_from, cond-true, cond-false}
use Rattle.std.proofs.lemmas.Bool.Decides.{nat_tests, Decides-eqb}
use Rattle.std.proofs.lemmas.List.{length-append}
use Rattle.std.proofs.lemmas.List.Elements.{All-nil, All-cons}
use Rattle.std.proofs.lemmas.Str.{IsUtf8-from_ascii, is_utf8-from_IsUtf8}
use Rattle.std.proofs.lemmas.Str.Ascii.{IsAscii-from_all, lowercase-lowercase}
use Rattle.std.specs.List.{AllByRecursion, flat_map, list_all, list_any}
use Rattle.std.specs.Char.{digit_value, to_ascii_lowercase}
use Rattle.std.specs.Fmt.{digit_glyph}
use Rattle.std.specs.Str.{IsAscii, bytes_eq, is_utf8, str_to_ascii_lowercase}
use Rattle.percent_encoding.specs.Percent.{percent_encode_byte}
use Rattle.mail_wire.specs.Octets.{is_ascii}
use Rattle.encoded_words.specs.Words.{UnitValue, Text, Opaque, is_token_octet}
use Rattle.encoded_words.specs.private.Parts.{lacks}
use Rattle.field_tokens.specs.declared.Style.TheVariants.{Mime}
use Rattle.field_tokens.specs.TokenOctets.{is_atom_octet, is_line_octet}
use Rattle.param_grammar.specs.Escapes.{EscapedItem, Plain, Escape, item_octet, IsEscapedItem, IsEscaped, item_spelling, is_letter_or_digit, is_attribute_octet, escaped_octet, escaped}
use Rattle.param_grammar.specs.Extended.{is_nothing, is_text_of, unit_of}
use Rattle.mail_wire.specs.Numbers.{is_digit}
use Rattle.mail_wire.proofs.AllLemmas.{pass-append, pass-weaker}
use Rattle.param_grammar.specs.Bodies.{unquoted}
use Rattle.param_2231.specs.Layout.{charset_of, octets_in}
use Rattle.param_2231.proofs.CoresAgain.{is_octet}

-- an ASCII octet of an atom
abbrev pub is_word_octet : ℕ → Bool
is_word_octet x = is_atom_octet Mime x && is_ascii x

pub word_octet-atom : (x : ℕ) → is_word_octet x ≡ true → is_atom_octet Mime x ≡ true
word_octet-atom x h = (and_parts (is_atom_octet Mime x) (is_ascii x) h).0

pub word_octet-ascii : (x : ℕ) → is_word_octet x ≡ true → is_ascii x ≡ true
word_octet-ascii x h = (and_parts (is_atom_octet Mime x) (is_ascii x) h).1

pub atom_octet-line : (x : ℕ) → is_atom_octet Mime x ≡ true → is_line_octet x ≡ true
atom_octet-line x h = grind (arith, nat_tests)

pub ascii-octet : (x : ℕ) → is_ascii x ≡ true → is_octet x ≡ true
ascii-octet x h = grind (arith, nat_tests)

-- ---- escaped octets

letter_word : (x : ℕ) → is_letter_or_digit x ≡ true → is_word_octet x ≡ true
letter_word x h = grind (arith, nat_tests)

among : (x : ℕ) (p : ℕ → Bool) (xs : List ℕ) → list_any (λ s. x == s) xs ≡ true → list_all p xs ≡ true → p x ≡ true
among x p [] h all = absurd (true≢false (sym h))
among x p (y ∷ ys) h all =
    let parts = and_parts (p y) (list_all p ys) all in
    elim (cases_Bool (x == y)) [
      | inl t ↦ ap p ((Decides-eqb x y).0 t) ∙ parts.0
      | inr f ↦ among x p ys (rw (f) at h) parts.1
    ]

attribute_word : (x : ℕ) → is_attribute_octet x ≡ true → is_word_octet x ≡ true
attribute_word x h = elim (cases_Bool (is_letter_or_digit x)) [
  | inl t ↦ letter_word x t
  | inr f ↦ among x is_word_octet (codes "!#$&+-.^_`{|}~") (rw (f) at h) refl
]

glyph_word : (d : ℕ) → d < 16 → is_word_octet (digit_glyph true d) ≡ true
glyph_word d h = grind (arith, nat_tests)

below : (p : ℕ) → p % 16 < 16
below p = omega arith

escaped_octet-words : (x : ℕ) → list_all is_word_octet (escaped_octet x) ≡ true
unfolding percent_encode_byte
escaped_octet-words x = elim (cases_Bool (is_attribute_octet x)) [
  | inl t ↦ ap (list_all is_word_octet) (cond-true _ _ _ t) ∙ and_from (is_word_octet x) true (attribute_word x t) refl
  | inr f ↦
      let high = digit_glyph true (x / 16 % 16) in
      let low = digit_glyph true (x % 16) in
      ap (list_all is_word_octet) (cond-false _ _ _ f)
      ∙ and_from (is_word_octet high) (list_all is_word_octet (low ∷ [])) (glyph_word (x / 16 % 16) (below (x / 16))) (and_from (is_word_octet low) true (glyph_word (x % 16) (below x)) refl)
]

pub escaped-words : (xs : List ℕ) → list_all is_word_octet (escaped xs) ≡ true
escaped-words [] = refl
escaped-words (x ∷ xs) = pass-append is_word_octet (escaped_octet x) (escaped xs) (escaped_octet-words x) (escaped-words xs)

some_escaped : (x : ℕ) → 0 < length (escaped_octet x)
unfolding percent_encode_byte
some_escaped x = by (is_attribute_octet x)
  where
    by : (b : Bool) → 0 < length (if b then x ∷ [] else percent_encode_byte x)
    by true = omega arith
    by false = omega arith

pub escaped-some : (xs : List ℕ) → 0 < length xs → 0 < length (escaped xs)
escaped-some [] some = absurd (omega (arith, some))
escaped-some (x ∷ xs) some = omega (arith, some_escaped x, length-append (escaped_octet x) (escaped xs))

-- ---- names

name_octet-word : (x : ℕ) → is_token_octet x ≡ true → is_word_octet x ≡ true
name_octet-word x h = grind (arith, nat_tests)

pub names-words : (xs : List ℕ) → list_all is_token_octet xs ≡ true → list_all is_word_octet xs ≡ true
names-words xs h = pass-weaker is_token_octet is_word_octet name_octet-word xs h

digit-word : (x : ℕ) → is_digit x ≡ true → is_word_octet x ≡ true
digit-word x h = grind (arith, nat_tests)

pub digits-words : (xs : List ℕ) → list_all is_digit xs ≡ true → list_all is_word_octet xs ≡ true
digits-words xs h = pass-weaker is_digit is_word_octet digit-word xs h

-- lower case
pub lower-all : (p : ℕ → Bool) → ((x : ℕ) → p x ≡ true → p (to_ascii_lowercase x) ≡ true) → (xs : List ℕ) → list_all p xs ≡ true → list_all p (str_to_ascii_lowercase xs) ≡ true
lower-all p lower [] h = refl
lower-all p lower (x ∷ xs) h =
    let parts = and_parts (p x) (list_all p xs) h in
    and_from (p (to_ascii_lowercase x)) (list_all p (str_to_ascii_lowercase xs)) (lower x parts.0) (lower-all p lower xs parts.1)

pub lower-word : (x : ℕ) → is_word_octet x ≡ true → is_word_octet (to_ascii_lowercase x) ≡ true
lower-word x h = grind (arith, nat_tests)

pub lower-name : (x : ℕ) → is_token_octet x ≡ true → is_token_octet (to_ascii_lowercase x) ≡ true
lower-name x h = grind (arith, nat_tests)

pub lower-ascii : (x : ℕ) → is_ascii x ≡ true → is_ascii (to_ascii_lowercase x) ≡ true
lower-ascii x h = grind (arith, nat_tests)

lower-not : (b x : ℕ) → (b < 65) → not (x == b) ≡ true → not (to_ascii_lowercase x == b) ≡ true
lower-not b x small h = grind (arith, nat_tests)

pub lower-lacks : (b : ℕ) → b < 65 → (xs : List ℕ) → lacks b xs ≡ true → lacks b (str_to_ascii_lowercase xs) ≡ true
lower-lacks b small xs h = lower-all (λ x. not (x == b)) (λ x. lower-not b x small) xs h

pub lower-twice : (xs : List ℕ) → str_to_ascii_lowercase (str_to_ascii_lowercase xs) ≡ str_to_ascii_lowercase xs
lower-twice [] = refl
lower-twice (x ∷ xs) = rw (lowercase-lowercase x, lower-twice xs) refl

-- ---- units

-- what is said of a charset and octets that are written
pub record CanBeWritten (unit : UnitValue) : Type 0 where
  pub names : list_all is_token_octet (charset_of unit) ≡ true
  pub first : lacks 39 (charset_of unit) ≡ true
  pub octets : list_all is_octet (octets_in unit) ≡ true
  pub again : unit_of (charset_of unit) (octets_in unit) ≡ unit

only_ascii : (a b c d u : Bool) → ((a && u) || ((b && u) || (c && d))) ≡ true → u ≡ false → d ≡ true
only_ascii true b c d true h e = absurd (true≢false e)
only_ascii false b c d true h e = absurd (true≢false e)
only_ascii true true true d false h e = h
only_ascii true true false d false h e = absurd (true≢false (sym h))
only_ascii true false true d false h e = h
only_ascii true false false d false h e = absurd (true≢false (sym h))
only_ascii false true true d false h e = h
only_ascii false true false d false h e = absurd (true≢false (sym h))
only_ascii false false true d false h e = h
only_ascii false false false d false h e = absurd (true≢false (sym h))

small_all : (xs : List ℕ) → list_all (λ b. nat_lt b 128) xs ≡ true → All (λ b. b < 128) xs
small_all [] h = All-nil (λ b. b < 128)
small_all (x ∷ xs) h =
    let parts = and_parts (nat_lt x 128) (list_all (λ b. nat_lt b 128) xs) h in
    All-cons (λ b. b < 128) x xs (let t = parts.0 in grind (arith, nat_tests)) (small_all xs parts.1)

small_ascii : (xs : List ℕ) → list_all (λ b. nat_lt b 128) xs ≡ true → IsAscii xs
small_ascii xs h = IsAscii-from_all xs (small_all xs h)

text_is_utf8 : (charset octets : List ℕ) → is_text_of charset octets ≡ true → is_utf8 octets ≡ true
text_is_utf8 charset octets h = elim (cases_Bool (is_utf8 octets)) [
  | inl t ↦ t
  | inr f ↦
      let small = only_ascii (is_nothing charset) (bytes_eq charset (codes "utf-8")) (bytes_eq charset (codes "us-ascii")) (list_all (λ b. nat_lt b 128) octets) (is_utf8 octets) h f in
      is_utf8-from_IsUtf8 octets (IsUtf8-from_ascii octets (small_ascii octets small))
]

text_again : (octets : List ℕ) → is_utf8 octets ≡ true → unit_of (codes "UTF-8") octets ≡ Text octets
unfolding unit_of
text_again octets u = cond-true _ _ _ (let t : is_text_of (codes "utf-8") octets ≡ true = rw (u) refl in t)

pub unit_writes : (charset octets : List ℕ) → list_all is_token_octet charset ≡ true → lacks 39 charset ≡ true → list_all is_octet octets ≡ true → CanBeWritten (unit_of charset octets)
unfolding unit_of
unit_writes charset octets names first bytes = elim (cases_Bool (is_text_of (str_to_ascii_lowercase charset) octets)) [
  | inl t ↦ subst CanBeWritten (sym (cond-true _ _ _ t)) (record { names = refl; first = refl; octets = bytes; again = text_again octets (text_is_utf8 (str_to_ascii_lowercase charset) octets t) })
  | inr f ↦
      let name : List ℕ = str_to_ascii_lowercase charset in
      let back : unit_of name octets ≡ Opaque name octets [] =
      ap (λ n. if is_text_of n octets then Text octets else Opaque n octets []) (lower-twice charset) ∙ cond-false _ _ _ f in
      subst CanBeWritten (sym (cond-false _ _ _ f)) (record {
        names = lower-all is_token_octet lower-name charset names;
        first = lower-lacks 39 (omega arith) charset first;
        octets = bytes;
        again = back;
      })
]

-- ---- what is read

pub unquoted-all : (p : ℕ → Bool) (xs : List ℕ) → list_all p xs ≡ true → list_all p (unquoted xs) ≡ true
unfolding unquoted
unquoted-all p [] h = refl
unquoted-all p (x ∷ []) h = h
unquoted-all p (x ∷ y ∷ rest) h =
    let parts = and_parts (p x) (list_all p (y ∷ rest)) h in
    let more = and_parts (p y) (list_all p rest) parts.1 in
    by (x == 92) (and_from (p y) (list_all p (unquoted rest)) more.0 (unquoted-all p rest more.1)) (and_from (p x) (list_all p (unquoted (y ∷ rest))) parts.0 (unquoted-all p (y ∷ rest) parts.1))
  where
    by : (b : Bool) → list_all p (y ∷ unquoted rest) ≡ true → list_all p (x ∷ unquoted (y ∷ rest)) ≡ true → list_all p (if b then y ∷ unquoted rest else x ∷ unquoted (y ∷ rest)) ≡ true
    by true s o = s
    by false s o = o

digits-octet : (h l : ℕ) → h < 16 → l < 16 → is_octet (16 * h + l) ≡ true
digits-octet h l a b = grind (arith, nat_tests)

items-octets : (items : List EscapedItem) → AllByRecursion IsEscapedItem items → list_all is_octet (flat_map item_spelling items) ≡ true → list_all is_octet (map item_octet items) ≡ true
items-octets [] are h = refl
items-octets (Plain x ∷ items) are h =
    let parts = and_parts (is_octet x) (list_all is_octet (flat_map item_spelling items)) h in
    and_from (is_octet x) (list_all is_octet (map item_octet items)) parts.0 (items-octets items are.1 parts.1)
items-octets (Escape a b ∷ items) are h =
    let one = and_parts (is_octet 37) (list_all is_octet (a ∷ b ∷ flat_map item_spelling items)) h in
    let two = and_parts (is_octet a) (list_all is_octet (b ∷ flat_map item_spelling items)) one.1 in
    let three = and_parts (is_octet b) (list_all is_octet (flat_map item_spelling items)) two.1 in
    and_from (is_octet (16 * digit_value a + digit_value b)) (list_all is_octet (map item_octet items)) (digits-octet (digit_value a) (digit_value b) are.0.0 are.0.1) (items-octets items are.1 three.1)

pub escaped-octets : (text octets : List ℕ) → IsEscaped text octets → list_all is_octet text ≡ true → list_all is_octet octets ≡ true
escaped-octets text octets is h = rw (is.octets_are) (items-octets is.items is.are_items (subst (λ t. list_all is_octet t ≡ true) is.spelled h))

pub octets-below : (xs : List ℕ) → list_all is_octet xs ≡ true → All (λ x. x < 256) xs
octets-below [] h = All-nil (λ x. x < 256)
octets-below (x ∷ xs) h =
    let parts = and_parts (is_octet x) (list_all is_octet xs) h in
    All-cons (λ x. x < 256) x xs (let t = parts.0 in grind (arith, nat_tests)) (octets-below xs parts.1)
