-- Of each text it is decided whether it is read as an address, and as which one.
use Rattle.std.proofs.Common.{◌≡◌, ℕ, suc, zero, ◌<◌, ◌≤◌, true, ◌⊎◌, inl, inr, List, [], ◌∷◌, ◌++◌, length, drop, ◌-◌, refl, sym, ap, ◌∙◌, subst, arith}
use Rattle.std.proofs.lemmas.Bool.{and_parts, both_ways, cases_Bool, cases_eq, cases_lt, true≢false}
use Rattle.std.proofs.lemmas.List.{append_assoc, length-append, drop_at}
use Rattle.std.proofs.lemmas.Str.{IsUtf8-from_is_utf8, is_utf8-from_IsUtf8, IsUtf8-past_char, encodes-chars, scalars-chars}
use Rattle.std.specs.Char.{IsScalar, encode_utf8}
use Rattle.std.specs.List.{list_all}
use Rattle.std.specs.Str.{IsUtf8, is_utf8, chars, encode_utf8_all, all_scalars}
use lib.Utf8.{scalar}
use Rattle.mail_wire.specs.Spans.{IsSpan}
use Rattle.encoded_words.proofs.WritableUnits.{following_ascii}
use Rattle.utf8_fields.proofs.AllSpans.{span_of}
use Rattle.encapsulated_fields.specs.Xtext.{is_hex_digit, hex_value, AreDigits, XtextItem, Plain, Escape, IsXtextItem, item_spelling, ReadsAs, BeginsCharacter, BeginsEscape}
use Rattle.encapsulated_fields.proofs.XtextLemmas.{ReadsTo, ReadsTo-none, ReadsTo-push, ReadsAs-read, not-ReadsAs, ReadsAs-utf8, BeginsWith-plain, BeginsWith-escape, BeginsWith-shortens, BeginsEscape-made, not-BeginsEscape-brace, not-BeginsEscape-digits, not-BeginsWith-escape, digit_small}

-- the digits of an escape, or others
decide_digits : (ds : List ℕ) → list_all is_hex_digit ds ≡ true → AreDigits ds ⊎ ¬ AreDigits ds
decide_digits ds hex = elim (cases_lt (length ds) 2) [
  | inl few ↦ inr (λ are. omega (arith, few, are.least))
  | inr least ↦ elim (cases_lt 6 (length ds)) [
    | inl many ↦ inr (λ are. omega (arith, many, are.most))
    | inr most ↦ elim (cases_Bool (scalar (hex_value ds))) [
      | inl is ↦ inl (record { least = least; most = most; hex = hex; scalar = is })
      | inr fails ↦ inr (λ are. both_ways (scalar (hex_value ds)) fails are.scalar)
    ]
  ]
]

-- what follows a backslash goes on as an escape, or doesn't
abbrev Escaped : List ℕ → Type 0
Escaped text = ((character : ℕ) × (rest : List ℕ) × BeginsEscape text character rest) ⊎ ((character : ℕ) (rest : List ℕ) → ¬ BeginsEscape text character rest)

after_digits : (text after digits closing : List ℕ) → text ≡ 120 ∷ 123 ∷ after → IsSpan is_hex_digit after digits closing → Escaped text
after_digits text after digits [] e span = inr (not-BeginsEscape-brace text after digits [] e span (λ rest f. cc f))
after_digits text after digits (x ∷ closing) e span = elim (cases_eq x 125) [
  | inr other ↦ inr (not-BeginsEscape-brace text after digits (x ∷ closing) e span (λ rest f. other (cc f)))
  | inl brace ↦ elim (decide_digits digits span.passes) [
    | inr none ↦ inr (not-BeginsEscape-digits text after digits (x ∷ closing) e span none)
    | inl are ↦ inl (hex_value digits, closing, BeginsEscape-made text after digits (x ∷ closing) closing (hex_value digits) e span (ap (λ y. y ∷ closing) brace) (are, refl))
  ]
]

decide_escape : (text : List ℕ) → Escaped text
decide_escape [] = inr (λ character rest is. cc is.spelled)
decide_escape (x ∷ []) = inr (λ character rest is. cc is.spelled)
decide_escape (x ∷ y ∷ after) = elim (cases_eq x 120) [
  | inr other ↦ inr (λ character rest is. other (cc is.spelled))
  | inl is_x ↦ elim (cases_eq y 123) [
    | inr other ↦ inr (λ character rest is. other (cc is.spelled))
    | inl is_brace ↦
        let span = span_of is_hex_digit after in
        let e : x ∷ y ∷ after ≡ 120 ∷ 123 ∷ after = cc (is_x, is_brace) in
        after_digits (x ∷ y ∷ after) after span.0 span.1 e span.2
  ]
]

-- the first character of a text of UTF-8
first_char : (text : List ℕ) → 0 < length text → IsUtf8 text → (c : ℕ) × (after : List ℕ) × IsScalar c × (text ≡ encode_utf8 c ++ after)
first_char text some u = by (chars text) (scalars-chars text u) (encodes-chars text u)
  where
    by : (cs : List ℕ) → all_scalars cs ≡ true → encode_utf8_all cs ≡ text → (c : ℕ) × (after : List ℕ) × IsScalar c × (text ≡ encode_utf8 c ++ after)
    by [] ok e = absurd (omega (arith, some, ap length e))
    by (c ∷ cs) ok e = (c, encode_utf8_all cs, (and_parts (scalar c) (all_scalars cs) ok).0, sym e)

-- a text of UTF-8 begins with an item, and what follows it is UTF-8, or it begins with none
abbrev Begun : List ℕ → Type 0
Begun text = ((character : ℕ) × (rest : List ℕ) × BeginsCharacter text character rest) ⊎ ((character : ℕ) (rest : List ℕ) → ¬ BeginsCharacter text character rest)

begin_escaped : (text after : List ℕ) (c : ℕ) → text ≡ encode_utf8 c ++ after → c ≡ 92 → Begun text
begin_escaped text after c e is = elim (decide_escape after) [
  | inr none ↦ inr (not-BeginsWith-escape text after after c e is refl none)
  | inl found ↦ inl (found.0, found.1, BeginsWith-escape text after after found.1 found.1 c found.0 e is refl found.2 (tail_at after found.1 found.0 found.2))
]
  where
    tail_at : (after rest : List ℕ) (character : ℕ) → (is : BeginsEscape after character rest) → rest ≡ drop (length after - length rest) after
    tail_at after rest character is =
        let front : List ℕ = 120 ∷ 123 ∷ (is.digits ++ 125 ∷ []) in
        let whole : after ≡ front ++ rest = is.spelled ∙ ap (λ t. 120 ∷ 123 ∷ t) (sym (append_assoc is.digits (125 ∷ []) rest)) in
        let size = length-append front rest in
        let place : length after - length rest ≡ length front = omega (arith, ap length whole, size) in
        sym (rw (place) (ap (drop (length front)) whole ∙ drop_at front rest (length front) refl))

decide_begins : (text : List ℕ) → 0 < length text → IsUtf8 text → Begun text
decide_begins text some u =
    let first = first_char text some u in
    elim (cases_eq first.0 92) [
      | inl is ↦ begin_escaped text first.1 first.0 first.3 is
      | inr other ↦ inl (first.0, first.1, BeginsWith-plain text first.1 first.0 (first.2, first.3) other)
    ]

-- what is after an item
utf8_after : (text rest : List ℕ) (character : ℕ) → IsUtf8 text → BeginsCharacter text character rest → IsUtf8 rest
utf8_after text rest character u begins = by begins.item begins.is_item begins.spelled
  where
    low : (ds : List ℕ) → list_all is_hex_digit ds ≡ true → IsUtf8 (ds ++ 125 ∷ rest) → IsUtf8 rest
    low [] hex v = following_ascii 125 rest (omega arith) v
    low (d ∷ ds) hex v =
        let parts = and_parts (is_hex_digit d) (list_all is_hex_digit ds) hex in
        low ds parts.1 (following_ascii d (ds ++ 125 ∷ rest) (digit_small d parts.0) v)

    by : (item : XtextItem) → IsXtextItem item → text ≡ item_spelling item ++ rest → IsUtf8 rest
    by (Plain c) is e = IsUtf8-past_char text rest c u e
    by (Escape ds) is e =
        let v : IsUtf8 (92 ∷ 120 ∷ 123 ∷ ((ds ++ 125 ∷ []) ++ rest)) = subst IsUtf8 e u in
        let w = following_ascii 123 ((ds ++ 125 ∷ []) ++ rest) (omega arith) (following_ascii 120 (123 ∷ ((ds ++ 125 ∷ []) ++ rest)) (omega arith) (following_ascii 92 (120 ∷ 123 ∷ ((ds ++ 125 ∷ []) ++ rest)) (omega arith) v)) in
        low ds is.hex (subst IsUtf8 (append_assoc ds (125 ∷ []) rest) w)

-- the text is read as some address, or as none
abbrev Read : List ℕ → Type 0
Read text = ((address : List ℕ) × ReadsAs text address) ⊎ ((address : List ℕ) → ¬ ReadsAs text address)

read_by : (fuel : ℕ) (text address rest : List ℕ) → ReadsTo text address rest → IsUtf8 rest → length rest ≤ fuel → Read text
read_by fuel text address [] reads u enough = inl (address, ReadsAs-read text address [] reads refl)
read_by zero text address (b ∷ rest) reads u enough = absurd (omega arith)
read_by (suc fuel) text address (b ∷ rest) reads u enough = elim (decide_begins (b ∷ rest) (omega arith) u) [
  | inr none ↦ inr (not-ReadsAs text address (b ∷ rest) reads (omega arith) none)
  | inl found ↦
      let less = BeginsWith-shortens (b ∷ rest) found.1 found.0 found.2 in
      read_by fuel text (address ++ encode_utf8 found.0) found.1 (ReadsTo-push text address (b ∷ rest) found.1 (address ++ encode_utf8 found.0) found.0 reads found.2 refl)
      (utf8_after (b ∷ rest) found.1 found.0 u found.2) (omega (arith, less, enough))
]

pub decide_reads : (text : List ℕ) → Read text
decide_reads text = elim (cases_Bool (is_utf8 text)) [
  | inl sound ↦ read_by (length text) text [] text (ReadsTo-none text) (IsUtf8-from_is_utf8 text sound) (omega arith)
  | inr fails ↦ inr (λ address is. true≢false (sym (is_utf8-from_IsUtf8 text (ReadsAs-utf8 text address is).0) ∙ fails))
]
