-- The Q text that is written spells its octets, and has octets that a word may have anywhere.
use Rattle.std.proofs.Common.{◌≡◌, ◌≢◌, ◌==◌, ℕ, ◌+◌, ◌*◌, ◌/◌, ◌%◌, ◌<◌, Bool, true, cond, List, [], ◌∷◌, ◌++◌, length, map, refl, ap, arith, inl, inr}
use Rattle.std.proofs.lemmas.Bool.{and_parts, and_from, cases_Bool, both_ways, ltb-true}
use Rattle.std.proofs.lemmas.Bool.Decides.{nat_tests}
use Rattle.std.proofs.lemmas.List.{length-append}
use Rattle.std.proofs.lemmas.List.Sums.{sum_by-cons}
use Rattle.std.specs.List.{AllByRecursion, count_by, flat_map, list_all}
use Rattle.std.specs.Char.{digit_value}
use Rattle.mail_wire.proofs.AllLemmas.{pass-append}
use Rattle.encoded_words.specs.Words.{QItem, Escape, IsQItem, q_spelling, q_octet, IsQText}
use Rattle.encoded_words.specs.WrittenWords.{is_safe_octet, hex_digit, q_item, q_text}
use Rattle.encoded_words.specs.private.Escapes.{is_escaped}
use Rattle.encoded_words.proofs.Octets.{is_byte}

hex_digit-safe : (value : ℕ) → value < 16 → is_safe_octet (hex_digit value) ≡ true
hex_digit-safe value h = grind (arith, nat_tests)

hex_digit-value : (value : ℕ) → value < 16 → digit_value (hex_digit value) ≡ value
hex_digit-value value h = grind (arith, nat_tests)

safe-plain : (b : ℕ) → is_safe_octet b ≡ true → (b ≢ 61) × (b ≢ 95)
safe-plain b h = (λ e. both_ways (is_safe_octet b) (rw e refl) h, λ e. both_ways (is_safe_octet b) (rw e refl) h)

-- the item of an octet spells it
record Spells (item : QItem) (b : ℕ) : Type 0 where
  is_item : IsQItem item
  octet : q_octet item ≡ b

escape-spells : (b : ℕ) → b < 256 → Spells (Escape (hex_digit (b / 16)) (hex_digit (b % 16))) b
escape-spells b h =
    let high : digit_value (hex_digit (b / 16)) ≡ b / 16 = hex_digit-value (b / 16) (omega arith) in
    let low : digit_value (hex_digit (b % 16)) ≡ b % 16 = hex_digit-value (b % 16) (omega arith) in
    record { is_item = (omega arith, omega arith); octet = omega arith }

item-spells : (b : ℕ) → b < 256 → Spells (q_item b) b
item-spells b h = elim (cases_Bool (b == 32)) [
  | inl space ↦ rw space (record { is_item = tt; octet = grind (arith, nat_tests) })
  | inr other ↦ elim (cases_Bool (is_safe_octet b)) [
    | inl safe ↦ rw (other, safe) (record { is_item = safe-plain b safe; octet = refl })
    | inr escaped ↦ rw (other, escaped) (escape-spells b h)
  ]
]

items_are : (octets : List ℕ) → list_all is_byte octets ≡ true → AllByRecursion IsQItem (map q_item octets)
items_are [] h = tt
items_are (b ∷ bs) h =
    let parts = and_parts (is_byte b) (list_all is_byte bs) h in
    let spells = item-spells b (ltb-true b 256 parts.0) in
    (spells.is_item, items_are bs parts.1)

items_spelled : (octets : List ℕ) → q_text octets ≡ flat_map q_spelling (map q_item octets)
items_spelled [] = refl
items_spelled (b ∷ bs) = ap (λ r. q_spelling (q_item b) ++ r) (items_spelled bs)

items_octets : (octets : List ℕ) → list_all is_byte octets ≡ true → octets ≡ map q_octet (map q_item octets)
items_octets [] h = refl
items_octets (b ∷ bs) h =
    let parts = and_parts (is_byte b) (list_all is_byte bs) h in
    let here : q_octet (q_item b) ≡ b = (item-spells b (ltb-true b 256 parts.0)).octet in
    let more = items_octets bs parts.1 in cc

pub q_text-is : (octets : List ℕ) → list_all is_byte octets ≡ true → IsQText (q_text octets) octets
q_text-is octets h = (map q_item octets, items_are octets h, items_spelled octets, items_octets octets h)

-- What holds of each octet that is safe, of `=` and of `_`, holds of each octet of a Q text.
item_passes : (p : ℕ → Bool) → ((b : ℕ) → is_safe_octet b ≡ true → p b ≡ true) → p 61 ≡ true → p 95 ≡ true → (b : ℕ) → b < 256 → list_all p (q_spelling (q_item b)) ≡ true
item_passes p safe_holds mark low_line b h = elim (cases_Bool (b == 32)) [
  | inl space ↦ rw space (and_from (p 95) true low_line refl)
  | inr other ↦ elim (cases_Bool (is_safe_octet b)) [
    | inl safe ↦ rw (other, safe) (and_from (p b) true (safe_holds b safe) refl)
    | inr escaped ↦
        let high = hex_digit (b / 16) in
        let low = hex_digit (b % 16) in
        rw (other, escaped)
        (and_from (p 61) (list_all p (high ∷ low ∷ [])) mark
        (and_from (p high) (list_all p (low ∷ [])) (safe_holds high (hex_digit-safe (b / 16) (omega arith)))
        (and_from (p low) true (safe_holds low (hex_digit-safe (b % 16) (omega arith))) refl)))
  ]
]

pub q_text-all : (p : ℕ → Bool) → ((b : ℕ) → is_safe_octet b ≡ true → p b ≡ true) → p 61 ≡ true → p 95 ≡ true → (octets : List ℕ) → list_all is_byte octets ≡ true → list_all p (q_text octets) ≡ true
q_text-all p safe_holds mark low_line [] h = refl
q_text-all p safe_holds mark low_line (b ∷ bs) h =
    let parts = and_parts (is_byte b) (list_all is_byte bs) h in
    pass-append p (q_spelling (q_item b)) (q_text bs) (item_passes p safe_holds mark low_line b (ltb-true b 256 parts.0)) (q_text-all p safe_holds mark low_line bs parts.1)

-- how long a Q text is
length-item : (b : ℕ) → length (q_spelling (q_item b)) ≡ 1 + 2 * cond (is_escaped b) 1 0
length-item b = elim (cases_Bool (b == 32)) [
  | inl space ↦ rw space refl
  | inr other ↦ elim (cases_Bool (is_safe_octet b)) [ inl safe ↦ rw (other, safe) refl | inr escaped ↦ rw (other, escaped) refl ]
]

pub length-q_text : (octets : List ℕ) → length (q_text octets) ≡ length octets + 2 * count_by is_escaped octets
length-q_text [] = refl
length-q_text (b ∷ bs) =
    let more = length-q_text bs in
    let first = length-item b in
    let counted = sum_by-cons (λ x. cond (is_escaped x) 1 0) b bs in
    omega (arith, length-append (q_spelling (q_item b)) (q_text bs), more, first, counted)

pub q_text_some : (octets : List ℕ) → 0 < length octets → 0 < length (q_text octets)
q_text_some octets h = omega (arith, h, length-q_text octets)
