-- A date is ASCII.
use Rattle.std.proofs.Common.{◌≡◌, ℕ, zero, suc, ◌+◌, ◌-◌, ◌<◌, ◌≤◌, Bool, true, false, ◌&&◌, ◌||◌, ◌==◌, not, nat_lt, nat_le, List, [], ◌∷◌, length, get_or, drop, map, ◌⊎◌, inl, inr, refl, ap, ◌∙◌, subst, arith}
use Rattle.std.specs.Prelude.{slice_index_or, slice_range}
use Rattle.std.specs.Char.{to_ascii_lowercase}
use Rattle.std.specs.List.{list_all, list_any}
use Rattle.std.specs.Str.{str_to_ascii_lowercase}
use Rattle.std.proofs.lemmas.Bool.{and_parts, and_from, cases_Bool, cases_lt, ltb-true, leb-true}
use Rattle.std.proofs.lemmas.Bool.Decides.{nat_tests}
use Rattle.std.proofs.lemmas.List.{get_or-drop, get_or-take, length-take-le, length-drop}
use Rattle.std.proofs.lemmas.Slice.Eq.{bytes_eq-Decides}
use Rattle.mail_wire.specs.Octets.{is_ascii, same_name}
use Rattle.journal_records.specs.Grammar.{IsDate, date_shape, fits_letter, months}

-- ---- the letters of the shape

-- all numbers below a bound pass
abbrev all_below : ℕ → (ℕ → Bool) → Bool
all_below zero passes = true
all_below (suc n) passes = passes n && all_below n passes

below_passes : (n : ℕ) (passes : ℕ → Bool) → all_below n passes ≡ true → (at : ℕ) → at < n → passes at ≡ true
below_passes zero passes all at low = absurd (omega (arith, low))
below_passes (suc n) passes all at low =
    let parts = and_parts (passes n) (all_below n passes) all in
    elim (cases_lt at n) [
      | inl less ↦ below_passes n passes parts.1 at less
      | inr least ↦ let same : n ≡ at = omega (arith, low, least) in subst (λ k. passes k ≡ true) same parts.0
    ]

-- the letter is ASCII, and stands for any octet only within the month
abbrev is_plain : ℕ → Bool
is_plain at = nat_lt (slice_index_or date_shape at 0) 128 && (not (slice_index_or date_shape at 0 == 97) || (nat_le 3 at && nat_lt at 6))

shape_plain : all_below 26 is_plain ≡ true
shape_plain = refl

either : (a b : Bool) → (not a || b) ≡ true → (a ≡ false) ⊎ (b ≡ true)
either true b e = inr e
either false b e = inl refl

-- a letter that doesn't stand for any octet
fits_ascii : (letter x : ℕ) → letter < 128 → (letter == 97) ≡ false → fits_letter letter x ≡ true → is_ascii x ≡ true
unfolding fits_letter
fits_ascii letter x low other fits = grind (arith, nat_tests)

-- ---- the month

same_ascii : (month word : List ℕ) → list_all is_ascii month ≡ true → map to_ascii_lowercase month ≡ map to_ascii_lowercase word → list_all is_ascii word ≡ true
same_ascii month [] all same = refl
same_ascii [] (y ∷ word) all same = absurd cc
same_ascii (x ∷ month) (y ∷ word) all same =
    let parts = and_parts (is_ascii x) (list_all is_ascii month) all in
    let first : to_ascii_lowercase x ≡ to_ascii_lowercase y = cc in
    and_from (is_ascii y) (list_all is_ascii word) (one x y parts.0 first) (same_ascii month word parts.1 cc)
  where
    one : (x y : ℕ) → is_ascii x ≡ true → to_ascii_lowercase x ≡ to_ascii_lowercase y → is_ascii y ≡ true
    one x y low same = grind (arith, nat_tests)

month_ascii : (all : List (List ℕ)) (word : List ℕ) → list_all (list_all is_ascii) all ≡ true → list_any (λ month. same_name month word) all ≡ true → list_all is_ascii word ≡ true
unfolding same_name
month_ascii [] word are is = absurd cc
month_ascii (month ∷ all) word are is =
    let parts = and_parts (list_all is_ascii month) (list_all (list_all is_ascii) all) are in
    elim (cases_Bool (same_name month word)) [
      | inl same ↦ same_ascii month word parts.0 ((bytes_eq-Decides (str_to_ascii_lowercase month) (str_to_ascii_lowercase word)).0 same)
      | inr other ↦ month_ascii all word parts.1 (rw other at is)
    ]

-- ---- each octet

at_passes : (p : ℕ → Bool) (xs : List ℕ) → list_all p xs ≡ true → (at : ℕ) → at < length xs → p (get_or xs at 0) ≡ true
at_passes p [] all at low = absurd (omega (arith, low))
at_passes p (x ∷ xs) all zero low = (and_parts (p x) (list_all p xs) all).0
at_passes p (x ∷ xs) all (suc at) low = at_passes p xs (and_parts (p x) (list_all p xs) all).1 at (omega (arith, low))

all_pass : (p : ℕ → Bool) (xs : List ℕ) → ((at : ℕ) → at < length xs → p (get_or xs at 0) ≡ true) → list_all p xs ≡ true
all_pass p [] each = refl
all_pass p (x ∷ xs) each = and_from (p x) (list_all p xs) (each 0 (omega arith)) (all_pass p xs (λ at low. each (suc at) (omega (arith, low))))

pub date_ascii : (date : List ℕ) → IsDate date → list_all is_ascii date ≡ true
date_ascii date is = all_pass is_ascii date at_place
  where
    within : (at : ℕ) → 3 ≤ at → at < 6 → is_ascii (get_or date at 0) ≡ true
    within at few low =
        let word = slice_range date 3 6 in
        let len : length word ≡ 3 = omega (arith, is.len, length-take-le 3 (drop 3 date) (omega (arith, is.len, length-drop 3 date))) in
        let passes = at_passes is_ascii word (month_ascii months word refl is.month) (at - 3) (omega (arith, few, low, len)) in
        let there : 3 + (at - 3) ≡ at = omega (arith, few) in
        let same : get_or word (at - 3) 0 ≡ get_or date at 0 = get_or-take 3 (drop 3 date) (at - 3) 0 (omega (arith, few, low)) ∙ (get_or-drop 3 date (at - 3) 0 ∙ ap (λ k. get_or date k 0) there) in
        subst (λ x. is_ascii x ≡ true) same passes

    at_place : (at : ℕ) → at < length date → is_ascii (get_or date at 0) ≡ true
    at_place at inside =
        let low : at < 26 = omega (arith, inside, is.len) in
        let letter = slice_index_or date_shape at 0 in
        let parts = and_parts (nat_lt letter 128) (not (letter == 97) || (nat_le 3 at && nat_lt at 6)) (below_passes 26 is_plain shape_plain at low) in
        elim (either (letter == 97) (nat_le 3 at && nat_lt at 6) parts.1) [
          | inl other ↦ fits_ascii letter (get_or date at 0) (ltb-true letter 128 parts.0) other (is.shape at low)
          | inr month ↦
              let ends = and_parts (nat_le 3 at) (nat_lt at 6) month in
              within at (leb-true 3 at ends.0) (ltb-true at 6 ends.1)
        ]
