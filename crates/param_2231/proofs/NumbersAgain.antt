-- Numbers of pieces are read back.
use Rattle.std.proofs.Common.{◌≡◌, ℕ, zero, suc, ◌+◌, ◌*◌, ◌<◌, ◌^◌, ◌==◌, true, false, List, [], ◌∷◌, length, map, get_or, refl, sym, ap, ◌∙◌, arith}
use Rattle.std.proofs.lemmas.Bool.{and_from}
use Rattle.std.proofs.lemmas.Bool.Decides.{nat_tests}
use Rattle.std.proofs.lemmas.Fmt.{decimal_digit, decimal-digits_of}
use Rattle.std.proofs.lemmas.Int.Digits.{number_digits_of, all_below_base_digits_of, first_digits_of}
use Rattle.std.specs.List.{list_all}
use Rattle.std.specs.Char.{digit_value}
use Rattle.std.specs.Fmt.{decimal}
use Rattle.std.specs.Int.Digits.{digits_of, number_from_digits_after, AllBelowBase}
use Rattle.mail_wire.specs.Numbers.{is_digit}
use Rattle.param_grammar.specs.Names.{leads_with_zero, IsNumber}
use Rattle.param_grammar.specs.Joining.{decimal_onward, decimal_value}
use Rattle.param_2231.specs.Layout.{number_digits}

digit_back : (d : ℕ) → d < 10 → digit_value (48 + d) ≡ d
digit_back d h = grind (arith, nat_tests)

digits_onward : (n : ℕ) (ds : List ℕ) → AllBelowBase 10 ds → decimal_onward n (map (λ d. 48 + d) ds) ≡ number_from_digits_after 10 n ds
digits_onward n [] below = refl
digits_onward n (d ∷ ds) below =
    let same : 10 * n + digit_value (48 + d) ≡ n * 10 + d = omega (arith, digit_back d below.0) in
    ap (λ m. decimal_onward m (map (λ e. 48 + e) ds)) same ∙ digits_onward (n * 10 + d) ds below.1

pub number_back : (n : ℕ) → decimal_value (number_digits n) ≡ n
number_back zero = refl
number_back (suc n) =
    digits_onward 0 (digits_of 10 (suc n)) (all_below_base_digits_of 10 (suc n) (omega arith)) ∙ number_digits_of 10 (suc n) (omega arith)

digits_all : (ds : List ℕ) → AllBelowBase 10 ds → list_all is_digit (map (λ d. 48 + d) ds) ≡ true
digits_all [] below = refl
digits_all (d ∷ ds) below =
    and_from (is_digit (48 + d)) (list_all is_digit (map (λ e. 48 + e) ds)) (let h = below.0 in grind (arith, nat_tests)) (digits_all ds below.1)

glyph_some : (d : ℕ) → 0 < d → (48 + d == 48) ≡ false
glyph_some d h = grind (arith, nat_tests)

first_some : (ds : List ℕ) → 0 < get_or ds 0 0 → (0 < length (map (λ d. 48 + d) ds)) × (leads_with_zero (map (λ d. 48 + d) ds) ≡ false)
first_some [] h = absurd (omega (arith, h))
first_some (d ∷ []) h = (omega arith, refl)
first_some (d ∷ e ∷ ds) h = (omega arith, glyph_some d h)

pub number_digits_are : (n : ℕ) → IsNumber (number_digits n)
number_digits_are zero = record { some = omega arith; decimal = refl; shortest = refl }
number_digits_are (suc n) =
    let first = first_some (digits_of 10 (suc n)) (first_digits_of 10 (suc n) (omega arith) (omega arith)) in
    record { some = first.0; decimal = digits_all (digits_of 10 (suc n)) (all_below_base_digits_of 10 (suc n) (omega arith)); shortest = first.1 }

-- std's `decimal` writes the digits of a number of 64 bits.
pub number_digits_decimal : (n : ℕ) → n < 2 ^ 64 → number_digits n ≡ decimal n
number_digits_decimal zero h = sym (decimal_digit 0 (omega arith))
number_digits_decimal (suc n) h = sym (decimal-digits_of (suc n) (omega arith) h)
