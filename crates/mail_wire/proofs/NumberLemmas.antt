-- Numbers that digits write.
use Rattle.std.proofs.Common.{◌≡◌, ℕ, zero, suc, ◌+◌, ◌-◌, ◌/◌, ◌%◌, ◌^◌, ◌<◌, ◌==◌, List, [], ◌∷◌, length, min, Bool, true, false, arith, refl, sym, ap, ◌∙◌, Some, None}
use Rattle.std.specs.Fmt.{decimal, digits, digits_onto, digit_glyph}
use Rattle.std.specs.Option.{option_map}
use Rattle.std.specs.Prelude.{nat_lt}
use Rattle.std.specs.List.{list_all}
use Rattle.std.proofs.lemmas.Bool.Decides.{nat_tests}
use Rattle.mail_wire.specs.Numbers.{number_written, number_of, is_digit}
use Rattle.mail_wire.specs.Octets.{is_ascii}

pub number_of-not : (text : List ℕ) → list_all is_digit text ≡ false → number_of text ≡ None
unfolding number_of
number_of-not [] h = refl
number_of-not (x ∷ text) h = rw h refl

pub number_of-nil : (text : List ℕ) → length text ≡ 0 → number_of text ≡ None
unfolding number_of
number_of-nil [] h = refl
number_of-nil (x ∷ text) h = absurd (omega arith)

pub number_of-digits : (text : List ℕ) → list_all is_digit text ≡ true → 0 < length text → number_of text ≡ Some (number_written text)
unfolding number_of
number_of-digits [] h some = absurd (omega arith)
number_of-digits (x ∷ text) h some = rw h refl

-- what a text that is no number gives
pub no_number : (text : List ℕ) → number_of text ≡ None → None ≡ option_map (λ number. min number (2 ^ 64 - 1)) (number_of text)
no_number text none = sym (ap (option_map (λ number. min number (2 ^ 64 - 1))) none)

pub a_number : (text : List ℕ) (n : ℕ) → list_all is_digit text ≡ true → 0 < length text → n ≡ min (number_written text) (2 ^ 64 - 1)
    → Some n ≡ option_map (λ number. min number (2 ^ 64 - 1)) (number_of text)
a_number text n digits some is = ap Some is ∙ sym (ap (option_map (λ number. min number (2 ^ 64 - 1))) (number_of-digits text digits some))

-- ---- numbers as they are written

below_ten : (n : ℕ) → n % 10 < 10
below_ten n = omega arith

ascii-digit : (n : ℕ) (acc : List ℕ) → list_all is_ascii acc ≡ true → list_all is_ascii (digit_glyph false (n % 10) ∷ acc) ≡ true
ascii-digit n acc ascii =
    let low = below_ten n in
    let small : nat_lt (n % 10) 10 ≡ true = grind (arith, nat_tests) in
    let fits : nat_lt (48 + n % 10) 128 ≡ true = grind (arith, nat_tests) in
    rw (small, fits) ascii

onto_by : (k n : ℕ) (acc : List ℕ) → list_all is_ascii acc ≡ true
    → ((more : List ℕ) → list_all is_ascii more ≡ true → list_all is_ascii (digits_onto k 10 false (n / 10) more) ≡ true) → (b : Bool) → (n / 10 == 0) ≡ b
    → list_all is_ascii (digits_onto (suc k) 10 false n acc) ≡ true
onto_by k n acc ascii others true is = rw is (ascii-digit n acc ascii)
onto_by k n acc ascii others false is = rw is (others (digit_glyph false (n % 10) ∷ acc) (ascii-digit n acc ascii))

ascii-onto : (k n : ℕ) (acc : List ℕ) → list_all is_ascii acc ≡ true → list_all is_ascii (digits_onto k 10 false n acc) ≡ true
ascii-onto zero n acc ascii = ascii
ascii-onto (suc k) n acc ascii = onto_by k n acc ascii (λ more m. ascii-onto k (n / 10) more m) (n / 10 == 0) refl

-- a number is written in ASCII, however large it is
pub ascii-decimal : (n : ℕ) → list_all is_ascii (decimal n) ≡ true
unfolding digits
ascii-decimal n = ascii-onto 64 n [] refl
