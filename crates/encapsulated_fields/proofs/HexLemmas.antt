-- The digits of a number write it.
use Rattle.std.proofs.Common.{◌≡◌, ℕ, ◌+◌, ◌*◌, ◌/◌, ◌%◌, ◌<◌, ◌≤◌, Bool, true, false, if◌then◌else◌, List, [], ◌∷◌, ◌++◌, length, nat_lt, Result, Ok, Err, OnOk, refl, sym, ap, ◌∙◌, arith, inl, inr}
use Rattle.std.proofs.Math.Nat.{div-div-eq-div-mul, div-eq_of_lt}
use Rattle.std.proofs.lemmas.Bool.{and_from, cases_lt, lt-ltb}
use Rattle.std.proofs.lemmas.Bool.Decides.{nat_tests}
use Rattle.std.proofs.lemmas.List.{append_assoc, length-append}
use Rattle.std.specs.Char.{digit_value}
use Rattle.std.specs.List.{list_all}
use Rattle.mail_wire.proofs.AllLemmas.{pass-append}
use Rattle.encapsulated_fields.specs.AddressForms.{upper_digit, digit_at, leading_digit, hexadecimal}
use Rattle.encapsulated_fields.specs.Xtext.{is_hex_digit, hex_onward, hex_value}

digit_value-upper : (d : ℕ) → d < 16 → digit_value (upper_digit d) ≡ d
digit_value-upper d h = grind (arith, nat_tests)

digit_value-at : (weight n : ℕ) → digit_value (digit_at weight n) ≡ n / weight % 16
digit_value-at weight n = digit_value-upper (n / weight % 16) (below (n / weight))
  where
    below : (p : ℕ) → p % 16 < 16
    below p = omega arith

-- a digit goes on from the number that those before it write
goes_on : (p : ℕ) → 16 * (p / 16) + p % 16 ≡ p
goes_on p = omega arith

value-digit : (weight n : ℕ) (rest : List ℕ) → hex_onward (n / weight / 16) (digit_at weight n ∷ rest) ≡ hex_onward (n / weight) rest
value-digit weight n rest = ap (λ k. hex_onward k rest) (ap (λ d. 16 * (n / weight / 16) + d) (digit_value-at weight n) ∙ goes_on (n / weight))

value-leading : (weight n : ℕ) (rest : List ℕ) → hex_onward (n / weight / 16) (leading_digit weight n ++ rest) ≡ hex_onward (n / weight) rest
value-leading weight n rest = elim (cases_lt n weight) [
  | inl l ↦
      let none : n / weight ≡ 0 = div-eq_of_lt l in
      let no_digit : nat_lt n weight ≡ true = lt-ltb n weight l in
      rw (no_digit, none) refl
  | inr g ↦
      let a_digit : nat_lt n weight ≡ false = grind (arith, nat_tests) in
      rw a_digit (value-digit weight n rest)
]

next_weight : (n weight : ℕ) → n / weight / 16 ≡ n / (weight * 16)
next_weight n weight = div-div-eq-div-mul n weight 16

-- the digits of a number below 16 ^ 6 write it
pub hex_value-hexadecimal : (n : ℕ) → n < 0x100_0000 → hex_value (hexadecimal n) ≡ n
unfolding hexadecimal
hex_value-hexadecimal n h =
    let last : List ℕ = digit_at 0x10 n ∷ digit_at 1 n ∷ [] in
    let none : n / 0x100_0000 ≡ 0 = div-eq_of_lt h in
    ap hex_value (append_assoc (leading_digit 0x10_0000 n ++ leading_digit 0x1_0000 n ++ leading_digit 0x1000 n) (leading_digit 0x100 n) last
    ∙ append_assoc (leading_digit 0x10_0000 n ++ leading_digit 0x1_0000 n) (leading_digit 0x1000 n) (leading_digit 0x100 n ++ last)
    ∙ append_assoc (leading_digit 0x10_0000 n) (leading_digit 0x1_0000 n) (leading_digit 0x1000 n ++ (leading_digit 0x100 n ++ last)))
    ∙ ap (λ k. hex_onward k (leading_digit 0x10_0000 n ++ (leading_digit 0x1_0000 n ++ (leading_digit 0x1000 n ++ (leading_digit 0x100 n ++ last))))) (sym (next_weight n 0x10_0000 ∙ none))
    ∙ value-leading 0x10_0000 n (leading_digit 0x1_0000 n ++ (leading_digit 0x1000 n ++ (leading_digit 0x100 n ++ last)))
    ∙ ap (λ k. hex_onward k (leading_digit 0x1_0000 n ++ (leading_digit 0x1000 n ++ (leading_digit 0x100 n ++ last)))) (sym (next_weight n 0x1_0000))
    ∙ value-leading 0x1_0000 n (leading_digit 0x1000 n ++ (leading_digit 0x100 n ++ last))
    ∙ ap (λ k. hex_onward k (leading_digit 0x1000 n ++ (leading_digit 0x100 n ++ last))) (sym (next_weight n 0x1000))
    ∙ value-leading 0x1000 n (leading_digit 0x100 n ++ last)
    ∙ ap (λ k. hex_onward k (leading_digit 0x100 n ++ last)) (sym (next_weight n 0x100))
    ∙ value-leading 0x100 n last
    ∙ ap (λ k. hex_onward k last) (sym (next_weight n 0x10))
    ∙ value-digit 0x10 n (digit_at 1 n ∷ [])
    ∙ ap (λ k. hex_onward k (digit_at 1 n ∷ [])) (sym (next_weight n 1))
    ∙ value-digit 1 n []
    ∙ by_one n
  where
    by_one : (n : ℕ) → n / 1 ≡ n
    by_one n = omega arith

-- they are hexadecimal digits, two to six
hex-upper : (d : ℕ) → d < 16 → is_hex_digit (upper_digit d) ≡ true
hex-upper d h = grind (arith, nat_tests)

hex-at : (weight n : ℕ) → is_hex_digit (digit_at weight n) ≡ true
hex-at weight n = hex-upper (n / weight % 16) (below (n / weight))
  where
    below : (p : ℕ) → p % 16 < 16
    below p = omega arith

hex-leading : (weight n : ℕ) → list_all is_hex_digit (leading_digit weight n) ≡ true
hex-leading weight n = by (nat_lt n weight)
  where
    by : (b : Bool) → list_all is_hex_digit (if b then [] else digit_at weight n ∷ []) ≡ true
    by true = refl
    by false = and_from (is_hex_digit (digit_at weight n)) true (hex-at weight n) refl

length-leading : (weight n : ℕ) → length (leading_digit weight n) ≤ 1
length-leading weight n = by (nat_lt n weight)
  where
    by : (b : Bool) → length (if b then [] else digit_at weight n ∷ []) ≤ 1
    by true = omega arith
    by false = omega arith

pub hex-hexadecimal : (n : ℕ) → list_all is_hex_digit (hexadecimal n) ≡ true
unfolding hexadecimal
hex-hexadecimal n =
    let p : ℕ → Bool = is_hex_digit in
    let last : list_all p (digit_at 0x10 n ∷ digit_at 1 n ∷ []) ≡ true = and_from (p (digit_at 0x10 n)) (list_all p (digit_at 1 n ∷ [])) (hex-at 0x10 n) (and_from (p (digit_at 1 n)) true (hex-at 1 n) refl) in
    pass-append p (leading_digit 0x10_0000 n ++ leading_digit 0x1_0000 n ++ leading_digit 0x1000 n ++ leading_digit 0x100 n) (digit_at 0x10 n ∷ digit_at 1 n ∷ [])
    (pass-append p (leading_digit 0x10_0000 n ++ leading_digit 0x1_0000 n ++ leading_digit 0x1000 n) (leading_digit 0x100 n)
    (pass-append p (leading_digit 0x10_0000 n ++ leading_digit 0x1_0000 n) (leading_digit 0x1000 n)
    (pass-append p (leading_digit 0x10_0000 n) (leading_digit 0x1_0000 n) (hex-leading 0x10_0000 n) (hex-leading 0x1_0000 n)) (hex-leading 0x1000 n)) (hex-leading 0x100 n)) last

pub length-hexadecimal : (n : ℕ) → (2 ≤ length (hexadecimal n)) × (length (hexadecimal n) ≤ 6)
unfolding hexadecimal
length-hexadecimal n = by (leading_digit 0x10_0000 n) (leading_digit 0x1_0000 n) (leading_digit 0x1000 n) (leading_digit 0x100 n)
    (length-leading 0x10_0000 n) (length-leading 0x1_0000 n) (length-leading 0x1000 n) (length-leading 0x100 n)
  where
    by : (a b c d : List ℕ) → length a ≤ 1 → length b ≤ 1 → length c ≤ 1 → length d ≤ 1
        → (2 ≤ length (a ++ b ++ c ++ d ++ digit_at 0x10 n ∷ digit_at 1 n ∷ [])) × (length (a ++ b ++ c ++ d ++ digit_at 0x10 n ∷ digit_at 1 n ∷ []) ≤ 6)
    by a b c d p q r s =
        let e = length-append (a ++ b ++ c ++ d) (digit_at 0x10 n ∷ digit_at 1 n ∷ []) in
        let f = length-append (a ++ b ++ c) d in
        let g = length-append (a ++ b) c in
        let h = length-append a b in
        (omega arith, omega arith)

-- what the writer puts one after the other is the number
pub hexadecimal-put : {T E : Type 0} (r : Result T E) (n : ℕ) (start a b c d e new : List ℕ) → a ≡ start ++ leading_digit 0x10_0000 n → b ≡ a ++ leading_digit 0x1_0000 n → c ≡ b ++ leading_digit 0x1000 n
    → d ≡ c ++ leading_digit 0x100 n → e ≡ d ++ digit_at 0x10 n ∷ [] → OnOk r (new ≡ e ++ digit_at 1 n ∷ []) → OnOk r (new ≡ start ++ hexadecimal n)
unfolding hexadecimal
hexadecimal-put (Ok x) n start a b c d e new p q r s t u = rw (u, t, s, r, q, p) (simp append_assoc)
hexadecimal-put (Err x) n start a b c d e new p q r s t u = tt
