-- The numbers of digits.
use Rattle.std.proofs.Common.{◌≡◌, ℕ, ◌+◌, ◌*◌, ◌<◌, ◌≤◌, List, [], ◌∷◌, length, get_or, drop, sym, ap, ◌∙◌, arith}
use Rattle.std.specs.Char.{digit_value}
use Rattle.std.proofs.lemmas.List.{drop_more}
use Rattle.param_grammar.specs.Joining.{decimal_onward}

-- more digits make no smaller number
pub onward_least : (n : ℕ) (digits : List ℕ) → n ≤ decimal_onward n digits
onward_least n [] = omega arith
onward_least n (digit ∷ digits) =
    let more = onward_least (10 * n + digit_value digit) digits in
    omega (arith, more)

pub onward_past : (n bound : ℕ) (digits : List ℕ) (i value : ℕ) → i < length digits → decimal_onward n (drop i digits) ≡ value → bound ≤ 10 * n + digit_value (get_or digits i 0)
    → bound ≤ value
onward_past n bound digits i value l e past =
    let next = 10 * n + digit_value (get_or digits i 0) in
    let same : decimal_onward next (drop (i + 1) digits) ≡ value = sym (ap (decimal_onward n) (drop_more digits i 0 l)) ∙ e in
    let least = onward_least next (drop (i + 1) digits) in
    omega (arith, same, least, past)
