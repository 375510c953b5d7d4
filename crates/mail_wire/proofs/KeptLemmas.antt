-- Octets that a keeper keeps.
use Rattle.std.proofs.Common.{◌≡◌, ℕ, ◌+◌, ◌-◌, ◌≤◌, List, ◌++◌, length, take, Some, arith, ap, ◌∙◌}
use Rattle.std.proofs.Math.Seq.{take-append-add}

-- octets with more after them, cut after the old ones: a prefix of what came is left
pub cut_after : (old more all now : List ℕ) (n : ℕ) → all ≡ old ++ more → length old ≤ n → now ≡ take n all
    → (x : ℕ) × (Some now ≡ Some (old ++ take x more))
cut_after old more all now n at following cut =
    let split : n ≡ length old + (n - length old) = omega (arith, following) in
    (n - length old, ap Some (cut ∙ ap (take n) at ∙ ap (λ m. take m (old ++ more)) split ∙ take-append-add old more (n - length old)))
