-- Numbers that rise strictly, and places in a list.
use Rattle.std.proofs.Common.{◌≡◌, ℕ, zero, suc, ◌+◌, ◌<◌, ◌≤◌, Bool, true, List, [], ◌∷◌, length, map, drop, Some, refl, sym, subst, arith, inl, inr}
use Rattle.std.specs.Prelude.{slice_get, slice_index}
use Rattle.std.specs.List.{AllByRecursion}
use Rattle.std.specs.List.Sorted.{IsStrictlyIncreasing}
use Rattle.std.proofs.lemmas.Bool.{cases_Bool}
use Rattle.std.proofs.lemmas.Option.{none-some, same_Some}
use Rattle.mail_store.specs.Queue.{places_where}

-- the numbers rise, and the first of them is this one or greater
abbrev Rises : (low : ℕ) → List ℕ → Type 0
Rises low [] = Unit {0}
Rises low (n ∷ ns) = (low ≤ n) × Rises (n + 1) ns

Rises-lower : (low lower : ℕ) (ns : List ℕ) → lower ≤ low → Rises low ns → Rises lower ns
Rises-lower low lower [] less rises = tt
Rises-lower low lower (n ∷ ns) less rises = (omega (arith, less, rises.0), rises.1)

increases : (n m : ℕ) (ns : List ℕ) → n < m → IsStrictlyIncreasing (m ∷ ns) → IsStrictlyIncreasing (n ∷ m ∷ ns)
increases n m ns less rising = each
  where
    each : (k : ℕ) → k + 1 < length (n ∷ m ∷ ns) → slice_index (n ∷ m ∷ ns) k < slice_index (n ∷ m ∷ ns) (k + 1)
    each zero within = omega (arith, less)
    each (suc k) within =
        let next : suc k + 1 ≡ suc (k + 1) = omega arith in
        subst (λ (p : ℕ). slice_index (n ∷ m ∷ ns) (suc k) < slice_index (n ∷ m ∷ ns) p) (sym next) (rising k (omega (arith, within)))

increasing : (low : ℕ) (ns : List ℕ) → Rises low ns → IsStrictlyIncreasing ns
increasing low [] rises = λ k less. absurd (omega (arith, less))
increasing low (n ∷ []) rises = λ k less. absurd (omega (arith, less))
increasing low (n ∷ m ∷ ns) rises = let less = rises.1.0 in increases n m ns (omega (arith, less)) (increasing (n + 1) (m ∷ ns) rises.1)

places_rise : {T : Type 0} (test : T → Bool) (at : ℕ) (xs : List T) → Rises at (places_where test at xs)
places_rise test at [] = tt
places_rise test at (x ∷ xs) =
    let rest = places_rise test (at + 1) xs in
    elim (cases_Bool (test x)) [
      | inl here ↦ rw here (omega arith, rest)
      | inr other ↦ rw other (Rises-lower (at + 1) at (places_where test (at + 1) xs) (omega arith) rest)
    ]

-- the places of those that pass a test rise
pub places_increase : {T : Type 0} (test : T → Bool) (xs : List T) → IsStrictlyIncreasing (places_where test 0 xs)
places_increase test xs = increasing 0 (places_where test 0 xs) (places_rise test 0 xs)

-- what holds of each place where one stands that passes holds of the places of those that pass
pub places_pass : {T : Type 0} (test : T → Bool) (P : ℕ → Type 0) (at : ℕ) (xs : List T) → ((i : ℕ) (x : T) → slice_get xs i ≡ Some x → test x ≡ true → P (at + i))
    → AllByRecursion P (places_where test at xs)
places_pass test P at [] holds = tt
places_pass {T = T} test P at (x ∷ xs) holds =
    let more : (i : ℕ) (y : T) → slice_get xs i ≡ Some y → test y ≡ true → P (at + 1 + i) = λ i y there passes.
    (let next : at + suc i ≡ at + 1 + i = omega arith in subst P next (holds (suc i) y there passes)) in
    let rest = places_pass test P (at + 1) xs more in
    let here_is : at + 0 ≡ at = omega arith in
    elim (cases_Bool (test x)) [
      | inl here ↦ rw here (subst P here_is (holds 0 x refl here), rest)
      | inr other ↦ rw other rest
    ]

-- ---- numbers after others

pub increasing_tail : (n : ℕ) (ns : List ℕ) → IsStrictlyIncreasing (n ∷ ns) → IsStrictlyIncreasing ns
increasing_tail n ns rising = λ k less.
    (let next : suc k + 1 ≡ suc (k + 1) = omega arith in
    subst (λ (p : ℕ). slice_index (n ∷ ns) (suc k) < slice_index (n ∷ ns) p) next (rising (suc k) (omega (arith, less))))

-- what is above a number is above a lower one
above_lower : {T : Type 0} (f : T → ℕ) (n m : ℕ) (xs : List T) → n < m → AllByRecursion (λ x. m < f x) xs → AllByRecursion (λ x. n < f x) xs
above_lower f n m [] less above = tt
above_lower f n m (x ∷ xs) less above = (omega (arith, less, above.0), above_lower f n m xs less above.1)

-- all others are above the first
pub above_first : {T : Type 0} (f : T → ℕ) (n : ℕ) (xs : List T) → IsStrictlyIncreasing (n ∷ map f xs) → AllByRecursion (λ x. n < f x) xs
above_first f n [] rising = tt
above_first f n (x ∷ xs) rising =
    let first : n < f x = rising 0 (omega arith) in
    (first, above_lower f n (f x) xs first (above_first f (f x) xs (increasing_tail n (f x ∷ map f xs) rising)))

-- all others after a place are above what stands there
pub above_place : {T : Type 0} (f : T → ℕ) (xs : List T) (place : ℕ) (x : T) → IsStrictlyIncreasing (map f xs) → slice_get xs place ≡ Some x → AllByRecursion (λ y. f x < f y) (drop (suc place) xs)
above_place f [] place x rising there = absurd (none-some x there)
above_place f (y ∷ xs) zero x rising there =
    let same : y ≡ x = same_Some y x there in
    subst (λ z. AllByRecursion (λ y. f z < f y) xs) same (above_first f (f y) xs rising)
above_place f (y ∷ xs) (suc place) x rising there = above_place f xs place x (increasing_tail (f y) (map f xs) rising) there
