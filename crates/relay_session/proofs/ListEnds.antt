-- Lists that are the same, by their first elements.
use Rattle.std.proofs.Common.{◌≡◌, List, [], ◌∷◌, drop, ap}

abbrev first_or : {X : Type 0} → X → List X → X
first_or x [] = x
first_or x (y ∷ ys) = y

pub heads : {X : Type 0} {x y : X} {xs ys : List X} → x ∷ xs ≡ y ∷ ys → x ≡ y
heads {X} {x} same = ap (first_or x) same

pub tails : {X : Type 0} {x y : X} {xs ys : List X} → x ∷ xs ≡ y ∷ ys → xs ≡ ys
tails {X} same = ap (λ (l : List X). drop 1 l) same
