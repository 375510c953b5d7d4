-- What holds of all of a list.
use Rattle.std.proofs.Common.{◌≡◌, ℕ, List, [], ◌∷◌, ◌++◌, Bool, true, sym, ◌∙◌, take, drop, refl}
use Rattle.std.specs.List.{AllByRecursion, list_all}
use Rattle.std.proofs.lemmas.Bool.{and_from, and_parts}
use Rattle.std.proofs.lemmas.List.{take-append-drop}
use Rattle.std.proofs.lemmas.List.Folds.{list_all-append}

-- the same of two lists, one after the other
pub all-append : {P : Type 0} (Fits : P → Type 0) (xs ys : List P) → AllByRecursion Fits xs → AllByRecursion Fits ys → AllByRecursion Fits (xs ++ ys)
all-append Fits [] ys first second = second
all-append Fits (x ∷ xs) ys first second = (first.0, all-append Fits xs ys first.1 second)

-- of the first of two lists, of which it holds together
pub all-front : {P : Type 0} (Fits : P → Type 0) (xs ys : List P) → AllByRecursion Fits (xs ++ ys) → AllByRecursion Fits xs
all-front Fits [] ys all = tt
all-front Fits (x ∷ xs) ys all = (all.0, all-front Fits xs ys all.1)

-- and of the second
pub all-back : {P : Type 0} (Fits : P → Type 0) (xs ys : List P) → AllByRecursion Fits (xs ++ ys) → AllByRecursion Fits ys
all-back Fits [] ys all = all
all-back Fits (x ∷ xs) ys all = all-back Fits xs ys all.1

-- ---- elements that pass a test

-- two lists, one after the other
pub pass-append : {X : Type 0} (test : X → Bool) (xs ys : List X) → list_all test xs ≡ true → list_all test ys ≡ true → list_all test (xs ++ ys) ≡ true
pass-append test xs ys first second = list_all-append test xs ys ∙ and_from (list_all test xs) (list_all test ys) first second

-- both of two lists that pass together
pub pass-parts : {X : Type 0} (test : X → Bool) (xs ys : List X) → list_all test (xs ++ ys) ≡ true → (list_all test xs ≡ true) × (list_all test ys ≡ true)
pass-parts test xs ys all = and_parts (list_all test xs) (list_all test ys) (sym (list_all-append test xs ys) ∙ all)

pub pass-front : {X : Type 0} (test : X → Bool) (xs ys : List X) → list_all test (xs ++ ys) ≡ true → list_all test xs ≡ true
pass-front test xs ys all = (pass-parts test xs ys all).0

pub pass-back : {X : Type 0} (test : X → Bool) (xs ys : List X) → list_all test (xs ++ ys) ≡ true → list_all test ys ≡ true
pass-back test xs ys all = (pass-parts test xs ys all).1

-- the first so many
pub pass-take : {X : Type 0} (test : X → Bool) (n : ℕ) (xs : List X) → list_all test xs ≡ true → list_all test (take n xs) ≡ true
pass-take test n xs all = pass-front test (take n xs) (drop n xs) (rw (take-append-drop n xs) all)

-- and the others
pub pass-drop : {X : Type 0} (test : X → Bool) (n : ℕ) (xs : List X) → list_all test xs ≡ true → list_all test (drop n xs) ≡ true
pass-drop test n xs all = pass-back test (take n xs) (drop n xs) (rw (take-append-drop n xs) all)

-- what passes one test passes a weaker one
pub pass-weaker : {X : Type 0} (test weaker : X → Bool) → ((x : X) → test x ≡ true → weaker x ≡ true) → (xs : List X) → list_all test xs ≡ true → list_all weaker xs ≡ true
pass-weaker test weaker each [] all = refl
pass-weaker test weaker each (x ∷ xs) all =
    let parts = and_parts (test x) (list_all test xs) all in
    and_from (weaker x) (list_all weaker xs) (each x parts.0) (pass-weaker test weaker each xs parts.1)
