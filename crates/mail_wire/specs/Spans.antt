-- The longest front of a list whose elements all pass a test, and texts that are cut off at both ends.
use Rattle.std.specs.Prelude.{◌≡◌, ℕ, Bool, true, false, List, [], ◌∷◌, ◌++◌}
use Rattle.std.specs.List.{list_all}

-- the list doesn't begin with an element that passes
abbrev pub Stops : (ℕ → Bool) → List ℕ → Type 0
Stops p [] = Unit {0}
Stops p (x ∷ xs) = p x ≡ false

-- the list doesn't end with an element that passes
abbrev pub StopsAfter : (ℕ → Bool) → List ℕ → Type 0
StopsAfter p [] = Unit {0}
StopsAfter p (x ∷ []) = p x ≡ false
StopsAfter p (x ∷ y ∷ xs) = StopsAfter p (y ∷ xs)

-- front is the longest front of the list that passes, and rest follows it
pub record IsSpan (p : ℕ → Bool) (list front rest : List ℕ) : Type 0 where
  pub whole : list ≡ front ++ rest
  pub passes : list_all p front ≡ true
  pub stops : Stops p rest

-- the list without the elements that pass at both its ends
pub record IsTrimmed (p : ℕ → Bool) (list trimmed : List ℕ) : Type 0 where
  pub lead : List ℕ
  pub trail : List ℕ
  pub lead_passes : list_all p lead ≡ true
  pub trail_passes : list_all p trail ≡ true
  pub begins : Stops p trimmed
  pub ends : StopsAfter p trimmed
  pub whole : list ≡ lead ++ (trimmed ++ trail)
