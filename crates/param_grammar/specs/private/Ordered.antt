-- Pieces in the order of their names.
use Rattle.std.specs.Prelude.{ℕ, suc, zero, ◌<◌, List, [], ◌∷◌, ◌++◌, Bool, false, true, Option, Some, None}
use Rattle.std.specs.Cmp.Lexicographic.{slice_cmp}
use Rattle.std.specs.List.Sorted.{IsPermutation, IsSortedByKey, IsStableByKey}
use Rattle.std.specs.Ordering.{nat_cmp}
use Rattle.std.specs.List.{slice_get}
use Rattle.field_tokens.specs.Tokens.{octets_at}
use Rattle.param_grammar.specs.declared.places.Place.{Place}
use Rattle.param_grammar.specs.Places.{base_span}

-- the name of the piece of a number in a text in lower case
abbrev pub name_at : List ℕ → Option Place → List ℕ
name_at lower None = []
name_at lower (Some place) = octets_at lower (base_span place)

abbrev pub name_in : List ℕ → List Place → ℕ → List ℕ
name_in lower places number = name_at lower (slice_get places number)

-- whether the piece of a number has one itself, and whether it has no octet above 127
abbrev pub is_numbered_at : Option Place → Bool
is_numbered_at None = false
is_numbered_at (Some place) = place.is_numbered

abbrev pub numbered_in : List Place → ℕ → Bool
numbered_in places number = is_numbered_at (slice_get places number)

abbrev pub is_ascii_at : Option Place → Bool
is_ascii_at None = true
is_ascii_at (Some place) = place.is_ascii

abbrev pub ascii_in : List Place → ℕ → Bool
ascii_in places number = is_ascii_at (slice_get places number)

-- the numbers below this
abbrev pub numbers_below : ℕ → List ℕ
numbers_below zero = []
numbers_below (suc n) = numbers_below n ++ n ∷ []

-- the numbers below count, those of a name after one another and in order, each of 32 bits
pub record InNameOrder (name : ℕ → List ℕ) (count : ℕ) (order : List ℕ) : Type 0 where
  pub few : count < 4294967296
  pub permutation : IsPermutation (numbers_below count) order
  pub sorted : IsSortedByKey name (slice_cmp nat_cmp) order
  pub stable : IsStableByKey name (slice_cmp nat_cmp) (numbers_below count) order
