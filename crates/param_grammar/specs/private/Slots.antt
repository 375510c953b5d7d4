-- Parts by their numbers.
use Rattle.std.specs.Prelude.{◌≡◌, ℕ, ◌<◌, List, [], ◌∷◌, length, get_or, Option, Some, None}
use Rattle.param_grammar.specs.declared.Piece.{Piece}
use Rattle.param_grammar.specs.Joining.{numbered}

-- what a slot holds, where these are the pieces of numbers
abbrev pub slot_pieces : (ℕ → Piece) → Option ℕ → List Piece
slot_pieces piece None = []
slot_pieces piece (Some number) = piece number ∷ []

-- there is a slot for each of count numbers, which holds the part of the number, where there is one
pub record AreSlots (piece : ℕ → Piece) (count : ℕ) (parts : List Piece) (slots : List (Option ℕ)) : Type 0 where
  pub count_is : length slots ≡ count
  pub hold : (n : ℕ) → n < count → numbered n parts ≡ slot_pieces piece (get_or slots n None)

-- no slot holds a number from the bound on
abbrev pub HoldBelow : ℕ → List (Option ℕ) → Type 0
HoldBelow bound slots = (n k : ℕ) → get_or slots n None ≡ Some k → k < bound
