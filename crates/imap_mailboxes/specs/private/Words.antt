-- Words that are put last one after another.
use Rattle.std.specs.Prelude.{◌≡◌, ℕ, Bool, true, false, List, [], ◌∷◌, ◌++◌}
use Rattle.std.specs.List.{join_with_byte}

abbrev pub are_none : List (List ℕ) → Bool
are_none [] = true
are_none (word ∷ words) = false

-- the text is these octets and then the words, and tells whether there are none yet
pub record EndsWithWords (front : List ℕ) (words : List (List ℕ)) (text : List ℕ) (is_first : Bool) : Type 0 where
  pub is : text ≡ front ++ join_with_byte 32 words
  pub none : is_first ≡ are_none words
