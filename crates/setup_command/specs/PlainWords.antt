-- Words of a command line, and the lists of them that a command takes.
use Rattle.std.specs.Prelude.{◌≡◌, ℕ, ◌==◌, Bool, true, false, not, List, [], ◌∷◌}
use Rattle.std.specs.List.{list_all}
use Rattle.mail_wire.specs.Characters.{dash}

-- The word isn't empty and doesn't begin with `-`.
abbrev pub is_plain_word : List ℕ → Bool
is_plain_word [] = false
is_plain_word (x ∷ word) = not (x == dash)

-- The words are this name, and after it only words that aren't empty and don't begin with `-`.
pub record IsCalled (name : List ℕ) (words : List (List ℕ)) : Type 0 where
  pub rest : List (List ℕ)
  pub words_are : words ≡ name ∷ rest
  pub plain : list_all is_plain_word rest ≡ true
