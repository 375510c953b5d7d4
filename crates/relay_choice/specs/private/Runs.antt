-- The dot that is put before a line.
use Rattle.std.specs.Prelude.{ℕ, List, [], ◌∷◌, Bool, false, ◌==◌, if◌then◌else◌}

abbrev pub begins_with_dot : List ℕ → Bool
begins_with_dot [] = false
begins_with_dot (x ∷ rest) = x == 46

abbrev pub dot_before : List ℕ → List ℕ
dot_before text = if begins_with_dot text then 46 ∷ [] else []
