-- Lines that are put with something after the line before.
use Rattle.std.specs.Prelude.{◌≡◌, ℕ, List, ◌∷◌, ◌++◌}
use Rattle.std.specs.List.{flat_map}
use Rattle.mail_wire.specs.Lines.{crlf}

-- a piece on a line of its own, after what is put last in the line before
abbrev pub line_after : List ℕ → List ℕ → List ℕ
line_after lead piece = lead ++ (crlf ++ 32 ∷ piece)

abbrev pub lines_after : List ℕ → List (List ℕ) → List ℕ
lines_after lead pieces = flat_map (line_after lead) pieces

-- new is old and lines of pieces of which this holds, each after such an end of the line before
pub record AddsAfter (lead : List ℕ) (P : List (List ℕ) → Type 0) (old new : List ℕ) : Type 0 where
  pub pieces : List (List ℕ)
  pub holds : P pieces
  pub added : new ≡ old ++ lines_after lead pieces
