-- What contracts see of the code's answers.
use Rattle.std.specs.Prelude.{ℕ, List}
use Rattle.field_downgrade.specs.declared.field.Rewrite.{Rewrite}
use Rattle.field_downgrade.specs.declared.field.Rewrite.TheVariants.{Keep, New}

-- the octets of the served field
abbrev pub made_from : List ℕ → Rewrite → List ℕ
made_from raw Keep = raw
made_from raw (New made) = made

abbrev pub IsKeep : Rewrite → Type 0
IsKeep Keep = Unit {0}
IsKeep (New made) = ⊥
