-- Where values are cut into parts.
use Rattle.std.specs.Prelude.{ℕ, suc, ◌<◌, ◌≤◌, List, length, take, ⊤, IsUtf8}
use Rattle.std.specs.Str.{IsCharBoundary}
use Rattle.encoded_words.specs.Words.{UnitValue, Text, Opaque}
use Rattle.param_grammar.specs.Escapes.{escaped}
use Rattle.param_2231.specs.Layout.{octets_in, EndsPart}

-- octets of a text have whole characters only
abbrev pub IsCuttable : UnitValue → List ℕ → Type 0
IsCuttable (Text octets) rest = IsUtf8 rest
IsCuttable (Opaque charset octets source) rest = ⊤

-- a text is UTF-8
abbrev pub IsWritableUnit : UnitValue → Type 0
IsWritableUnit unit = IsCuttable unit (octets_in unit)

-- at most 60 octets spell these many octets from the first on, and more spell one octet more
pub record IsFitting (octets : List ℕ) (n : ℕ) : Type 0 where
  pub bound : n ≤ length octets
  pub fits : length (escaped (take n octets)) ≤ 60
  pub most : n < length octets → 60 < length (escaped (take (suc n) octets))

-- the last place between two characters up to a place
pub record IsLastBoundary (octets : List ℕ) (at end : ℕ) : Type 0 where
  pub bound : end ≤ at
  pub boundary : IsCharBoundary octets end
  pub last : (i : ℕ) → end < i → i ≤ at → ¬ IsCharBoundary octets i

-- the last place up to a place where a part may end
pub record IsLastEnd (unit : UnitValue) (octets : List ℕ) (at end : ℕ) : Type 0 where
  pub bound : end ≤ at
  pub ends : EndsPart unit octets end
  pub last : (i : ℕ) → end < i → i ≤ at → ¬ EndsPart unit octets i
