-- What was taken from a wire, and nothing given.
use Rattle.std.specs.Prelude.{◌≡◌, ℕ, ◌+◌, ◌≤◌, List, [], ◌∷◌, length}
use Rattle.std.specs.Io.KnownBytes.{IsAtEnd}
use Rattle.mail_wire.specs.declared.outside.Entry.{Entry}
use Rattle.mail_wire.specs.declared.outside.Entry.TheVariants.{Taken, Given}
use Rattle.mail_wire.specs.WireState.{WireState}
use Rattle.mail_wire.specs.Transcript.{taken_of}
use Rattle.mail_wire.specs.Moves.{Moves}
use Rattle.mail_wire.specs.declared.traffic.TheConstants.{PIECE}

-- nothing was given
abbrev pub AreTaken : List Entry → Type 0
AreTaken [] = Unit {0}
AreTaken (Taken octets ∷ entries) = AreTaken entries
AreTaken (Given octets ∷ entries) = ⊥

-- Over some calls these octets were taken, and nothing was given.
pub record Takes (before now : WireState) (octets : List ℕ) : Type 0 where
  pub entries : List Entry
  pub moves : Moves before now entries
  pub only : AreTaken entries
  pub octets_are : taken_of entries ≡ octets

-- Over some calls these octets were taken, and nothing was given: no more than a piece beyond max. If they are no more than max,
-- they are all that was left.
pub record TakesUpTo (max : ℕ) (before now : WireState) (octets : List ℕ) : Type 0 where
  pub takes : Takes before now octets
  pub few : length octets ≤ max + PIECE
  pub end : length octets ≤ max → IsAtEnd now.left

-- Over some calls some octets were taken, no more than a piece beyond max, and nothing was given.
pub record TakesSome (max : ℕ) (before now : WireState) : Type 0 where
  pub octets : List ℕ
  pub takes : Takes before now octets
  pub few : length octets ≤ max + PIECE
