-- What a call gives of octets that are said, whole or in part.
use Rattle.std.specs.Prelude.{List, ℕ, []}
use Rattle.mail_wire.specs.WireState.{WireState}
use Rattle.mail_wire.specs.Moves.{Gives, GivesPrefix}

-- Octets of which this holds were given, and nothing was taken.
pub record GivesOne (Holds : List ℕ → Type 0) (before now : WireState) : Type 0 where
  pub octets : List ℕ
  pub holds : Holds octets
  pub gives : Gives before now octets

-- Nothing was taken, and nothing or a prefix of such octets was given.
pub data BeginsOne (Holds : List ℕ → Type 0) (before now : WireState) : Type 0 where
  GivesNone : Gives before now [] → BeginsOne Holds before now
  GivesPart : (octets : List ℕ) → Holds octets → GivesPrefix before now octets → BeginsOne Holds before now
