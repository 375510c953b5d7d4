-- Octets beside one another, as the scan for faulty ones sees them.
use Rattle.std.specs.Prelude.{◌≡◌, ◌≢◌, ◌↔◌, ℕ, ◌+◌, ◌<◌, List, length}
use Rattle.mail_wire.specs.Message.{StandsAt}

-- the second one isn't NUL, and it is LF where the first one is CR, and only there
abbrev pub IsSoundPair : ℕ → ℕ → Type 0
IsSoundPair before octet = (octet ≢ 0) × ((before ≡ 13) ↔ (octet ≡ 10))

-- any two octets before this place that follow one another are such a pair
abbrev pub ArePairsBelow : List ℕ → ℕ → Type 0
ArePairsBelow octets end = (at before octet : ℕ) → at + 1 < end → StandsAt octets at before → StandsAt octets (at + 1) octet → IsSoundPair before octet

-- neither NUL nor LF comes first, and CR doesn't come last
pub record HasSoundEnds (octets : List ℕ) : Type 0 where
  pub nul : ¬ StandsAt octets 0 0
  pub lf : ¬ StandsAt octets 0 10
  pub cr : (at : ℕ) → length octets ≡ at + 1 → ¬ StandsAt octets at 13
