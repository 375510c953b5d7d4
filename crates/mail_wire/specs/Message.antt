-- Messages (RFC 5322, 2.1 and 2.3): lines that end with CRLF, without NUL, and with CR and LF only as CRLF.
use Rattle.std.specs.Prelude.{◌≡◌, ℕ, ◌+◌, ◌<◌, ◌⊎◌, List, [], ◌++◌, slice_get, Some}
use Rattle.mail_wire.specs.Characters.{nul, line_feed, carriage_return}
use Rattle.mail_wire.specs.Lines.{crlf}

-- this octet stands at this place
abbrev pub StandsAt : List ℕ → ℕ → ℕ → Type 0
StandsAt octets at x = slice_get octets at ≡ Some x

-- A NUL stands at this place, which no message may have (RFC 5322, 2.3).
abbrev pub IsNul : List ℕ → ℕ → Type 0
IsNul octets at = StandsAt octets at nul

-- a CR that LF doesn't follow
abbrev pub IsBareCr : List ℕ → ℕ → Type 0
IsBareCr octets at = StandsAt octets at carriage_return × ¬ StandsAt octets (at + 1) line_feed

-- an LF that CR doesn't precede
abbrev pub IsBareLf : List ℕ → ℕ → Type 0
IsBareLf octets at = StandsAt octets at line_feed × ((before : ℕ) → at ≡ before + 1 → ¬ StandsAt octets before carriage_return)

-- A NUL, or a CR or LF that isn't part of a CRLF, stands at this place (RFC 5322, 2.3).
abbrev pub IsFaulty : List ℕ → ℕ → Type 0
IsFaulty octets at = IsNul octets at ⊎ IsBareCr octets at ⊎ IsBareLf octets at

-- none of the octets before this place is faulty
abbrev pub IsSoundBelow : List ℕ → ℕ → Type 0
IsSoundBelow octets end = (at : ℕ) → at < end → ¬ IsFaulty octets at

-- no octet is faulty
abbrev pub IsSound : List ℕ → Type 0
IsSound octets = (at : ℕ) → ¬ IsFaulty octets at

-- this octet is faulty, and none before it
abbrev pub IsFirstFaulty : List ℕ → ℕ → Type 0
IsFirstFaulty octets at = IsFaulty octets at × IsSoundBelow octets at

-- CRLF comes first
abbrev pub BeginsCrlf : List ℕ → Type 0
BeginsCrlf octets = StandsAt octets 0 carriage_return × StandsAt octets 1 line_feed

-- there are no octets, or CRLF stands at their end
abbrev pub IsEnded : List ℕ → Type 0
IsEnded octets = (octets ≡ []) ⊎ ((front : List ℕ) × (octets ≡ front ++ crlf))

-- no octet is faulty, and the last line is ended
pub record IsMessage (octets : List ℕ) : Type 0 where
  pub sound : IsSound octets
  pub ended : IsEnded octets
