-- The CRLF that a message's last line may lack (RFC 5322, 2.1).
use Rattle.std.specs.Prelude.{◌≡◌, ℕ, ◌⊎◌, List, [], ◌∷◌, ◌++◌}
use Rattle.mail_wire.specs.Characters.{carriage_return}
use Rattle.mail_wire.specs.Lines.{crlf}
use Rattle.mail_wire.specs.Message.{IsEnded}

-- a CR is the last octet
abbrev pub EndsInCr : List ℕ → Type 0
EndsInCr octets = (front : List ℕ) × (octets ≡ front ++ carriage_return ∷ [])

-- there are no octets, or CRLF or a CR stands at their end
abbrev pub IsLeft : List ℕ → Type 0
IsLeft octets = IsEnded octets ⊎ EndsInCr octets

-- new is old with CRLF put last, unless nothing is put there
abbrev pub IsCompleted : List ℕ → List ℕ → Type 0
IsCompleted old new = (IsLeft old × (new ≡ old)) ⊎ ((¬ IsLeft old) × (new ≡ old ++ crlf))
