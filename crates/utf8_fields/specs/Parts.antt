-- The parts of a header field, and its value (RFC 5322, 2.2 and 2.2.3; RFC 6532, 3.1).
use Rattle.std.specs.Prelude.{◌≡◌, ◌≢◌, ℕ, ◌<◌, ◌⊎◌, true, List, [], ◌∷◌, ◌++◌, length, IsUtf8}
use Rattle.std.specs.List.{list_all}
use Rattle.mail_wire.specs.Characters.{colon}
use Rattle.mail_wire.specs.Octets.{is_white, is_field_name_octet}
use Rattle.mail_wire.specs.Spans.{IsTrimmed}
use Rattle.mail_wire.specs.Lines.{crlf}
use Rattle.mail_wire.specs.Folds.{IsFolded, unfolded}

-- name, white, colon, body, and CRLF, which an entity's last line may lack
pub record FieldParts : Type 0 where
  pub name : List ℕ
  pub white : List ℕ
  pub body : List ℕ
  pub ending : List ℕ

-- The octets of a field: its name, white, a colon, its body and the end of its last line (RFC 5322, 2.2).
abbrev pub field_octets : FieldParts → List ℕ
field_octets f = f.name ++ (f.white ++ colon ∷ (f.body ++ f.ending))

-- the octets are a field with these parts
pub record HasParts (octets : List ℕ) (f : FieldParts) : Type 0 where
  pub spelled : octets ≡ field_octets f
  pub named : 0 < length f.name
  pub name : list_all is_field_name_octet f.name ≡ true
  pub white : list_all is_white f.white ≡ true
  pub body : IsFolded f.body
  pub utf8 : IsUtf8 f.body
  pub ending : (f.ending ≡ []) ⊎ (f.ending ≡ crlf)

-- the octets are a field
pub record IsField (octets : List ℕ) : Type 0 where
  pub parts : FieldParts
  pub has_parts : HasParts octets parts

-- The value of a body: the body without the CRLF of its folds and without white at both ends.
abbrev pub HasValue : List ℕ → List ℕ → Type 0
HasValue body value = IsTrimmed is_white (unfolded body) value

-- the body is what stands before a CRLF at the end, and the ending is that CRLF, if there is one
pub record SplitsEnding (octets body ending : List ℕ) : Type 0 where
  pub whole : octets ≡ body ++ ending
  pub ending_is : (ending ≡ crlf) ⊎ ((ending ≡ []) × ((front : List ℕ) → octets ≢ front ++ crlf))
