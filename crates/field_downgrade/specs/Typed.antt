-- An address after its type (RFC 3464, 2.3), which may be one beyond ASCII (RFC 6533, 3).
use Rattle.std.specs.Prelude.{◌≡◌, ◌<◌, ℕ, ◌==◌, Bool, true, false, ◌&&◌, not, List, [], ◌∷◌, ◌++◌, length, codes}
use Rattle.std.specs.List.{AllByRecursion, join_with_byte, list_all}
use Rattle.std.specs.Str.{bytes_eq, str_to_ascii_lowercase}
use Rattle.mail_wire.specs.Characters.{space, semicolon}
use Rattle.mail_wire.specs.Octets.{is_ascii, is_white}
use Rattle.mail_wire.specs.Spans.{Stops, StopsAfter, IsTrimmed}
use Rattle.field_tokens.specs.declared.Style.TheVariants.{Mime}
use Rattle.field_tokens.specs.TokenOctets.{is_atom_octet}
use Rattle.field_tokens.specs.Comments.{IsLinePiece}
use Rattle.encapsulated_fields.specs.AddressForms.{xtext_form}
use Rattle.encapsulated_fields.specs.Xtext.{ReadsAs}

-- no `;`
abbrev pub is_no_semicolon : ℕ → Bool
is_no_semicolon x = not (x == semicolon)

-- an octet of a type
abbrev pub is_type_octet : ℕ → Bool
is_type_octet x = is_ascii x && is_atom_octet Mime x

-- the type of UTF-8 addresses
abbrev pub utf8_type : List ℕ
utf8_type = codes "utf-8"

-- the value is cut at its first `;`
pub record CutsType (value front following : List ℕ) : Type 0 where
  pub whole : value ≡ front ++ semicolon ∷ following
  pub first : list_all is_no_semicolon front ≡ true

-- The octets write this type: an ASCII atom, with white around it, in any case.
pub record WritesType (octets type : List ℕ) : Type 0 where
  pub atom : List ℕ
  pub atom_is : IsTrimmed is_white octets atom
  pub some : 0 < length atom
  pub are : list_all is_type_octet atom ≡ true
  pub lower : type ≡ str_to_ascii_lowercase atom

-- a type, and an address that is written so after the first `;`
pub record IsTyped (value type written : List ℕ) : Type 0 where
  pub front : List ℕ
  pub following : List ℕ
  pub cuts : CutsType value front following
  pub type_is : WritesType front type
  pub written_is : IsTrimmed is_white following written

-- a UTF-8 address is what its escapes name, and another one stands as it is
abbrev pub WrittenSays : Bool → List ℕ → List ℕ → Type 0
WrittenSays true written text = ReadsAs written text
WrittenSays false written text = text ≡ written

-- the value says a type and an address
pub record SaysTyped (value type text : List ℕ) : Type 0 where
  pub written : List ℕ
  pub is_typed : IsTyped value type written
  pub says : WrittenSays (bytes_eq type utf8_type) written text

-- a UTF-8 address is one piece, in its ASCII form
pub record TypedPieces (value : List ℕ) (pieces : List (List ℕ)) : Type 0 where
  pub text : List ℕ
  pub says : SaysTyped value utf8_type text
  pub pieces_are : pieces ≡ (codes "utf-8; " ++ xtext_form text) ∷ []

-- The pieces, with a space between any two, say the same type and address. Each can stand on a line of its own.
pub record IsTypedAgain (type text : List ℕ) (pieces : List (List ℕ)) : Type 0 where
  pub says : SaysTyped (join_with_byte space pieces) type text
  pub begins : Stops is_white (join_with_byte space pieces)
  pub ends : StopsAfter is_white (join_with_byte space pieces)
  pub are_pieces : AllByRecursion IsLinePiece pieces
  pub some : 0 < length pieces
