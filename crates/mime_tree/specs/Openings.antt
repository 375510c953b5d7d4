-- How an entity is opened, by the fields of its block (RFC 2045, 5 and 6; RFC 2046, 5.1.1, 5.1.5 and 5.2; RFC 6532, 3.7).
use Rattle.std.specs.Prelude.{◌≡◌, ℕ, ◌+◌, ◌-◌, ◌≤◌, ◌⊎◌, List, [], ◌∷◌, Bool, true, false, ◌&&◌, ◌||◌, ◌==◌, not, if◌then◌else◌, length, slice_index, nat_eq, nat_le, codes, Option, Some, None, ⊤}
use Rattle.std.specs.List.{All, starts_with, list_all}
use Rattle.std.specs.Str.{bytes_eq}
use Rattle.mail_wire.specs.Characters.{space, equals_sign, question_mark, underscore}
use Rattle.mail_wire.specs.Lines.{crlf}
use Rattle.mail_wire.specs.Message.{IsNul}
use Rattle.mail_wire.specs.Octets.{same_name}
use Rattle.utf8_fields.specs.declared.block.Field.{Field}
use Rattle.utf8_fields.specs.Parts.{FieldParts, HasParts, IsField, HasValue}
use Rattle.utf8_fields.specs.Block.{raw_of}
use Rattle.encoded_words.specs.Words.{UnitValue, Text, Opaque}
use Rattle.field_tokens.specs.declared.Style.TheVariants.{Mime}
use Rattle.field_tokens.specs.declared.TokenKind.TheVariants.{Atom}
use Rattle.field_tokens.specs.Tokens.{TokenValue, HasTokenValues}
use Rattle.field_tokens.specs.Squeezed.{words_of}
use Rattle.field_tokens.specs.Comments.{CommentValue}
use Rattle.param_grammar.specs.declared.ParamKind.TheVariants.{Content}
use Rattle.param_grammar.specs.Joining.{ParamValue, SaysParams}
use Rattle.mime_tree.specs.declared.openings.Opening.{Opening}
use Rattle.mime_tree.specs.declared.openings.Opening.TheVariants.{Nothing, Message, Parts}

-- An ASCII letter.
abbrev pub is_letter : ℕ → Bool
is_letter x = (nat_le 65 x && nat_le x 90) || (nat_le 97 x && nat_le x 122)

-- a digit or one of '()+,-./:
abbrev pub is_digit_or_sign : ℕ → Bool
is_digit_or_sign x = (nat_le 39 x && nat_le x 41) || (nat_le 43 x && nat_le x 58)

-- a space or one of =?_
abbrev pub is_other_sign : ℕ → Bool
is_other_sign x = (x == space || x == equals_sign) || (x == question_mark || x == underscore)

-- An octet that may stand in a boundary: bchars (RFC 2046, 5.1.1).
abbrev pub is_boundary_octet : ℕ → Bool
is_boundary_octet x = is_letter x || is_digit_or_sign x || is_other_sign x

-- 1 to 70 of these octets, the last of them no space
unfoldable pub is_usable : List ℕ → Bool
is_usable boundary = nat_le 1 (length boundary) && (nat_le (length boundary) 70 && (list_all is_boundary_octet boundary && not (slice_index boundary (length boundary - 1) == space)))

-- A message inside another one: message/rfc822 (RFC 2046, 5.2.1) or message/global (RFC 6532, 3.7).
abbrev pub is_message_type : List ℕ → Bool
is_message_type main = bytes_eq main (codes "message/rfc822") || bytes_eq main (codes "message/global")

-- One of the types multipart (RFC 2046, 5.1).
abbrev pub is_multipart_type : List ℕ → Bool
is_multipart_type main = starts_with nat_eq main (codes "multipart/")

-- multipart/digest, whose parts are messages unless they say otherwise (RFC 2046, 5.1.5).
abbrev pub is_digest_type : List ℕ → Bool
is_digest_type main = bytes_eq main (codes "multipart/digest")

-- what the first parameter `boundary` says
unfoldable pub boundary_in : List ParamValue → Option UnitValue
boundary_in [] = None
boundary_in (param ∷ params) = if bytes_eq param.name (codes "boundary") then Some param.unit else boundary_in params

-- a text that may be used as a boundary
abbrev pub usable_of : Option UnitValue → Option (List ℕ)
usable_of None = None
usable_of (Some (Text text)) = if is_usable text then Some text else None
usable_of (Some (Opaque charset octets source)) = None

-- The parts that this boundary divides, or nothing without a boundary.
abbrev pub divided : Option (List ℕ) → Bool → Opening
divided None digest = Nothing
divided (Some boundary) digest = Parts boundary digest

-- the opening of an entity with this main part, in lower case, and these parameters
abbrev pub opening_said : List ℕ → List ParamValue → Opening
opening_said main params =
    if is_message_type main then Message
    else (if is_multipart_type main then divided (usable_of (boundary_in params)) (is_digest_type main) else Nothing)

-- the text is no Content-Type
abbrev pub IsNoContentType : List ℕ → Type 0
IsNoContentType text = (main : List ℕ) (params : List ParamValue) (comments : List CommentValue) → ¬ SaysParams Content text main params comments

-- Of an entity whose Content-Type is this text: a malformed one says that it is text.
abbrev pub OpensByText : List ℕ → Opening → Type 0
OpensByText text opening =
    ((main : List ℕ) × (params : List ParamValue) × (comments : List CommentValue) × SaysParams Content text main params comments × (opening ≡ opening_said main params))
    ⊎ (IsNoContentType text × (opening ≡ Nothing))

-- without a Content-Type an entity is text, and inside a digest a message
abbrev pub opening_by_default : Bool → Opening
opening_by_default digest = if digest then Message else Nothing

-- An entity is opened as the value of its Content-Type says, or as text or a message where there is none (RFC 2045, 5.2; RFC 2046, 5.1.5).
abbrev pub OpensByType : Bool → Option (List ℕ) → Opening → Type 0
OpensByType digest None opening = opening ≡ opening_by_default digest
OpensByType digest (Some text) opening = OpensByText text opening

-- an encoding of this name leaves the octets as they are
abbrev pub is_identity_name : List ℕ → Bool
is_identity_name name = same_name name (codes "7bit") || same_name name (codes "8bit") || same_name name (codes "binary")

-- the text is one atom, with gaps and comments around it, that names such an encoding
pub record KeepsOctets (text : List ℕ) : Type 0 where
  pub tokens : List TokenValue
  pub has : HasTokenValues Mime text tokens
  pub atom : TokenValue
  pub words : words_of tokens ≡ atom ∷ []
  pub kind : atom.kind ≡ Atom
  pub named : is_identity_name atom.octets ≡ true

-- no encoding leaves the octets as they are, too
abbrev pub IsIdentity : Option (List ℕ) → Type 0
IsIdentity None = ⊤
IsIdentity (Some text) = KeepsOctets text

-- the body has the value, where the field is the one that is asked for, or else the further fields have it
abbrev pub IsValueWhere : Bool → List ℕ → (Option (List ℕ) → Type 0) → Option (List ℕ) → Type 0
IsValueWhere true body IsLater value = (text : List ℕ) × HasValue body text × (value ≡ Some text)
IsValueWhere false body IsLater value = IsLater value

-- the value of the first of these raw fields that has this name, where one has it
abbrev pub IsFirstValue : List ℕ → List (List ℕ) → Option (List ℕ) → Type 0
IsFirstValue name [] value = value ≡ None
IsFirstValue name (raw ∷ raws) value = (f : FieldParts) × HasParts raw f × IsValueWhere (same_name f.name name) f.body (IsFirstValue name raws) value

-- the first Content-Type field decides
abbrev pub OpensByFields : Bool → List (List ℕ) → Opening → Type 0
OpensByFields digest raws opening = (text : Option (List ℕ)) × IsFirstValue (codes "Content-Type") raws text × OpensByType digest text opening

-- An entity with these raw fields, in a digest or not, is opened so.
pub record Opens (digest : Bool) (raws : List (List ℕ)) (opening : Opening) : Type 0 where
  pub encoding : Option (List ℕ)
  pub is_encoding : IsFirstValue (codes "Content-Transfer-Encoding") raws encoding
  pub opened : (IsIdentity encoding × OpensByFields digest raws opening) ⊎ ((¬ IsIdentity encoding) × (opening ≡ Nothing))

-- the raw octets of each field stand in the octets and are a field
abbrev pub AreFieldsWithin : List ℕ → List Field → Type 0
AreFieldsWithin octets fields = All (λ field. (field.raw.at + field.raw.len ≤ length octets) × IsField (raw_of octets field)) fields

-- the fields stand one after another between these places
abbrev pub AreFieldsJoined : ℕ → List Field → ℕ → Type 0
AreFieldsJoined at [] end = at ≡ end
AreFieldsJoined at (field ∷ fields) end = (field.raw.at ≡ at) × AreFieldsJoined (at + field.raw.len) fields end

-- a whole field line that says nothing of how an entity is opened
pub record IsOtherField (raw : List ℕ) : Type 0 where
  pub f : FieldParts
  pub is_field : HasParts raw f
  pub ending : f.ending ≡ crlf
  pub no_nul : (place : ℕ) → ¬ IsNul raw place
  pub no_type : same_name f.name (codes "Content-Type") ≡ false
  pub no_encoding : same_name f.name (codes "Content-Transfer-Encoding") ≡ false
