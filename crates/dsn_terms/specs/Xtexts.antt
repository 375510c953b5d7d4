-- xtext: text of which octets that may not stand in a parameter are written by their digits (RFC 3461, 4).
use Rattle.std.specs.Prelude.{◌≡◌, ℕ, ◌<◌, ◌==◌, Bool, true, ◌&&◌, ◌||◌, not, nat_lt, nat_le, if◌then◌else◌, List, [], ◌∷◌, ◌++◌, map}
use Rattle.std.specs.List.{AllByRecursion, flat_map, list_all}
use Rattle.mail_wire.specs.Characters.{plus, equals_sign}
use Rattle.encapsulated_fields.specs.AddressForms.{digit_at}

-- An octet that stands for itself: 33 to 126, but `+` and `=` (RFC 3461, 4, xchar).
abbrev pub is_xchar : ℕ → Bool
is_xchar x = (nat_lt 32 x && nat_lt x 127) && not (x == plus || x == equals_sign)

-- an octet by itself, or one by its digits
pub data XtextUnit : Type 0 where
  Xchar : ℕ → XtextUnit
  Hexchar : ℕ → XtextUnit

-- An octet that stands for itself, or any octet by its digits (RFC 3461, 4).
abbrev pub IsXtextUnit : XtextUnit → Type 0
IsXtextUnit (Xchar x) = is_xchar x ≡ true
IsXtextUnit (Hexchar x) = x < 256

-- How it is spelled: the octet, or `+` and its two digits in upper case (RFC 3461, 4, hexchar).
abbrev pub xtext_spelling : XtextUnit → List ℕ
xtext_spelling (Xchar x) = x ∷ []
xtext_spelling (Hexchar x) = plus ∷ digit_at 16 x ∷ digit_at 1 x ∷ []

-- the octet that is meant
abbrev pub xtext_meaning : XtextUnit → ℕ
xtext_meaning (Xchar x) = x
xtext_meaning (Hexchar x) = x

-- The text is xtext of these octets (RFC 3461, 4).
pub record IsXtext (text octets : List ℕ) : Type 0 where
  pub units : List XtextUnit
  pub are_units : AllByRecursion IsXtextUnit units
  pub spelled : text ≡ flat_map xtext_spelling units
  pub octets_are : octets ≡ map xtext_meaning units

-- An octet of what xtext stands for: a visible ASCII character or a space (RFC 3461, 4.2 and 4.4).
abbrev pub is_printable : ℕ → Bool
is_printable x = nat_le 32 x && nat_le x 126

-- The text is xtext of these octets, and they are printable (RFC 3461, 4.2 and 4.4).
pub record IsPrintableXtext (text octets : List ℕ) : Type 0 where
  pub reads : IsXtext text octets
  pub printable : list_all is_printable octets ≡ true

-- an octet in the shortest xtext
abbrev pub shortest_unit : ℕ → List ℕ
shortest_unit x = if is_xchar x then x ∷ [] else xtext_spelling (Hexchar x)

-- The shortest xtext of octets, of which those are written by their digits that have to be.
abbrev pub shortest_xtext : List ℕ → List ℕ
shortest_xtext octets = flat_map shortest_unit octets

-- a text begins with an octet by itself or by its digits, and rest follows
pub record BeginsUnit (text : List ℕ) (octet : ℕ) (rest : List ℕ) : Type 0 where
  pub unit : XtextUnit
  pub is_unit : IsXtextUnit unit
  pub spelled : text ≡ xtext_spelling unit ++ rest
  pub octet_is : octet ≡ xtext_meaning unit

-- what follows `+` begins with the two digits of an octet, and rest follows
pub record BeginsDigits (text : List ℕ) (octet : ℕ) (rest : List ℕ) : Type 0 where
  pub small : octet < 256
  pub spelled : text ≡ digit_at 16 octet ∷ digit_at 1 octet ∷ rest
