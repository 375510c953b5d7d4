-- The octets of extended values (RFC 2231, 4 and 7).
use Rattle.std.specs.Prelude.{◌≡◌, ◌≢◌, ℕ, ◌+◌, ◌*◌, ◌<◌, ◌==◌, Bool, ◌||◌, if◌then◌else◌, nat_lt, List, [], ◌∷◌, ◌++◌, map, codes}
use Rattle.std.specs.List.{AllByRecursion, flat_map, list_any}
use Rattle.std.specs.Char.{digit_value}
use Rattle.mail_wire.specs.Characters.{percent}
use Rattle.percent_encoding.specs.Percent.{percent_encode_byte}

-- an octet by itself, or as `%` and its two hexadecimal digits
pub data EscapedItem : Type 0 where
  Plain : ℕ → EscapedItem
  Escape : ℕ → ℕ → EscapedItem

-- An octet other than `%`, or two hexadecimal digits (RFC 2231, 7).
abbrev pub IsEscapedItem : EscapedItem → Type 0
IsEscapedItem (Plain x) = x ≢ percent
IsEscapedItem (Escape high low) = (digit_value high < 16) × (digit_value low < 16)

-- An octet by itself, or `%` and its two digits (RFC 2231, 7).
abbrev pub item_spelling : EscapedItem → List ℕ
item_spelling (Plain x) = x ∷ []
item_spelling (Escape high low) = percent ∷ high ∷ low ∷ []

-- The octet that is spelled (RFC 2231, 7).
abbrev pub item_octet : EscapedItem → ℕ
item_octet (Plain x) = x
item_octet (Escape high low) = 16 * digit_value high + digit_value low

-- the text spells these octets
pub record IsEscaped (text octets : List ℕ) : Type 0 where
  pub items : List EscapedItem
  pub are_items : AllByRecursion IsEscapedItem items
  pub spelled : text ≡ flat_map item_spelling items
  pub octets_are : octets ≡ map item_octet items

-- a text begins with the spelling of this octet, and rest follows
pub record BeginsEscaped (text : List ℕ) (octet : ℕ) (rest : List ℕ) : Type 0 where
  pub item : EscapedItem
  pub is_item : IsEscapedItem item
  pub spelled : text ≡ item_spelling item ++ rest
  pub octet_is : octet ≡ item_octet item

-- a letter or a decimal digit
abbrev pub is_letter_or_digit : ℕ → Bool
is_letter_or_digit x = nat_lt (digit_value x) 36

-- an octet that is written as it is (RFC 2231, 7, attribute-char)
abbrev pub is_attribute_octet : ℕ → Bool
is_attribute_octet x = is_letter_or_digit x || list_any (λ s. x == s) (codes "!#$&+-.^_`{|}~")

-- every other octet is written as `%` and two upper-case digits
abbrev pub escaped_octet : ℕ → List ℕ
escaped_octet x = if is_attribute_octet x then x ∷ [] else percent_encode_byte x

-- Octets as an extended value spells them (RFC 2231, 7).
abbrev pub escaped : List ℕ → List ℕ
escaped octets = flat_map escaped_octet octets
