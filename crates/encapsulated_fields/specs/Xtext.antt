-- How an address form is read (RFC 6533, 3): every character but the backslash is itself, also one that a writer has to
-- escape, and an escape names a character by two to six hexadecimal digits.
use Rattle.std.specs.Prelude.{◌≡◌, ◌≢◌, ℕ, ◌+◌, ◌*◌, ◌≤◌, nat_lt, Bool, true, List, [], ◌∷◌, ◌++◌, length, map, codes, encode_utf8, encode_utf8_all}
use Rattle.std.specs.List.{AllByRecursion, flat_map, list_all}
use Rattle.std.specs.Char.{IsScalar, digit_value}
use Rattle.mail_wire.specs.Characters.{backslash, right_brace}

-- a hexadecimal digit, in either case
abbrev pub is_hex_digit : ℕ → Bool
is_hex_digit x = nat_lt (digit_value x) 16

-- the number that digits go on to, after those of this number
abbrev pub hex_onward : ℕ → List ℕ → ℕ
hex_onward number [] = number
hex_onward number (digit ∷ digits) = hex_onward (16 * number + digit_value digit) digits

-- The number that hexadecimal digits write.
abbrev pub hex_value : List ℕ → ℕ
hex_value digits = hex_onward 0 digits

-- the digits of an escape: they name a character, which is a Unicode scalar value
pub record AreDigits (digits : List ℕ) : Type 0 where
  pub least : 2 ≤ length digits
  pub most : length digits ≤ 6
  pub hex : list_all is_hex_digit digits ≡ true
  pub scalar : IsScalar (hex_value digits)

-- a character by itself, or an escape by its digits
pub data XtextItem : Type 0 where
  Plain : ℕ → XtextItem
  Escape : List ℕ → XtextItem

-- A character other than the backslash, or an escape whose digits may stand in one (RFC 6533, 3).
abbrev pub IsXtextItem : XtextItem → Type 0
IsXtextItem (Plain character) = IsScalar character × (character ≢ backslash)
IsXtextItem (Escape digits) = AreDigits digits

-- The octets of a character: it in UTF-8, or its digits between `\x{` and `}` (RFC 6533, 3).
abbrev pub item_spelling : XtextItem → List ℕ
item_spelling (Plain character) = encode_utf8 character
item_spelling (Escape digits) = codes "\\x{" ++ (digits ++ right_brace ∷ [])

-- The character that is meant: it, or the one whose number the digits write.
abbrev pub item_character : XtextItem → ℕ
item_character (Plain character) = character
item_character (Escape digits) = hex_value digits

-- the text is read as this address
pub record ReadsAs (text address : List ℕ) : Type 0 where
  pub items : List XtextItem
  pub are_items : AllByRecursion IsXtextItem items
  pub spelled : text ≡ flat_map item_spelling items
  pub address_is : address ≡ encode_utf8_all (map item_character items)

-- a text begins with the spelling of this character, and rest follows
pub record BeginsCharacter (text : List ℕ) (character : ℕ) (rest : List ℕ) : Type 0 where
  pub item : XtextItem
  pub is_item : IsXtextItem item
  pub spelled : text ≡ item_spelling item ++ rest
  pub character_is : character ≡ item_character item

-- what follows a backslash goes on as an escape of this character, and rest follows it
pub record BeginsEscape (text : List ℕ) (character : ℕ) (rest : List ℕ) : Type 0 where
  pub digits : List ℕ
  pub are_digits : AreDigits digits
  pub spelled : text ≡ codes "x{" ++ (digits ++ right_brace ∷ rest)
  pub character_is : character ≡ hex_value digits
