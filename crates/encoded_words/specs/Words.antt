-- Encoded words (RFC 2047, 2 to 4): what they look like, and what they say.
use Rattle.std.specs.Prelude.{◌≡◌, ◌≢◌, ℕ, ◌+◌, ◌*◌, ◌<◌, ◌≤◌, ◌==◌, nat_lt, Bool, true, false, ◌&&◌, ◌||◌, not, if◌then◌else◌, ◌⊎◌, List, [], ◌∷◌, ◌++◌, length, map, codes, Option, Some, None, IfSome}
use Rattle.std.specs.List.{AllByRecursion, flat_map, list_all, list_any}
use Rattle.std.specs.Char.{digit_value, to_ascii_uppercase}
use Rattle.std.specs.Str.{bytes_eq, is_utf8, str_to_ascii_lowercase}
use Rattle.mail_wire.specs.Characters.{space, asterisk, equals_sign, question_mark, underscore}
use Rattle.base64.specs.Engines.{standard}
use Rattle.base64.specs.GeneralPurpose.{IsBytes, encode_of}

-- an octet from 33 to 126
abbrev pub is_visible : ℕ → Bool
is_visible b = nat_lt 32 b && nat_lt b 127

-- an octet of a charset or of a language (RFC 2047, 2, token; RFC 2231, 5)
abbrev pub is_token_octet : ℕ → Bool
is_token_octet b = is_visible b && not (list_any (λ s. b == s) (codes "()<>@,;:\\\"/[]?.=*"))

-- an octet of a word's text: any visible one but the question mark (RFC 2047, 2, encoded-text)
abbrev pub is_text_octet : ℕ → Bool
is_text_octet b = is_visible b && not (b == question_mark)

-- a charset, or a language
abbrev pub IsName : List ℕ → Type 0
IsName xs = (0 < length xs) × (list_all is_token_octet xs ≡ true)

-- the text of an encoded word
abbrev pub IsWordText : List ℕ → Type 0
IsWordText xs = (0 < length xs) × (list_all is_text_octet xs ≡ true)

-- a text is padded base64, its unused bits zero, of these octets (RFC 2047, 4.1)
abbrev pub IsBText : List ℕ → List ℕ → Type 0
IsBText text octets = IsBytes octets × (text ≡ encode_of standard octets)

-- how a Q text spells one octet (RFC 2047, 4.2): a space, an octet by its two digits, an octet by itself
pub data QItem : Type 0 where
  Space : QItem
  Escape : ℕ → ℕ → QItem
  Plain : ℕ → QItem

-- A space, an octet by its two hexadecimal digits, or an octet by itself that is neither `=` nor `_` (RFC 2047, 4.2).
abbrev pub IsQItem : QItem → Type 0
IsQItem Space = Unit {0}
IsQItem (Escape high low) = (digit_value high < 16) × (digit_value low < 16)
IsQItem (Plain b) = (b ≢ equals_sign) × (b ≢ underscore)

-- How a Q text spells it: `_` for a space, `=` and two digits, or the octet itself (RFC 2047, 4.2).
abbrev pub q_spelling : QItem → List ℕ
q_spelling Space = underscore ∷ []
q_spelling (Escape high low) = equals_sign ∷ high ∷ low ∷ []
q_spelling (Plain b) = b ∷ []

-- The octet that is spelled (RFC 2047, 4.2).
abbrev pub q_octet : QItem → ℕ
q_octet Space = space
q_octet (Escape high low) = 16 * digit_value high + digit_value low
q_octet (Plain b) = b

-- a text begins with the spelling of this octet, and rest follows
pub record BeginsQ (text : List ℕ) (octet : ℕ) (rest : List ℕ) : Type 0 where
  pub item : QItem
  pub is_item : IsQItem item
  pub spelled : text ≡ q_spelling item ++ rest
  pub octet_is : octet ≡ q_octet item

-- a text is the Q text of these octets
abbrev pub IsQText : List ℕ → List ℕ → Type 0
IsQText text octets = (items : List QItem) × AllByRecursion IsQItem items
    × (text ≡ flat_map q_spelling items) × (octets ≡ map q_octet items)

-- the letter, in either case, says how the text spells the octets
abbrev pub IsTextOf : ℕ → List ℕ → List ℕ → Type 0
IsTextOf letter text octets = ((to_ascii_uppercase letter ≡ 66) × IsBText text octets)
    ⊎ ((to_ascii_uppercase letter ≡ 81) × IsQText text octets)

-- the parts of an encoded word
pub record WordParts : Type 0 where
  pub charset : List ℕ
  pub language : Option (List ℕ)
  pub letter : ℕ
  pub text : List ℕ

-- A star and the language after a charset's name, where there is a language (RFC 2231, 5).
abbrev pub language_suffix : Option (List ℕ) → List ℕ
language_suffix None = []
language_suffix (Some language) = asterisk ∷ language

-- `=?charset*language?letter?text?=` (RFC 2047, 2; RFC 2231, 5)
abbrev pub word_of : WordParts → List ℕ
word_of p = equals_sign ∷ question_mark
    ∷ (p.charset ++ (language_suffix p.language ++ question_mark ∷ p.letter ∷ question_mark ∷ (p.text ++ question_mark ∷ equals_sign ∷ [])))

-- the word has these parts, and at most 75 octets (RFC 2047, 2)
pub record HasWordParts (word : List ℕ) (p : WordParts) : Type 0 where
  pub spelled : word ≡ word_of p
  pub charset : IsName p.charset
  pub language : IfSome p.language IsName
  pub text : IsWordText p.text
  pub short : length word ≤ 75

-- what a unit says: a text, or octets of a charset that is not read, with the encoded word that they come from
pub data UnitValue : Type 0 where
  Text : List ℕ → UnitValue
  Opaque : List ℕ → List ℕ → List ℕ → UnitValue

-- the charset, in any case, names these octets as text
abbrev pub gives_text : List ℕ → List ℕ → Bool
gives_text name octets = (bytes_eq name (codes "utf-8") && is_utf8 octets)
    || (bytes_eq name (codes "us-ascii") && list_all (λ b. nat_lt b 128) octets)

-- What an encoded word of this charset says with these octets: text where they are UTF-8 or ASCII as it says, and else the word as it stands.
unfoldable pub unit_of : List ℕ → List ℕ → List ℕ → UnitValue
unit_of charset octets word = let name = str_to_ascii_lowercase charset in
    if gives_text name octets then Text octets else Opaque name octets word

-- the octets are an encoded word, and this is what it says
pub record IsEncodedWord (word : List ℕ) (unit : UnitValue) : Type 0 where
  pub parts : WordParts
  pub octets : List ℕ
  pub has_parts : HasWordParts word parts
  pub spells : IsTextOf parts.letter parts.text octets
  pub says : unit ≡ unit_of parts.charset octets word

-- what a word says as an encoded word, or nothing where it is none
abbrev pub Says : List ℕ → Option UnitValue → Type 0
Says word (Some unit) = IsEncodedWord word unit
Says word None = (unit : UnitValue) → ¬ IsEncodedWord word unit

-- What a word says as an encoded word, where it stands in a place that allows one.
abbrev pub SaysWhere : Bool → List ℕ → Option UnitValue → Type 0
SaysWhere true word says = Says word says
SaysWhere false word says = says ≡ None
