-- The encoded words of a text (RFC 2047, 2, 4 and 5): each holds whole characters, as many as fit, and is written in the
-- shorter of both encodings.
use Rattle.std.specs.Prelude.{◌≡◌, ℕ, ◌+◌, ◌/◌, ◌%◌, ◌<◌, ◌≤◌, ◌==◌, nat_lt, Bool, ◌||◌, if◌then◌else◌, List, [], ◌∷◌, ◌++◌, length, map, codes}
use Rattle.std.specs.List.{concat, flat_map, join_with_byte, list_any}
use Rattle.std.specs.Char.{is_ascii_alphanumeric}
use Rattle.std.specs.Str.{IsAscii, IsCharBoundary}
use Rattle.mail_wire.specs.Characters.{space}
use Rattle.encoded_words.specs.Words.{QItem, Space, Escape, Plain, q_spelling}
use Rattle.encoded_words.specs.Units.{HasUnits, with_text}
use Rattle.base64.specs.Engines.{standard}
use Rattle.base64.specs.GeneralPurpose.{encode_of}

-- an octet that stands for itself in a Q text wherever a word may be (RFC 2047, 5, rule 3)
abbrev pub is_safe_octet : ℕ → Bool
is_safe_octet b = is_ascii_alphanumeric b || list_any (λ s. b == s) (codes "!*+-/")

-- the octet of a hexadecimal digit in upper case: `0` to `9`, then `A` to `F` (RFC 2047, 4.2, rule 1)
abbrev pub hex_digit : ℕ → ℕ
hex_digit value = if nat_lt value 10 then 48 + value else 55 + value

-- how a Q text has an octet: a space as `_`, one that is safe as itself, every other by its two digits (RFC 2047, 4.2)
abbrev pub q_item : ℕ → QItem
q_item b = if b == space then Space else (if is_safe_octet b then Plain b else Escape (hex_digit (b / 16)) (hex_digit (b % 16)))

-- the Q text of octets
abbrev pub q_text : List ℕ → List ℕ
q_text octets = flat_map (λ b. q_spelling (q_item b)) octets

-- `=?UTF-8?B?`, padded base64, `?=`
unfoldable pub b_word : List ℕ → List ℕ
b_word octets = codes "=?UTF-8?B?" ++ (encode_of standard octets ++ codes "?=")

-- `=?UTF-8?Q?`, the Q text, `?=`
unfoldable pub q_word : List ℕ → List ℕ
q_word octets = codes "=?UTF-8?Q?" ++ (q_text octets ++ codes "?=")

-- the word that octets are written as: their Q word, unless their B word is shorter
unfoldable pub written_word : List ℕ → List ℕ
written_word octets = if nat_lt (length (b_word octets)) (length (q_word octets)) then b_word octets else q_word octets

-- Before rest, this chunk is the most whole characters of the text chunk ++ rest that fit 45 octets. (Their B word has at
-- most 72 octets.)
pub record IsChunk (chunk rest : List ℕ) : Type 0 where
  pub some : 0 < length chunk
  pub fits : length chunk ≤ 45
  pub cut : IsCharBoundary (chunk ++ rest) (length chunk)
  pub most : (i : ℕ) → length chunk < i → i ≤ 45 → ¬ (IsCharBoundary (chunk ++ rest) i)

-- each chunk is one before those that follow it, and rest
abbrev pub AreChunks : List (List ℕ) → List ℕ → Type 0
AreChunks [] rest = Unit {0}
AreChunks (chunk ∷ chunks) rest = IsChunk chunk (concat chunks ++ rest) × AreChunks chunks rest

-- the first words of a text, and the octets of the text after them
pub record AreFirstWords (text : List ℕ) (words : List (List ℕ)) (rest : List ℕ) : Type 0 where
  pub chunks : List (List ℕ)
  pub are_chunks : AreChunks chunks rest
  pub whole : text ≡ concat chunks ++ rest
  pub spelled : words ≡ map written_word chunks

-- all words of a text
abbrev pub AreWordsOf : List ℕ → List (List ℕ) → Type 0
AreWordsOf text words = AreFirstWords text words []

-- new is old and the first words of a text, and rest is the octets of the text after them
pub record AddsWords (text : List ℕ) (old new : List (List ℕ)) (rest : List ℕ) : Type 0 where
  pub words : List (List ℕ)
  pub are_words : AreFirstWords text words rest
  pub added : new ≡ old ++ words

-- each word has at most 75 octets, all ASCII
abbrev pub AreShort : List (List ℕ) → Type 0
AreShort [] = Unit {0}
AreShort (word ∷ words) = (length word ≤ 75) × IsAscii word × AreShort words

-- the words, with a space between two, are short, and their units are the one text
pub record ReadBack (text : List ℕ) (words : List (List ℕ)) : Type 0 where
  pub short : AreShort words
  pub units : HasUnits (join_with_byte space words) (with_text text [])
