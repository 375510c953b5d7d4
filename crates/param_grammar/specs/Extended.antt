-- Extended values (RFC 2231, 4): charset, language and text.
use Rattle.std.specs.Prelude.{◌≡◌, ℕ, Bool, true, false, ◌&&◌, ◌||◌, if◌then◌else◌, List, [], ◌∷◌, ◌++◌}
use Rattle.std.specs.List.{list_all}
use Rattle.std.specs.Str.{is_utf8, str_to_ascii_lowercase}
use Rattle.mail_wire.specs.Characters.{apostrophe}
use Rattle.encoded_words.specs.Words.{UnitValue, Text, Opaque, gives_text, is_token_octet}
use Rattle.encoded_words.specs.private.Parts.{lacks}

-- The value is a charset, a language and a text, with an apostrophe between two. The charset may be empty, and else is
-- one of RFC 2047. Any octets are a language.
pub record IsExtended (value charset text : List ℕ) : Type 0 where
  pub language : List ℕ
  pub spelled : value ≡ charset ++ apostrophe ∷ (language ++ apostrophe ∷ text)
  pub charset_first : lacks apostrophe charset ≡ true
  pub language_first : lacks apostrophe language ≡ true
  pub charset_is : list_all is_token_octet charset ≡ true

-- There are no octets.
abbrev pub is_nothing : List ℕ → Bool
is_nothing [] = true
is_nothing (x ∷ xs) = false

-- No charset names octets as text where they are UTF-8.
abbrev pub is_text_of : List ℕ → List ℕ → Bool
is_text_of charset octets = (is_nothing charset && is_utf8 octets) || gives_text charset octets

-- what octets of a charset, in any case, say
unfoldable pub unit_of : List ℕ → List ℕ → UnitValue
unit_of charset octets = let name = str_to_ascii_lowercase charset in
    if is_text_of name octets then Text octets else Opaque name octets []
