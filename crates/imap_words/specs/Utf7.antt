-- Mailbox names in modified UTF-7 (RFC 3501, 5.1.3; RFC 2152; RFC 2781, 2.1).
use Rattle.std.specs.Prelude.{◌≡◌, ℕ, ◌/◌, ◌%◌, ◌==◌, nat_le, Bool, true, false, not, ◌&&◌, List, [], ◌∷◌, ◌++◌, length, ◌<◌, ◌⊎◌, codes, if◌then◌else◌}
use Rattle.std.specs.List.{flat_map, list_all}
use Rattle.std.specs.Char.Escape.{encode_utf16}
use Rattle.std.specs.Str.{chars, encode_utf8_all, all_scalars}
use Rattle.mail_wire.specs.Characters.{ampersand, dash, equals_sign}
use Rattle.base64.specs.Rfc4648.{encode}

-- printable US-ASCII characters, octets 0x20 to 0x7e
abbrev pub is_printable : ℕ → Bool
is_printable c = nat_le 32 c && nat_le c 126

-- a unit of UTF-16, the more significant octet first
abbrev pub unit_octets : ℕ → List ℕ
unit_octets unit = unit / 256 ∷ unit % 256 ∷ []

-- The octets of a character in UTF-16 (RFC 2781, 2.1).
abbrev pub char_octets : ℕ → List ℕ
char_octets c = flat_map unit_octets (encode_utf16 c)

-- the octets of characters in UTF-16
abbrev pub utf16_octets : List ℕ → List ℕ
utf16_octets run = flat_map char_octets run

-- modified BASE64: "," in place of "/", and without padding
abbrev pub modified_base64 : List ℕ → List ℕ
modified_base64 octets = encode (codes "ABCDEFGHIJKLMNOPQRSTUVWXYZabcdefghijklmnopqrstuvwxyz0123456789+,") equals_sign false octets

-- octets of UTF-16 between "&" and "-"; none are written as nothing
abbrev pub shifted : List ℕ → List ℕ
shifted [] = []
shifted (x ∷ octets) = ampersand ∷ (modified_base64 (x ∷ octets) ++ dash ∷ [])

-- "&" is represented by "&-", and every other printable character by itself
abbrev pub unshifted : ℕ → List ℕ
unshifted c = if c == ampersand then ampersand ∷ dash ∷ [] else c ∷ []

-- Characters that aren't printable are shifted, in runs as long as can be. The octets of some stand before the others.
abbrev pub written_after : (octets : List ℕ) → List ℕ → List ℕ
written_after octets [] = shifted octets
written_after octets (c ∷ cs) =
    if is_printable c then shifted octets ++ (unshifted c ++ written_after [] cs) else written_after (octets ++ char_octets c) cs

-- a name in modified UTF-7
abbrev pub modified_utf7 : List ℕ → List ℕ
modified_utf7 name = written_after [] (chars name)

-- ---- words of the reader's own contracts

-- Each of the numbers is a character of Unicode.
abbrev pub AreScalars : List ℕ → Type 0
AreScalars cs = all_scalars cs ≡ true

-- The characters in UTF-8.
abbrev pub encoded : List ℕ → List ℕ
encoded cs = encode_utf8_all cs

-- Any octet but `-`, which ends a shift (RFC 3501, 5.1.3).
abbrev pub is_no_dash : ℕ → Bool
is_no_dash x = not (x == dash)

-- what stands between "&" and "-", and for which characters
abbrev pub IsShift : List ℕ → List ℕ → Type 0
IsShift symbols cs = ((symbols ≡ []) × (cs ≡ ampersand ∷ [])) ⊎ ((0 < length symbols) × AreScalars cs × (symbols ≡ modified_base64 (utf16_octets cs)))

-- No `-` stands in the text.
abbrev pub has_no_dash : List ℕ → Bool
has_no_dash text = list_all is_no_dash text
