-- The two forms of an internationalized address in a report (RFC 6533, 3): utf-8-addr-xtext, which is ASCII, and
-- utf-8-addr-unitext.
use Rattle.std.specs.Prelude.{ℕ, ◌+◌, ◌/◌, ◌%◌, ◌==◌, nat_lt, Bool, ◌&&◌, ◌||◌, not, if◌then◌else◌, List, [], ◌∷◌, ◌++◌, codes, chars, encode_utf8}
use Rattle.std.specs.List.{flat_map}
use Rattle.mail_wire.specs.Characters.{plus, equals_sign, backslash, right_brace}

-- an upper-case hexadecimal digit
abbrev pub upper_digit : ℕ → ℕ
upper_digit d = if nat_lt d 10 then 48 + d else 55 + d

-- the digit of a number at the place of this weight
abbrev pub digit_at : ℕ → ℕ → ℕ
digit_at weight number = upper_digit (number / weight % 16)

-- that digit where it is no leading zero
abbrev pub leading_digit : ℕ → ℕ → List ℕ
leading_digit weight number = if nat_lt number weight then [] else digit_at weight number ∷ []

-- the number of a character in hexadecimal, with two digits and those further ones that are no leading zeros
unfoldable pub hexadecimal : ℕ → List ℕ
hexadecimal number = leading_digit 0x10_0000 number ++ leading_digit 0x1_0000 number ++ leading_digit 0x1000 number
    ++ leading_digit 0x100 number ++ digit_at 0x10 number ∷ digit_at 1 number ∷ []

-- a character by its number: `\x{..}` (RFC 6533, 3, EmbeddedUnicodeChar)
abbrev pub escape_of : ℕ → List ℕ
escape_of character = codes "\\x{" ++ (hexadecimal character ++ right_brace ∷ [])

-- a character that stands for itself in both forms: a visible ASCII one but `+`, `=` and the backslash (RFC 6533, 3, QCHAR)
abbrev pub is_plain : ℕ → Bool
is_plain c = (nat_lt 32 c && nat_lt c 127) && not (c == plus || c == equals_sign || c == backslash)

-- A character as utf-8-addr-xtext: as it is where it is plain, and else escaped (RFC 6533, 3).
abbrev pub xtext_char : ℕ → List ℕ
xtext_char c = if is_plain c then encode_utf8 c else escape_of c

-- A character as utf-8-addr-unitext: as it is where it is plain or above 127, and else escaped (RFC 6533, 3).
abbrev pub unitext_char : ℕ → List ℕ
unitext_char c = if is_plain c || nat_lt 127 c then encode_utf8 c else escape_of c

-- An address as utf-8-addr-xtext, which is ASCII (RFC 6533, 3).
abbrev pub xtext_form : List ℕ → List ℕ
xtext_form address = flat_map xtext_char (chars address)

-- An address as utf-8-addr-unitext, in which characters above 127 stand for themselves (RFC 6533, 3).
abbrev pub unitext_form : List ℕ → List ℕ
unitext_form address = flat_map unitext_char (chars address)
