-- The smallest productions (RFC 3501, 9; RFC 5234, B.1).
use Rattle.std.specs.Prelude.{◌≡◌, ℕ, ◌<◌, ◌-◌, ◌+◌, ◌*◌, ◌^◌, ◌==◌, nat_lt, Bool, true, not, ◌&&◌, ◌||◌, List, [], ◌∷◌, length}
use Rattle.std.specs.List.{list_all}
use Rattle.mail_wire.specs.Characters.{line_feed, carriage_return, space, quote, percent, left_parenthesis, right_parenthesis, asterisk, plus, digit_zero, colon, backslash, right_bracket, left_brace, delete}
use Rattle.imap_words.specs.Languages.{After, IsOctet}
use Rattle.imap_words.specs.declared.tokens.Kind.{Kind}
use Rattle.imap_words.specs.declared.tokens.Kind.TheVariants as kind

-- SP, a space (RFC 5234, B.1).
abbrev pub IsSpace : List ℕ → ℕ → Type 0
IsSpace = IsOctet space

-- DQUOTE, a double quote (RFC 5234, B.1).
abbrev pub IsDoubleQuote : List ℕ → ℕ → Type 0
IsDoubleQuote = IsOctet quote

-- An opening parenthesis.
abbrev pub IsOpenParenthesis : List ℕ → ℕ → Type 0
IsOpenParenthesis = IsOctet left_parenthesis

-- A closing parenthesis.
abbrev pub IsCloseParenthesis : List ℕ → ℕ → Type 0
IsCloseParenthesis = IsOctet right_parenthesis

-- CRLF = CR LF
abbrev pub IsCrlf : List ℕ → ℕ → Type 0
IsCrlf = After (IsOctet carriage_return) (IsOctet line_feed)

-- ---- kinds of octets

-- list-wildcards = "%" / "*"
abbrev pub is_list_wildcard : ℕ → Bool
is_list_wildcard x = x == percent || x == asterisk

-- quoted-specials = DQUOTE / "\"
abbrev pub is_quoted_special : ℕ → Bool
is_quoted_special x = x == quote || x == backslash

-- resp-specials = "]"
abbrev pub is_resp_special : ℕ → Bool
is_resp_special x = x == right_bracket

-- CTL = %x00-1F / %x7F
abbrev pub is_control : ℕ → Bool
is_control x = nat_lt x 32 || x == delete

-- CHAR = %x01-7F
abbrev pub is_char : ℕ → Bool
is_char x = nat_lt 0 x && nat_lt x 128

-- atom-specials = "(" / ")" / "{" / SP / CTL / list-wildcards / quoted-specials / resp-specials
abbrev pub is_atom_special : ℕ → Bool
is_atom_special x = x == left_parenthesis || x == right_parenthesis || x == left_brace || x == space || is_control x || is_list_wildcard x || is_quoted_special x || is_resp_special x

-- ATOM-CHAR = <any CHAR except atom-specials>
unfoldable pub is_atom_char : ℕ → Bool
is_atom_char x = is_char x && not (is_atom_special x)

-- ASTRING-CHAR = ATOM-CHAR / resp-specials
unfoldable pub is_astring_char : ℕ → Bool
is_astring_char x = is_atom_char x || is_resp_special x

-- QUOTED-CHAR's <any TEXT-CHAR except quoted-specials>; TEXT-CHAR = <any CHAR except CR and LF>
unfoldable pub is_quoted_text : ℕ → Bool
is_quoted_text x = is_char x && not (x == carriage_return || x == line_feed) && not (is_quoted_special x)

-- list-char = ATOM-CHAR / list-wildcards / resp-specials
unfoldable pub is_list_char : ℕ → Bool
is_list_char x = is_atom_char x || is_list_wildcard x || is_resp_special x

-- <any ASTRING-CHAR except "+">
unfoldable pub is_tag_char : ℕ → Bool
is_tag_char x = is_astring_char x && not (x == plus)

-- what octets a field's name has (RFC 5322, 2.2: from 33 to 126 but the colon)
unfoldable pub is_name_char : ℕ → Bool
is_name_char x = nat_lt 32 x && nat_lt x 127 && not (x == colon)

-- ---- runs of octets

-- which octets a run of a kind has
abbrev pub passes : Kind → ℕ → Bool
passes kind.Atom = is_atom_char
passes kind.Astring = is_astring_char
passes kind.ListMailbox = is_list_char
passes kind.Tag = is_tag_char
passes kind.FieldName = is_name_char
passes kind.NameAstring = λ x. is_astring_char x && is_name_char x

-- `1*p`
pub record IsRunOf (p : ℕ → Bool) (octets value : List ℕ) : Type 0 where
  pub some : 0 < length octets
  pub passes : list_all p octets ≡ true
  pub value_is : value ≡ octets

-- atom = 1*ATOM-CHAR
abbrev pub IsImapAtom : List ℕ → List ℕ → Type 0
IsImapAtom = IsRunOf is_atom_char

-- tag = 1*<any ASTRING-CHAR except "+">
abbrev pub IsTag : List ℕ → List ℕ → Type 0
IsTag = IsRunOf is_tag_char

-- ---- numbers

-- DIGIT, 0 to 9 (RFC 5234, B.1).
unfoldable pub is_digit : ℕ → Bool
is_digit x = nat_lt 47 x && nat_lt x 58

-- what digits say after this number
abbrev pub decimal_from : ℕ → List ℕ → ℕ
decimal_from n [] = n
decimal_from n (x ∷ xs) = decimal_from (n * 10 + (x - 48)) xs

-- number = 1*DIGIT ; Unsigned 32-bit integer (0 <= n < 4,294,967,296)
pub record IsNumber32 (octets : List ℕ) (value : ℕ) : Type 0 where
  pub some : 0 < length octets
  pub digits : list_all is_digit octets ≡ true
  pub value_is : value ≡ decimal_from 0 octets
  pub bound : value < 2 ^ 32

-- The octets begin with the digit 0.
abbrev pub BeginsZero : List ℕ → Type 0
BeginsZero [] = ⊥
BeginsZero (x ∷ xs) = x ≡ digit_zero

-- nz-number = digit-nz *DIGIT ; Non-zero unsigned 32-bit integer (0 < n < 4,294,967,296)
pub record IsNonZero (octets : List ℕ) (value : ℕ) : Type 0 where
  pub is_number : IsNumber32 octets value
  pub begins : BeginsZero octets → ⊥
