-- Strings (RFC 3501, 4.3 and 9; RFC 6855, 3; RFC 3629, 4), and names of fields (RFC 5322, 2.2).
use Rattle.std.specs.Prelude.{◌≡◌, ℕ, ◌<◌, ◌==◌, Bool, true, false, List, [], ◌∷◌, ◌++◌, if◌then◌else◌}
use Rattle.std.specs.List.{All, flat_map}
use Rattle.mail_wire.specs.Characters.{quote, backslash, left_brace, right_brace, tilde}
use Rattle.imap_words.specs.Languages.{Then, After, Or, Is, IsOctet, IsBetween, IsCounted}
use Rattle.imap_words.specs.declared.tokens.Kind.{Kind}
use Rattle.imap_words.specs.declared.tokens.Kind.TheVariants.{NameAstring}
use Rattle.imap_words.specs.declared.strings.Head.{Head}
use Rattle.imap_words.specs.declared.strings.Head.TheVariants.{Whole, Literal}
use Rattle.imap_words.specs.Reading.{Reads, never}
use Rattle.imap_words.specs.Tokens.{passes, IsNumber32, IsCrlf, IsRunOf, is_astring_char, is_list_char, is_quoted_special, is_quoted_text, is_name_char}

-- ---- UTF-8

-- UTF8-tail = %x80-BF
abbrev pub IsUtf8Tail : List ℕ → ℕ → Type 0
IsUtf8Tail = IsBetween 128 191

-- UTF8-2 = %xC2-DF UTF8-tail
abbrev pub IsUtf8Two : List ℕ → ℕ → Type 0
IsUtf8Two = After (IsBetween 194 223) IsUtf8Tail

-- UTF8-3 = %xE0 %xA0-BF UTF8-tail / %xE1-EC 2( UTF8-tail ) / %xED %x80-9F UTF8-tail / %xEE-EF 2( UTF8-tail )
abbrev pub IsUtf8Three : List ℕ → ℕ → Type 0
IsUtf8Three =
    Or (After (IsOctet 224) (After (IsBetween 160 191) IsUtf8Tail))
    (Or (After (IsBetween 225 236) (After IsUtf8Tail IsUtf8Tail))
    (Or (After (IsOctet 237) (After (IsBetween 128 159) IsUtf8Tail))
    (After (IsBetween 238 239) (After IsUtf8Tail IsUtf8Tail))))

-- UTF8-4 = %xF0 %x90-BF 2( UTF8-tail ) / %xF1-F3 3( UTF8-tail ) / %xF4 %x80-8F 2( UTF8-tail )
abbrev pub IsUtf8Four : List ℕ → ℕ → Type 0
IsUtf8Four =
    Or (After (IsOctet 240) (After (IsBetween 144 191) (After IsUtf8Tail IsUtf8Tail)))
    (Or (After (IsBetween 241 243) (After IsUtf8Tail (After IsUtf8Tail IsUtf8Tail)))
    (After (IsOctet 244) (After (IsBetween 128 143) (After IsUtf8Tail IsUtf8Tail))))

-- UTF8-2 / UTF8-3 / UTF8-4
abbrev pub IsHighChar : List ℕ → ℕ → Type 0
IsHighChar = Or IsUtf8Two (Or IsUtf8Three IsUtf8Four)

-- The least second octet of a character that begins with this octet (RFC 3629, 4).
abbrev pub least_second : ℕ → ℕ
least_second x = if x == 224 then 160 else if x == 240 then 144 else 128

-- The greatest second octet of a character that begins with this octet (RFC 3629, 4).
abbrev pub greatest_second : ℕ → ℕ
greatest_second x = if x == 237 then 159 else if x == 244 then 143 else 191

-- ---- quoted strings

-- QUOTED-CHAR = <any TEXT-CHAR except quoted-specials> / "\" quoted-specials
-- In a session with UTF8=ACCEPT also UTF8-2 / UTF8-3 / UTF8-4 (RFC 6855, 3).
pub data QuotedChar : Type 0 where
  text : ℕ → QuotedChar
  escaped : ℕ → QuotedChar
  high : List ℕ → QuotedChar

-- QUOTED-CHAR; characters above 127 in a session with UTF8=ACCEPT alone (RFC 3501, 9; RFC 6855, 3).
abbrev pub IsQuotedChar : Bool → QuotedChar → Type 0
IsQuotedChar utf8 (text x) = is_quoted_text x ≡ true
IsQuotedChar utf8 (escaped x) = is_quoted_special x ≡ true
IsQuotedChar utf8 (high octets) = (utf8 ≡ true) × ((x : ℕ) × IsHighChar octets x)

-- The octets of a character in a quoted string, a backslash before it where it is quoted (RFC 3501, 9).
abbrev pub quoted_spelling : QuotedChar → List ℕ
quoted_spelling (text x) = x ∷ []
quoted_spelling (escaped x) = backslash ∷ x ∷ []
quoted_spelling (high octets) = octets

-- The octets that a character of a quoted string means, without a backslash before it.
abbrev pub quoted_octets : QuotedChar → List ℕ
quoted_octets (text x) = x ∷ []
quoted_octets (escaped x) = x ∷ []
quoted_octets (high octets) = octets

-- a quoted-special alone, which stands for itself
pub record IsSpecial (octets value : List ℕ) : Type 0 where
  pub octet : ℕ
  pub is : octets ≡ octet ∷ []
  pub value_is : value ≡ octet ∷ []
  pub special : is_quoted_special octet ≡ true

-- One character of a quoted string, and what it says (RFC 3501, 9).
pub record IsOneQuoted (utf8 : Bool) (octets value : List ℕ) : Type 0 where
  pub item : QuotedChar
  pub is : IsQuotedChar utf8 item
  pub spelled : octets ≡ quoted_spelling item
  pub value_is : value ≡ quoted_octets item

-- a word is read, and what it says is put last
pub record PutsSaid (P : List ℕ → List ℕ → Type 0) (text rest before after : List ℕ) : Type 0 where
  pub said : List ℕ
  pub reads : Reads P never text said rest
  pub put : after ≡ before ++ said

-- quoted = DQUOTE *QUOTED-CHAR DQUOTE
pub record IsQuoted (utf8 : Bool) (octets value : List ℕ) : Type 0 where
  pub items : List QuotedChar
  pub each : All (IsQuotedChar utf8) items
  pub spelled : octets ≡ quote ∷ (flat_map quoted_spelling items ++ quote ∷ [])
  pub value_is : value ≡ flat_map quoted_octets items

-- ---- literals

-- the front of a literal: "{" number "}" CRLF
abbrev pub IsHeader : List ℕ → ℕ → Type 0
IsHeader = After (IsOctet left_brace) (Then IsNumber32 (λ n. After (IsOctet right_brace) (After IsCrlf (Is n))))

-- the front of a literal8: "~{" number "}" CRLF (RFC 6855, 4)
abbrev pub IsHeader8 : List ℕ → ℕ → Type 0
IsHeader8 = After (IsOctet tilde) IsHeader

-- literal = "{" number "}" CRLF *CHAR8 ; Number represents the number of CHAR8s
-- This server takes any octets.
abbrev pub IsLiteral : List ℕ → List ℕ → Type 0
IsLiteral = Then IsHeader IsCounted

-- string = quoted / literal
abbrev pub IsString : Bool → List ℕ → List ℕ → Type 0
IsString utf8 = Or (IsQuoted utf8) IsLiteral

-- astring = 1*ASTRING-CHAR / string
abbrev pub IsAstring : Bool → List ℕ → List ℕ → Type 0
IsAstring utf8 = Or (IsRunOf is_astring_char) (IsString utf8)

-- mailbox = "INBOX" / astring ; INBOX is case-insensitive
abbrev pub IsMailboxName : Bool → List ℕ → List ℕ → Type 0
IsMailboxName = IsAstring

-- list-mailbox = 1*list-char / string
abbrev pub IsListMailbox : Bool → List ℕ → List ℕ → Type 0
IsListMailbox utf8 = Or (IsRunOf is_list_char) (IsString utf8)

-- header-fld-name = astring
-- What it says is a field's name: one octet at least, and each may stand in a name.
pub record IsHeaderName (utf8 : Bool) (octets value : List ℕ) : Type 0 where
  pub is_astring : IsAstring utf8 octets value
  pub is_name : IsRunOf is_name_char value value

-- ---- what a string begins with

-- all of it, or the size of a literal
pub data HeadValue : Type 0 where
  whole : List ℕ → HeadValue
  literal : ℕ → HeadValue

-- a run of a kind, a quoted string, or the front of a literal
abbrev pub IsHead : Bool → Kind → List ℕ → HeadValue → Type 0
IsHead utf8 kind =
    Or (Then (IsRunOf (passes kind)) (λ v. Is (whole v))) (Or (Then (IsQuoted utf8) (λ v. Is (whole v))) (Then IsHeader (λ n. Is (literal n))))

-- a run of this kind begins neither as a literal does nor as a quoted string
abbrev pub BeginsNoString : Kind → Type 0
BeginsNoString kind = (passes kind left_brace ≡ false) × (passes kind quote ≡ false)

-- what may go on after it: a run
abbrev pub after_head : Kind → HeadValue → ℕ → Bool
after_head kind (whole v) = passes kind
after_head kind (literal n) = λ x. false

-- what is left of a string after its head
abbrev pub BodyOf : HeadValue → List ℕ → List ℕ → Type 0
BodyOf (whole v) = Is v
BodyOf (literal n) = IsCounted n

-- A number other than 0.
pub record IsPositive (octets : List ℕ) (value : ℕ) : Type 0 where
  pub is_number : IsNumber32 octets value
  pub some : 0 < value

-- The header of a literal that has an octet at least, for a field's name.
pub record IsNameHeader (octets : List ℕ) (size : ℕ) : Type 0 where
  pub is_header : IsHeader octets size
  pub some : 0 < size

-- A quoted string whose content is a field's name.
pub record IsQuotedName (octets value : List ℕ) : Type 0 where
  pub is_quoted : IsQuoted false octets value
  pub is_name : IsRunOf is_name_char value value

-- How a field's name begins: the whole of it, by itself or in quotes, or the header of a literal (RFC 3501, 9, header-fld-name).
abbrev pub IsNameHead : List ℕ → HeadValue → Type 0
IsNameHead =
    Or (Then (IsRunOf (passes NameAstring)) (λ v. Is (whole v))) (Or (Then IsQuotedName (λ v. Is (whole v))) (Then IsNameHeader (λ n. Is (literal n))))

-- The octet would go on with the beginning of a field's name.
abbrev pub after_name_head : HeadValue → ℕ → Bool
after_name_head = after_head NameAstring

-- What follows the beginning of a field's name: nothing, or the octets of the literal, which are a name.
abbrev pub NameBodyOf : HeadValue → List ℕ → List ℕ → Type 0
NameBodyOf (whole v) = Is v
NameBodyOf (literal n) = λ octets value. IsCounted n octets value × IsRunOf is_name_char octets octets

-- What the beginning of a string is: the whole of it, or a literal by its size.
abbrev pub head_value : Head → HeadValue
head_value (Whole v) = whole v
head_value (Literal n) = literal n
