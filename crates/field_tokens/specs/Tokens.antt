-- The tokens of an unfolded text (RFC 5322, 3.2; RFC 2045, 5.1).
use Rattle.std.specs.Prelude.{◌≡◌, ℕ, ◌+◌, ◌<◌, true, false, List, [], ◌∷◌, ◌++◌, length, take, drop, Contains, IsUtf8}
use Rattle.std.specs.List.{list_all}
use Rattle.mail_wire.specs.Characters.{quote, left_parenthesis, right_parenthesis, left_bracket, right_bracket}
use Rattle.mail_wire.specs.Octets.{is_white}
use Rattle.mail_wire.specs.Spans.{IsSpan}
use Rattle.mail_wire.specs.declared.values.Span.{Span}
use Rattle.field_tokens.specs.declared.groups.Marks.{Marks}
use Rattle.field_tokens.specs.declared.Style.{Style}
use Rattle.field_tokens.specs.declared.Style.TheVariants.{Mail}
use Rattle.field_tokens.specs.declared.Token.{Token}
use Rattle.field_tokens.specs.declared.TokenKind.{TokenKind}
use Rattle.field_tokens.specs.declared.TokenKind.TheVariants.{Atom, Quoted, Literal, Special, Gap, Comment}
use Rattle.field_tokens.specs.TokenOctets.{is_special, is_atom_octet, is_line_octet}
use Rattle.field_tokens.specs.Groups.{IsEnclosed}

-- A comment stands between parentheses, and comments may nest, 64 deep at most (RFC 5322, 3.2.2; the depth is a limit of this reader).
abbrev pub comment_marks : Marks
comment_marks = record { open_mark = left_parenthesis; close_mark = right_parenthesis; limit = 64; holds_controls = true }

-- A quoted string stands between double quotes (RFC 5322, 3.2.4).
abbrev pub quoted_marks : Marks
quoted_marks = record { open_mark = quote; close_mark = quote; limit = 1; holds_controls = true }

-- A domain literal stands between square brackets, and controls may not stand in it (RFC 5322, 3.4.1).
abbrev pub literal_marks : Marks
literal_marks = record { open_mark = left_bracket; close_mark = right_bracket; limit = 1; holds_controls = false }

-- The octets are a token of this kind, where rest follows. A gap is the longest run of white, and an atom the longest
-- run of its octets. In Mime style there are no literals.
abbrev pub IsToken : Style → TokenKind → List ℕ → List ℕ → Type 0
IsToken style Gap octets rest = (0 < length octets) × IsSpan is_white (octets ++ rest) octets rest
IsToken style Atom octets rest = (0 < length octets) × IsSpan (is_atom_octet style) (octets ++ rest) octets rest
IsToken style Special octets rest = (x : ℕ) × (octets ≡ x ∷ []) × (is_special style x ≡ true)
IsToken style Comment octets rest = IsEnclosed comment_marks octets
IsToken style Quoted octets rest = IsEnclosed quoted_marks octets
IsToken style Literal octets rest = (style ≡ Mail) × IsEnclosed literal_marks octets

-- the text begins with a token of this kind, and rest follows it
pub record BeginsToken (style : Style) (kind : TokenKind) (text rest : List ℕ) : Type 0 where
  pub octets : List ℕ
  pub whole : text ≡ octets ++ rest
  pub is_token : IsToken style kind octets rest

-- a token by its kind and its octets
pub record TokenValue : Type 0 where
  pub kind : TokenKind
  pub octets : List ℕ

-- the text is these tokens, one after another
abbrev pub AreTokens : Style → List TokenValue → List ℕ → Type 0
AreTokens style [] text = text ≡ []
AreTokens style (t ∷ ts) text = (rest : List ℕ) × (text ≡ t.octets ++ rest) × IsToken style t.kind t.octets rest × AreTokens style ts rest

-- where the tokens stand, the first one at this place
abbrev pub tokens_from : ℕ → List TokenValue → List Token
tokens_from at [] = []
tokens_from at (t ∷ ts) = record { kind = t.kind; span = record { at = at; len = length t.octets } } ∷ tokens_from (at + length t.octets) ts

-- UTF-8 without NUL, CR and LF
pub record IsLine (text : List ℕ) : Type 0 where
  pub utf8 : IsUtf8 text
  pub plain : list_all is_line_octet text ≡ true

-- the text is a line, and these are its tokens, by their places
pub record HasTokens (style : Style) (text : List ℕ) (tokens : List Token) : Type 0 where
  pub is_line : IsLine text
  pub values : List TokenValue
  pub are_tokens : AreTokens style values text
  pub placed : tokens ≡ tokens_from 0 values

-- the text is a line, and these are its tokens, by their octets
pub record HasTokenValues (style : Style) (text : List ℕ) (tokens : List TokenValue) : Type 0 where
  pub is_line : IsLine text
  pub are_tokens : AreTokens style tokens text

-- the octets of a span
abbrev pub octets_at : List ℕ → Span → List ℕ
octets_at text span = take span.len (drop span.at text)

-- the token is among the tokens of the text, in one of the styles
pub record IsTokenOf (text : List ℕ) (token : Token) : Type 0 where
  pub style : Style
  pub tokens : List Token
  pub has : HasTokens style text tokens
  pub among : Contains tokens token
