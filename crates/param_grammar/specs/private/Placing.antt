-- What the reader of places finds.
use Rattle.std.specs.Prelude.{◌≡◌, ℕ, ◌++◌, Bool, true, ◌||◌, if◌then◌else◌, List, ◌∷◌}
use Rattle.std.specs.Str.{str_to_ascii_lowercase}
use Rattle.mail_wire.specs.declared.values.Span.{Span}
use Rattle.field_tokens.specs.declared.Token.{Token}
use Rattle.field_tokens.specs.Squeezed.{run_octets}
use Rattle.field_tokens.specs.Tokens.{octets_at}
use Rattle.param_grammar.specs.declared.Piece.{Piece}
use Rattle.param_grammar.specs.Names.{NameParts, HasNameParts}
use Rattle.param_grammar.specs.Bodies.{are_quoted, are_plain, inner, unquoted, is_first, SaysOctets, solid, IsParameterOf}

abbrev pub is_value : List ℕ → List Token → Bool
is_value text value = are_quoted value || are_plain text value

-- the tokens are an unquoted value, and stand there
pub record IsPlainAt (text : List ℕ) (value : List Token) (span : Span) : Type 0 where
  pub plain : are_plain text value ≡ true
  pub octets : run_octets text value ≡ octets_at text span

-- the tokens are a value, and stand there
pub record IsValueAt (text : List ℕ) (value : List Token) (span : Span) (quoted : Bool) : Type 0 where
  pub is : is_value text value ≡ true
  pub quoted_is : quoted ≡ are_quoted value
  pub octets : run_octets text value ≡ octets_at text span

-- the tokens are a parameter, and its name and its value stand there
pub record IsSides (text : List ℕ) (section : List Token) (name value : Span) (quoted : Bool) : Type 0 where
  pub tokens : List Token
  pub is_parameter : IsParameterOf text (solid section) (octets_at text name) tokens
  pub value_at : IsValueAt text tokens value quoted

-- the octets of a value: what its quotes hold, where it is quoted
abbrev pub content_by : Bool → List ℕ → List ℕ
content_by quoted value = if quoted then unquoted (inner value) else value

abbrev pub SaysSome : Bool → Bool → List ℕ → Type 0
SaysSome extended first content = (charset octets : List ℕ) × SaysOctets extended first content charset octets

-- the name and the value are this piece, where it is told whether the value is quoted
pub record IsPieceBy (name : List ℕ) (quoted : Bool) (value : List ℕ) (piece : Piece) : Type 0 where
  pub parts : NameParts
  pub has_parts : HasNameParts name parts
  pub says : SaysOctets parts.is_extended (is_first parts.number) (content_by quoted value) piece.charset piece.octets
  pub base_is : piece.base ≡ str_to_ascii_lowercase parts.base
  pub number_is : piece.number ≡ parts.number
  pub written_is : piece.written ≡ name ++ 61 ∷ value

-- what a piece says of this name and this value
abbrev pub SaysThese : List ℕ → Bool → List ℕ → List ℕ → List ℕ → Type 0
SaysThese name quoted value charset octets = (piece : Piece) → IsPieceBy name quoted value piece → (charset ≡ piece.charset) × (octets ≡ piece.octets)
