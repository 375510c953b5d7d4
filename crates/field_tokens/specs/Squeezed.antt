-- Squeezed text: the tokens without comments, with a space where a gap or a comment stood between two of them (RFC 5322, 3.2.2 and 3.2.3).
use Rattle.std.specs.Prelude.{◌≡◌, ℕ, ◌⊎◌, Bool, true, false, not, List, [], ◌∷◌, ◌++◌, map, filter}
use Rattle.std.specs.List.{flat_map, join_with_byte, slice_split}
use Rattle.mail_wire.specs.Characters.{space as space_octet}
use Rattle.field_tokens.specs.declared.Style.{Style}
use Rattle.field_tokens.specs.declared.Token.{Token}
use Rattle.field_tokens.specs.declared.TokenKind.{TokenKind}
use Rattle.field_tokens.specs.declared.TokenKind.TheVariants.{Atom, Quoted, Literal, Special, Gap, Comment}
use Rattle.field_tokens.specs.Tokens.{TokenValue, AreTokens, HasTokens, octets_at}

-- a gap or a comment: what stands between words (RFC 5322, 3.2.2, CFWS)
abbrev pub is_blank : TokenKind → Bool
is_blank Gap = true
is_blank Comment = true
is_blank Atom = false
is_blank Quoted = false
is_blank Literal = false
is_blank Special = false

-- the octets of tokens, one after another
abbrev pub run_octets : List ℕ → List Token → List ℕ
run_octets text tokens = flat_map (λ token. octets_at text token.span) tokens

-- The list has an element.
abbrev pub is_there : {A : Type 0} → List A → Bool
is_there [] = false
is_there (token ∷ tokens) = true

-- the runs of tokens between gaps and comments, joined by spaces
abbrev pub squeezed_text : List ℕ → List Token → List ℕ
squeezed_text text tokens = join_with_byte space_octet (map (run_octets text) (filter is_there (slice_split (λ token. is_blank token.kind) tokens)))

-- The tokens are neighbours among the tokens of the text.
pub record StandTogether (text : List ℕ) (tokens : List Token) : Type 0 where
  pub style : Style
  pub before : List Token
  pub after : List Token
  pub has : HasTokens style text (before ++ (tokens ++ after))

-- neighbours, or none
abbrev pub AreNeighbours : List ℕ → List Token → Type 0
AreNeighbours text tokens = (tokens ≡ []) ⊎ StandTogether text tokens

-- The runs of tokens between gaps and comments.
abbrev pub runs_of : List TokenValue → List (List TokenValue)
runs_of tokens = filter is_there (slice_split (λ token. is_blank token.kind) tokens)

-- The octets of tokens, one after another.
abbrev pub octets_of : List TokenValue → List ℕ
octets_of tokens = flat_map (λ token. token.octets) tokens

-- The octets of tokens without comments, with a space where a gap or a comment stood between two of them.
abbrev pub squeezed_values : List TokenValue → List ℕ
squeezed_values tokens = join_with_byte space_octet (map octets_of (runs_of tokens))

-- The token is a comment (RFC 5322, 3.2.2).
abbrev pub is_comment : TokenKind → Bool
is_comment Comment = true
is_comment Atom = false
is_comment Quoted = false
is_comment Literal = false
is_comment Special = false
is_comment Gap = false

-- the comments among tokens, in order
abbrev pub comments_of : List TokenValue → List (List ℕ)
comments_of tokens = map (λ token. token.octets) (filter (λ token. is_comment token.kind) tokens)

-- the tokens but gaps and comments
abbrev pub words_of : List TokenValue → List TokenValue
words_of tokens = filter (λ token. not (is_blank token.kind)) tokens

-- The token is a gap: white and folds (RFC 5322, 3.2.2).
abbrev pub is_gap : TokenKind → Bool
is_gap Gap = true
is_gap Atom = false
is_gap Quoted = false
is_gap Literal = false
is_gap Special = false
is_gap Comment = false

-- The token is an atom (RFC 5322, 3.2.3).
abbrev pub is_atom_kind : TokenKind → Bool
is_atom_kind Atom = true
is_atom_kind Quoted = false
is_atom_kind Literal = false
is_atom_kind Special = false
is_atom_kind Gap = false
is_atom_kind Comment = false

-- The token is a special (RFC 5322, 3.2.3).
abbrev pub is_special_kind : TokenKind → Bool
is_special_kind Special = true
is_special_kind Atom = false
is_special_kind Quoted = false
is_special_kind Literal = false
is_special_kind Gap = false
is_special_kind Comment = false

-- one space between tokens
abbrev pub space : TokenValue
space = record { kind = Gap; octets = space_octet ∷ [] }

-- lists of tokens, with a space between any two
abbrev pub joined_by_spaces : List (List TokenValue) → List TokenValue
joined_by_spaces [] = []
joined_by_spaces (part ∷ []) = part
joined_by_spaces (part ∷ next ∷ parts) = part ++ space ∷ joined_by_spaces (next ∷ parts)

-- Tokens that may stand beside a space: the first one and the last one are no gaps.
pub record IsPart (style : Style) (part : List TokenValue) : Type 0 where
  pub are_tokens : AreTokens style part (octets_of part)
  pub begins : (first : TokenValue) × (others : List TokenValue) × (part ≡ first ∷ others) × (is_gap first.kind ≡ false)
  pub ends : (others : List TokenValue) × (last : TokenValue) × (part ≡ others ++ last ∷ []) × (is_gap last.kind ≡ false)
