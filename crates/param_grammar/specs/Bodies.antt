-- The body of a field with parameters (RFC 2045, 5.1; RFC 2183, 2): a main part, and parameters, each after a semicolon.
use Rattle.std.specs.Prelude.{◌≡◌, ℕ, ◌⊎◌, ◌++◌, ◌+◌, ◌-◌, ◌<◌, ◌==◌, Bool, true, false, not, ◌&&◌, ◌||◌, if◌then◌else◌, List, [], ◌∷◌, length, take, drop, codes, Option, Some, None, filter}
use Rattle.std.specs.List.{list_all, list_any, slice_split}
use Rattle.std.specs.Str.{bytes_eq, str_to_ascii_lowercase}
use Rattle.mail_wire.specs.Characters.{slash, semicolon, equals_sign, backslash}
use Rattle.mail_wire.specs.Octets.{is_ascii}
use Rattle.field_tokens.specs.declared.Style.TheVariants.{Mime}
use Rattle.field_tokens.specs.declared.Token.{Token}
use Rattle.field_tokens.specs.declared.TokenKind.{TokenKind}
use Rattle.field_tokens.specs.declared.TokenKind.TheVariants.{Atom, Quoted, Literal, Special, Gap, Comment}
use Rattle.field_tokens.specs.Tokens.{HasTokens, octets_at}
use Rattle.field_tokens.specs.Trees.{Tree, tree_of, HasComment}
use Rattle.field_tokens.specs.declared.Comment.{Comment as CommentOf}
use Rattle.field_tokens.specs.Squeezed.{is_blank, is_comment, run_octets, is_atom_kind}
use Rattle.param_grammar.specs.declared.ParamKind.{ParamKind}
use Rattle.param_grammar.specs.declared.ParamKind.TheVariants.{Content, Disposition}
use Rattle.param_grammar.specs.declared.Piece.{Piece}
use Rattle.param_grammar.specs.Escapes.{IsEscaped}
use Rattle.param_grammar.specs.Extended.{IsExtended}
use Rattle.param_grammar.specs.Names.{NameParts, HasNameParts}

-- The token is a quoted string.
abbrev pub is_quoted : TokenKind → Bool
is_quoted Quoted = true
is_quoted Atom = false
is_quoted Literal = false
is_quoted Special = false
is_quoted Gap = false
is_quoted Comment = false

-- the token is this octet alone
abbrev pub is_mark_at : List ℕ → ℕ → Token → Bool
is_mark_at text mark token = bytes_eq (octets_at text token.span) (mark ∷ [])

-- what stands between semicolons
abbrev pub sections_of : List ℕ → List Token → List (List Token)
sections_of text tokens = slice_split (is_mark_at text semicolon) tokens

-- the tokens that are no gaps and no comments
abbrev pub solid : List Token → List Token
solid tokens = filter (λ token. not (is_blank token.kind)) tokens

-- The token is an atom, and all its octets are ASCII.
abbrev pub is_ascii_atom : List ℕ → Token → Bool
is_ascii_atom text token = is_atom_kind token.kind && list_all is_ascii (octets_at text token.span)

-- The main part of a type is two atoms with a slash between them, and that of a disposition one atom.
abbrev pub is_main : ParamKind → List ℕ → List Token → Bool
is_main Content text [] = false
is_main Content text (a ∷ []) = false
is_main Content text (a ∷ b ∷ []) = false
is_main Content text (a ∷ b ∷ c ∷ []) = is_ascii_atom text a && (is_mark_at text slash b && is_ascii_atom text c)
is_main Content text (a ∷ b ∷ c ∷ d ∷ more) = false
is_main Disposition text [] = false
is_main Disposition text (a ∷ []) = is_ascii_atom text a
is_main Disposition text (a ∷ b ∷ more) = false

-- an atom, or one of the specials that an unquoted value may hold
abbrev pub is_plain_token : List ℕ → Token → Bool
is_plain_token text token = is_atom_kind token.kind || list_any (λ mark. is_mark_at text mark token) (codes "/[]?=")

-- no other token, or the next one stands directly after the token
abbrev pub touches_first : Token → List Token → Bool
touches_first token [] = true
touches_first token (next ∷ more) = token.span.at + token.span.len == next.span.at

-- each token stands directly after the one before it
abbrev pub touch : List Token → Bool
touch [] = true
touch (token ∷ more) = touches_first token more && touch more

-- a quoted string alone
abbrev pub are_quoted : List Token → Bool
are_quoted [] = false
are_quoted (a ∷ []) = is_quoted a.kind
are_quoted (a ∷ b ∷ more) = false

-- one or more tokens of an unquoted value, with nothing between them
abbrev pub are_plain : List ℕ → List Token → Bool
are_plain text [] = false
are_plain text (a ∷ more) = list_all (is_plain_token text) (a ∷ more) && touch (a ∷ more)

-- each quoted pair by its second octet
unfoldable pub unquoted : List ℕ → List ℕ
unquoted [] = []
unquoted (x ∷ []) = x ∷ []
unquoted (x ∷ y ∷ rest) = if x == backslash then y ∷ unquoted rest else x ∷ unquoted (y ∷ rest)

-- what stands between the first and the last octet
abbrev pub inner : List ℕ → List ℕ
inner octets = take (length octets - 2) (drop 1 octets)

-- the octets of a value: what its quotes hold, where it is quoted
abbrev pub value_content : List ℕ → List Token → List ℕ
value_content text value = if are_quoted value then unquoted (inner (run_octets text value)) else run_octets text value

-- these tokens stand as the name, the equals sign and the value of a parameter
abbrev pub is_parameter : List ℕ → Token → Token → List Token → Bool
is_parameter text atom equals value = is_atom_kind atom.kind && (is_mark_at text equals_sign equals && (are_quoted value || are_plain text value))

-- tokens that are no gaps and no comments are a parameter: a name, an equals sign and a value
pub record IsParameterOf (text : List ℕ) (tokens : List Token) (name : List ℕ) (value : List Token) : Type 0 where
  pub atom : Token
  pub equals : Token
  pub tokens_are : tokens ≡ atom ∷ equals ∷ value
  pub is_name : is_atom_kind atom.kind ≡ true
  pub is_equals : is_mark_at text equals_sign equals ≡ true
  pub is_value : (are_quoted value || are_plain text value) ≡ true
  pub name_is : name ≡ octets_at text atom.span

-- the whole value, or its first piece, which alone has a charset (RFC 2231, 4.1)
abbrev pub is_first : Option (List ℕ) → Bool
is_first None = true
is_first (Some digits) = bytes_eq digits (codes "0")

-- What a value says, where it is extended and where it is first. Where no charset is given it is empty.
abbrev pub SaysOctets : Bool → Bool → List ℕ → List ℕ → List ℕ → Type 0
SaysOctets false first content charset octets = (charset ≡ []) × (octets ≡ content)
SaysOctets true false content charset octets = (charset ≡ []) × IsEscaped content octets
SaysOctets true true content charset octets = (text : List ℕ) × IsExtended content charset text × IsEscaped text octets

-- the name and the value are this piece
pub record IsPieceOf (text name : List ℕ) (value : List Token) (piece : Piece) : Type 0 where
  pub parts : NameParts
  pub has_parts : HasNameParts name parts
  pub says : SaysOctets parts.is_extended (is_first parts.number) (value_content text value) piece.charset piece.octets
  pub base_is : piece.base ≡ str_to_ascii_lowercase parts.base
  pub number_is : piece.number ≡ parts.number
  pub written_is : piece.written ≡ name ++ equals_sign ∷ run_octets text value

-- the section, with gaps and comments around its tokens, is this piece
pub record IsPiece (text : List ℕ) (section : List Token) (piece : Piece) : Type 0 where
  pub name : List ℕ
  pub value : List Token
  pub is_parameter : IsParameterOf text (solid section) name value
  pub is_piece : IsPieceOf text name value piece

-- a section that holds more than gaps and comments
abbrev pub is_filled : List Token → Bool
is_filled section = list_any (λ token. not (is_blank token.kind)) section

-- The tokens are a section and what is after its semicolon, where there is one. Where there is none, no filled section follows.
pub record SplitsSection (text : List ℕ) (tokens section following : List Token) : Type 0 where
  pub others : List (List Token)
  pub first : sections_of text tokens ≡ section ∷ others
  pub same : filter is_filled others ≡ filter is_filled (sections_of text following)
  pub shorter : 0 < length tokens → length following < length tokens

-- a piece for each section
abbrev pub ArePieces : List ℕ → List (List Token) → List Piece → Type 0
ArePieces text [] pieces = pieces ≡ []
ArePieces text (section ∷ sections) pieces =
    (piece : Piece) × (more : List Piece) × IsPiece text section piece × ArePieces text sections more × (pieces ≡ piece ∷ more)

-- a tree for each comment
abbrev pub HaveComments : List ℕ → List Token → List Tree → Type 0
HaveComments text [] trees = trees ≡ []
HaveComments text (token ∷ tokens) trees =
    (tree : Tree) × (more : List Tree) × HasComment text token tree × HaveComments text tokens more × (trees ≡ tree ∷ more)

-- new is old, and the piece that the section is, where it is filled
abbrev pub PushesPiece : List ℕ → List Token → List Piece → List Piece → Type 0
PushesPiece text section old new = ((is_filled section ≡ false) × (new ≡ old))
    ⊎ ((piece : Piece) × (is_filled section ≡ true) × IsPiece text section piece × (new ≡ old ++ piece ∷ []))

-- the section is filled, and is no piece
abbrev pub IsNoPiece : List ℕ → List Token → Type 0
IsNoPiece text section = (is_filled section ≡ true) × ((piece : Piece) → ¬ IsPiece text section piece)

-- new is old, and the comment that the token is, where it is one
abbrev pub PushesComment : List ℕ → Token → List CommentOf → List CommentOf → Type 0
PushesComment text token old new = ((is_comment token.kind ≡ false) × (new ≡ old))
    ⊎ ((comment : CommentOf) × (is_comment token.kind ≡ true) × HasComment text token (tree_of comment) × (new ≡ old ++ comment ∷ []))

-- The tokens are this main part, in lower case, and these pieces, in the order of their places. Places without a parameter are
-- passed over.
pub record IsBody (kind : ParamKind) (text : List ℕ) (tokens : List Token) (main : List ℕ) (pieces : List Piece) : Type 0 where
  pub first : List Token
  pub others : List (List Token)
  pub sections : sections_of text tokens ≡ first ∷ others
  pub is_main_part : is_main kind text (solid first) ≡ true
  pub main_is : main ≡ str_to_ascii_lowercase (run_octets text (solid first))
  pub are_pieces : ArePieces text (filter is_filled others) pieces

-- The text has this main part, these pieces and these comments.
pub record HasBody (kind : ParamKind) (text main : List ℕ) (pieces : List Piece) (comments : List Tree) : Type 0 where
  pub tokens : List Token
  pub has_tokens : HasTokens Mime text tokens
  pub is_body : IsBody kind text tokens main pieces
  pub have_comments : HaveComments text (filter (λ token. is_comment token.kind) tokens) comments

-- the tokens are these pieces, and this main part as it is written
pub record WritesBody (kind : ParamKind) (text : List ℕ) (tokens : List Token) (written : List ℕ) (pieces : List Piece) : Type 0 where
  pub body : IsBody kind text tokens (str_to_ascii_lowercase written) pieces
  pub written_is : written ≡ run_octets text (solid body.first)
