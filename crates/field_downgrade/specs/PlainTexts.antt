-- Plain texts with comments: dates (RFC 5322, 3.6.1), the version and the encoding of MIME (RFC 2045, 4 and 6).
use Rattle.std.specs.Prelude.{◌≡◌, ℕ, Bool, true, false, List, [], ◌∷◌, ◌++◌, ⊤}
use Rattle.std.specs.List.{list_all}
use Rattle.mail_wire.specs.Octets.{is_ascii}
use Rattle.field_tokens.specs.declared.Style.{Style}
use Rattle.field_tokens.specs.declared.Style.TheVariants.{Mail, Mime}
use Rattle.field_tokens.specs.declared.TokenKind.TheVariants.{Atom}
use Rattle.field_tokens.specs.Tokens.{TokenValue, HasTokenValues}
use Rattle.field_tokens.specs.Squeezed.{squeezed_values, comments_of, words_of}
use Rattle.field_tokens.specs.Comments.{CommentValue, CommentsSay, CommentsPieces}

-- an encoding is cut into tokens as MIME does
abbrev pub style_where : Bool → Style
style_where true = Mime
style_where false = Mail

-- an encoding is one atom (RFC 2045, 6.1)
abbrev pub IsAtomWhere : Bool → List TokenValue → Type 0
IsAtomWhere true tokens = (atom : TokenValue) × (words_of tokens ≡ atom ∷ []) × (atom.kind ≡ Atom)
IsAtomWhere false tokens = ⊤

-- the tokens of a text that is ASCII outside comments
pub record IsPlain (is_encoding : Bool) (text : List ℕ) (tokens : List TokenValue) : Type 0 where
  pub has : HasTokenValues (style_where is_encoding) text tokens
  pub ascii : list_all is_ascii (squeezed_values tokens) ≡ true
  pub atom : IsAtomWhere is_encoding tokens

-- the text without its comments says this, and these are its comments
pub record SaysPlain (is_encoding : Bool) (text said : List ℕ) (comments : List CommentValue) : Type 0 where
  pub tokens : List TokenValue
  pub is_plain : IsPlain is_encoding text tokens
  pub said_is : said ≡ squeezed_values tokens
  pub comments_say : CommentsSay (comments_of tokens) comments

-- no text is no piece
abbrev pub text_piece : List ℕ → List (List ℕ)
text_piece [] = []
text_piece (x ∷ xs) = (x ∷ xs) ∷ []

-- the pieces of the text without its comments, and those of its comments
pub record PlainPieces (is_encoding : Bool) (text : List ℕ) (pieces : List (List ℕ)) : Type 0 where
  pub tokens : List TokenValue
  pub is_plain : IsPlain is_encoding text tokens
  pub comments : List (List ℕ)
  pub comments_are : CommentsPieces (comments_of tokens) comments
  pub pieces_are : pieces ≡ text_piece (squeezed_values tokens) ++ comments
