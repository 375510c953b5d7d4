-- What a path says, and how it is written in ASCII (RFC 5321, 4.1.2; RFC 6857, 3.2).
use Rattle.std.specs.Prelude.{◌≡◌, ℕ, ◌<◌, List, ◌∷◌, length, Option, Some}
use Rattle.std.specs.List.{AllByRecursion, join_with_byte}
use Rattle.mail_wire.specs.Characters.{space}
use Rattle.mail_wire.specs.Octets.{is_white}
use Rattle.mail_wire.specs.Spans.{Stops, StopsAfter}
use Rattle.field_tokens.specs.Tokens.{TokenValue}
use Rattle.field_tokens.specs.Squeezed.{comments_of}
use Rattle.field_tokens.specs.Comments.{CommentValue, CommentsSay, CommentsPieces, IsLinePiece}
use Rattle.address_grammar.specs.declared.Address.{Address}
use Rattle.address_grammar.specs.private.Lexemes.{HasMailTokens}
use Rattle.address_grammar.specs.Addresses.{address_text}
use Rattle.address_grammar.specs.Paths.{IsPath, HasPath, in_angles}
use Rattle.address_lists.specs.ListPieces.{served_address}

-- the text is a path of this address, or the null path, and these are its comments
pub record SaysPath (text : List ℕ) (answer : Option Address) (comments : List CommentValue) : Type 0 where
  pub tokens : List TokenValue
  pub has : HasMailTokens text tokens
  pub is_path : IsPath tokens answer
  pub comments_say : CommentsSay (comments_of tokens) comments

-- the address as it is served, in angle brackets, and then the comments
pub record PathPieces (text : List ℕ) (pieces : List (List ℕ)) : Type 0 where
  pub tokens : List TokenValue
  pub has : HasMailTokens text tokens
  pub address : Address
  pub served : Address
  pub is_path : IsPath tokens (Some address)
  pub is_served : served_address address ≡ Some served
  pub comments : List (List ℕ)
  pub comments_are : CommentsPieces (comments_of tokens) comments
  pub pieces_are : pieces ≡ in_angles (address_text served) ∷ comments

-- The pieces, with a space between any two, are the path of the address as it is served, with these comments.
pub record IsPathAgain (address : Address) (comments : List CommentValue) (pieces : List (List ℕ)) : Type 0 where
  pub served : Address
  pub is_served : served_address address ≡ Some served
  pub says : SaysPath (join_with_byte space pieces) (Some served) comments
  pub begins : Stops is_white (join_with_byte space pieces)
  pub ends : StopsAfter is_white (join_with_byte space pieces)
  pub are_pieces : AllByRecursion IsLinePiece pieces
  pub some : 0 < length pieces

-- the text is the path of an address that is served so
pub record ServesPath (text : List ℕ) (served : Address) : Type 0 where
  pub address : Address
  pub has_path : HasPath text (Some address)
  pub is_served : served_address address ≡ Some served

-- the text has tokens
abbrev pub HasSomeTokens : List ℕ → Type 0
HasSomeTokens text = (tokens : List TokenValue) × HasMailTokens text tokens
