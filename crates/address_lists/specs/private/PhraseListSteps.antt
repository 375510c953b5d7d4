-- How the writer of phrases that commas divide goes on, and what its pieces read as.
use Rattle.std.specs.Prelude.{◌≡◌, ℕ, ◌<◌, List, length}
use Rattle.std.specs.List.{AllByRecursion, join_with_byte}
use Rattle.mail_wire.specs.Octets.{is_white}
use Rattle.mail_wire.specs.Spans.{Stops, StopsAfter}
use Rattle.encoded_words.specs.Words.{UnitValue}
use Rattle.field_tokens.specs.Tokens.{TokenValue}
use Rattle.field_tokens.specs.Comments.{CommentValue, IsLinePiece}
use Rattle.address_grammar.specs.AddressLists.{AreDivided}
use Rattle.address_grammar.specs.Phrases.{IsPhrase}
use Rattle.address_lists.specs.PhrasePieces.{PlacePieces}
use Rattle.address_lists.specs.PhraseLists.{SaysPhrases, GivesOnePhrase, with_commas}

-- the tokens are a phrase, with these pieces
pub record GivesPhrase (tokens : List TokenValue) (pieces : List (List ℕ)) : Type 0 where
  pub is_phrase : IsPhrase tokens
  pub gives : PlacePieces tokens pieces

-- the tokens are phrases, with these pieces
pub record GivesPhrases (tokens : List TokenValue) (pieces : List (List ℕ)) : Type 0 where
  pub places : List (List (List ℕ))
  pub divided : AreDivided GivesOnePhrase tokens places
  pub pieces_are : pieces ≡ with_commas places

-- The pieces, with a space between any two, are a text of phrases with these units and comments.
pub record ArePhrasesAgain (phrases : List (List UnitValue)) (comments : List CommentValue) (pieces : List (List ℕ)) : Type 0 where
  pub says : SaysPhrases (join_with_byte 32 pieces) phrases comments
  pub begins : Stops is_white (join_with_byte 32 pieces)
  pub ends : StopsAfter is_white (join_with_byte 32 pieces)
  pub some : 0 < length pieces
  pub are_pieces : AllByRecursion IsLinePiece pieces
