-- What the pieces of a phrase read as.
use Rattle.std.specs.Prelude.{◌≡◌, ℕ, ◌<◌, true, List, length, map}
use Rattle.std.specs.List.{AllByRecursion, join_with_byte}
use Rattle.encoded_words.specs.Words.{UnitValue}
use Rattle.encoded_words.specs.PhraseUnits.{HasPhraseUnits}
use Rattle.field_tokens.specs.declared.Style.TheVariants.{Mail}
use Rattle.field_tokens.specs.Tokens.{TokenValue}
use Rattle.field_tokens.specs.Squeezed.{octets_of, comments_of, joined_by_spaces, IsPart}
use Rattle.field_tokens.specs.Comments.{CommentValue, CommentsSay, IsLinePiece}
use Rattle.address_grammar.specs.private.Lexemes.{lacks_special}
use Rattle.address_grammar.specs.Phrases.{IsPhrase, phrase_items}

-- The pieces, with a space between any two, are tokens that may stand beside a space: a phrase with these units and
-- comments, in which no comma stands.
pub record IsPhraseAgain (units : List UnitValue) (values : List CommentValue) (pieces : List (List ℕ)) : Type 0 where
  pub parts : List (List TokenValue)
  pub are_parts : AllByRecursion (IsPart Mail) parts
  pub some : 0 < length parts
  pub joined : join_with_byte 32 (map octets_of parts) ≡ join_with_byte 32 pieces
  pub phrase : IsPhrase (joined_by_spaces parts)
  pub no_comma : lacks_special 44 (joined_by_spaces parts) ≡ true
  pub has_units : HasPhraseUnits (phrase_items (joined_by_spaces parts)) units
  pub say : CommentsSay (comments_of (joined_by_spaces parts)) values
  pub are_pieces : AllByRecursion IsLinePiece pieces
