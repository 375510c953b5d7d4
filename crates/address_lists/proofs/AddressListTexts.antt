-- A text says one list of addresses at most, and what has pieces says one.
use Rattle.std.proofs.Common.{◌≡◌, ℕ, List}
use Rattle.field_tokens.specs.Tokens.{TokenValue}
use Rattle.field_tokens.specs.Squeezed.{comments_of}
use Rattle.field_tokens.specs.Comments.{CommentValue}
use Rattle.field_tokens.proofs.CommentValues.{CommentsSay-once, CommentsSay-some}
use Rattle.address_grammar.specs.private.Lexemes.{HasMailTokens}
use Rattle.address_grammar.specs.AddressLists.{AreDivided, ElementValue, SaysPlace}
use Rattle.address_lists.specs.ListPieces.{SaysAddresses, AddressesPieces}
use Rattle.address_grammar.proofs.PathLemmas.{HasTokenValues-once}
use Rattle.address_grammar.proofs.DividedLemmas.{divided_once}
use Rattle.address_grammar.proofs.ListLemmas.{place_walked, place_once}
use Rattle.address_lists.proofs.SoundPhrases.{text_comments}

pub addresses_of : (text : List ℕ) (ts : List TokenValue) (es : List ElementValue) (cs : List CommentValue) → HasMailTokens text ts → SaysAddresses text es cs → AreDivided SaysPlace ts es
addresses_of text ts es cs has says = rw (HasTokenValues-once text ts says.tokens has says.has) says.are_elements

pub record SameAddresses (es fs : List ElementValue) (cs ds : List CommentValue) : Type 0 where
  pub elements : es ≡ fs
  pub comments : cs ≡ ds

-- a text is a list of addresses in one way
pub SaysAddresses-once : (text : List ℕ) (es fs : List ElementValue) (cs ds : List CommentValue) → SaysAddresses text es cs → SaysAddresses text fs ds → SameAddresses es fs cs ds
SaysAddresses-once text es fs cs ds p q = record {
  elements = divided_once SaysPlace place_walked place_once p.tokens es fs p.are_elements (addresses_of text p.tokens fs ds p.has q);
  comments = CommentsSay-once (comments_of p.tokens) cs ds p.comments_say (rw (HasTokenValues-once text p.tokens q.tokens p.has q.has) q.comments_say);
}

-- what has pieces says something
pub AddressesPieces-says : (text : List ℕ) (pieces : List (List ℕ)) → AddressesPieces text pieces → (elements : List ElementValue) × (comments : List CommentValue) × SaysAddresses text elements comments
AddressesPieces-says text pieces is =
    let comments = CommentsSay-some (comments_of is.tokens) (text_comments text is.tokens is.has) in
    (is.elements, comments.0, record { tokens = is.tokens; has = is.has; are_elements = is.are_elements; comments_say = comments.1 })
