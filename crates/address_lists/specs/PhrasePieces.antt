-- How a phrase is written in ASCII (RFC 5322, 3.2.5; RFC 2047, 5, rule 3).
use Rattle.std.specs.Prelude.{◌≡◌, ℕ, Bool, true, false, List, [], ◌∷◌, ◌++◌}
use Rattle.std.specs.List.{list_all}
use Rattle.mail_wire.specs.Characters.{quote}
use Rattle.mail_wire.specs.Octets.{is_ascii}
use Rattle.encoded_words.specs.Words.{UnitValue}
use Rattle.encoded_words.specs.PhraseUnits.{HasPhraseUnits}
use Rattle.encoded_words.specs.Written.{WriteAll}
use Rattle.field_tokens.specs.Tokens.{TokenValue}
use Rattle.field_tokens.specs.Squeezed.{is_gap, octets_of, comments_of}
use Rattle.field_tokens.specs.Comments.{CommentsPieces}
use Rattle.address_grammar.specs.private.Lexemes.{is_blank_token, are_blank}
use Rattle.address_grammar.specs.Phrases.{phrase_items}

-- A phrase is never empty, so no units are written as an empty quoted string.
abbrev pub UnitsPieces : List UnitValue → List (List ℕ) → Type 0
UnitsPieces [] pieces = pieces ≡ (quote ∷ quote ∷ []) ∷ []
UnitsPieces (u ∷ us) pieces = WriteAll (u ∷ us) pieces

-- A phrase with the comments in it is one piece where it is ASCII. Else its units are written, and then its comments.
abbrev pub PhrasePieces : Bool → List TokenValue → List (List ℕ) → Type 0
PhrasePieces true tokens pieces = pieces ≡ octets_of tokens ∷ []
PhrasePieces false tokens pieces = (units : List UnitValue) × (first more : List (List ℕ)) × HasPhraseUnits (phrase_items tokens) units
    × UnitsPieces units first × CommentsPieces (comments_of tokens) more × (pieces ≡ first ++ more)

-- The tokens are gaps, then the core from the first token that is no gap to the last word, and then gaps and comments.
pub record HasCore (tokens core trail : List TokenValue) : Type 0 where
  pub lead : List TokenValue
  pub gaps : list_all (λ t. is_gap t.kind) lead ≡ true
  pub begins : (first : TokenValue) × (others : List TokenValue) × (core ≡ first ∷ others) × (is_gap first.kind ≡ false)
  pub ends : (others : List TokenValue) × (last : TokenValue) × (core ≡ others ++ last ∷ []) × (is_blank_token last ≡ false)
  pub blank : are_blank trail ≡ true
  pub whole : tokens ≡ lead ++ (core ++ trail)

-- the pieces of a phrase, and then those of the comments after it
pub record PlacePieces (tokens : List TokenValue) (pieces : List (List ℕ)) : Type 0 where
  pub core : List TokenValue
  pub trail : List TokenValue
  pub has_core : HasCore tokens core trail
  pub first : List (List ℕ)
  pub more : List (List ℕ)
  pub phrase : PhrasePieces (list_all is_ascii (octets_of core)) core first
  pub comments : CommentsPieces (comments_of trail) more
  pub pieces_are : pieces ≡ first ++ more
