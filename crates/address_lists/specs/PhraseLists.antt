-- Phrases divided by commas, as in Keywords (RFC 5322, 3.6.5), and how they are written in ASCII.
use Rattle.std.specs.Prelude.{◌≡◌, ℕ, List, [], ◌∷◌, ◌++◌}
use Rattle.mail_wire.specs.Characters.{comma}
use Rattle.encoded_words.specs.Words.{UnitValue}
use Rattle.encoded_words.specs.PhraseUnits.{HasPhraseUnits}
use Rattle.field_tokens.specs.Tokens.{TokenValue}
use Rattle.field_tokens.specs.Squeezed.{comments_of}
use Rattle.field_tokens.specs.Comments.{CommentValue, CommentsSay}
use Rattle.address_grammar.specs.private.Lexemes.{HasMailTokens}
use Rattle.address_grammar.specs.AddressLists.{AreDivided}
use Rattle.address_grammar.specs.Phrases.{IsPhrase, phrase_items}
use Rattle.address_lists.specs.PhrasePieces.{PlacePieces}

-- the tokens are one phrase, with these units
abbrev pub IsOnePhrase : List TokenValue → List (List UnitValue) → Type 0
IsOnePhrase tokens [] = ⊥
IsOnePhrase tokens (units ∷ []) = IsPhrase tokens × HasPhraseUnits (phrase_items tokens) units
IsOnePhrase tokens (units ∷ next ∷ more) = ⊥

-- the text is phrases with these units, and these are its comments
pub record SaysPhrases (text : List ℕ) (phrases : List (List UnitValue)) (comments : List CommentValue) : Type 0 where
  pub tokens : List TokenValue
  pub has : HasMailTokens text tokens
  pub divided : AreDivided IsOnePhrase tokens phrases
  pub comments_say : CommentsSay (comments_of tokens) comments

-- the tokens are one phrase, with these pieces
abbrev pub GivesOnePhrase : List TokenValue → List (List (List ℕ)) → Type 0
GivesOnePhrase tokens [] = ⊥
GivesOnePhrase tokens (pieces ∷ []) = IsPhrase tokens × PlacePieces tokens pieces
GivesOnePhrase tokens (pieces ∷ next ∷ more) = ⊥

-- the pieces of phrases, with a comma between any two phrases
abbrev pub with_commas : List (List (List ℕ)) → List (List ℕ)
with_commas [] = []
with_commas (pieces ∷ []) = pieces
with_commas (pieces ∷ next ∷ more) = pieces ++ (comma ∷ []) ∷ with_commas (next ∷ more)

-- the text is phrases, with these pieces
pub record PhrasesPieces (text : List ℕ) (pieces : List (List ℕ)) : Type 0 where
  pub tokens : List TokenValue
  pub has : HasMailTokens text tokens
  pub places : List (List (List ℕ))
  pub divided : AreDivided GivesOnePhrase tokens places
  pub pieces_are : pieces ≡ with_commas places
