-- Phrases (RFC 5322, 3.2.5 and 4.1).
use Rattle.std.specs.Prelude.{◌≡◌, ℕ, Bool, true, false, ◌||◌, List, [], map}
use Rattle.std.specs.List.{list_all}
use Rattle.mail_wire.specs.Characters.{dot}
use Rattle.field_tokens.specs.declared.TokenKind.{TokenKind}
use Rattle.field_tokens.specs.declared.TokenKind.TheVariants.{Atom, Quoted, Literal, Special, Gap, Comment}
use Rattle.field_tokens.specs.Tokens.{TokenValue}
use Rattle.encoded_words.specs.Words.{UnitValue}
use Rattle.encoded_words.specs.PhraseUnits.{PhraseItem, Atom as AtomItem, Content, Dot, Separator, HasPhraseUnits}
use Rattle.address_grammar.specs.private.Lexemes.{is_blank_token, are_blank, is_word, is_special_of, said_content}

-- an atom, a quoted string or a dot, or what separates them
abbrev pub may_stand_in_phrase : TokenValue → Bool
may_stand_in_phrase t = is_blank_token t || (is_word t || is_special_of dot t)

-- one or more words and dots, with gaps and comments anywhere
pub record IsPhrase (tokens : List TokenValue) : Type 0 where
  pub some : are_blank tokens ≡ false
  pub each : list_all may_stand_in_phrase tokens ≡ true

-- What a token is in a phrase: an atom, the content of a quoted string, a dot, or what separates words (RFC 5322, 3.2.5 and 4.1).
abbrev pub item_of : TokenKind → List ℕ → PhraseItem
item_of Atom octets = AtomItem octets
item_of Quoted octets = Content (said_content Quoted octets)
item_of Special octets = Dot
item_of Gap octets = Separator
item_of Comment octets = Separator
item_of Literal octets = Content octets

-- What the tokens of a phrase are, one by one.
abbrev pub phrase_items : List TokenValue → List PhraseItem
phrase_items tokens = map (λ t. item_of t.kind t.octets) tokens

-- the tokens are a phrase with these units, or there is no phrase
abbrev pub SaysPhrase : List TokenValue → Bool → List UnitValue → Type 0
SaysPhrase tokens true units = IsPhrase tokens × HasPhraseUnits (phrase_items tokens) units
SaysPhrase tokens false units = (are_blank tokens ≡ true) × (units ≡ [])

-- there are words, and they are no phrase
abbrev pub SaysNothing : List TokenValue → Type 0
SaysNothing tokens = (phrase : Bool) (units : List UnitValue) → ¬ SaysPhrase tokens phrase units
