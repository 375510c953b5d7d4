-- How the reader of phrases goes on, and the writer.
use Rattle.std.specs.Prelude.{◌≡◌, ℕ, Bool, true, false, not, ◌&&◌, ◌||◌, if◌then◌else◌, List, [], ◌∷◌, ◌++◌, Option, is_some}
use Rattle.std.specs.List.{list_all}
use Rattle.encoded_words.specs.declared.units.Merging.{Merging}
use Rattle.encoded_words.specs.Words.{UnitValue, SaysWhere}
use Rattle.encoded_words.specs.Units.{Place, with_text, word_unit, merged, raw_units, begins_encoded}
use Rattle.encoded_words.specs.private.Merging.{IsMerging, all_units_then, onto}
use Rattle.encoded_words.specs.PhraseUnits.{PhraseItem, phrase_words, ArePhrasePlaces, HasPhraseUnits, begins_free, has_word}
use Rattle.field_tokens.specs.Tokens.{TokenValue}
use Rattle.field_tokens.specs.Squeezed.{is_gap}
use Rattle.address_grammar.specs.private.Lexemes.{is_blank_token, are_blank}
use Rattle.address_grammar.specs.declared.phrases.PhraseReader.{PhraseReader}
use Rattle.address_grammar.specs.Phrases.{item_of, phrase_items}

-- a word was taken, and the run before it: where it may be an encoded word, it is one or not
pub record TakesPart (old new : Merging) (run : List ℕ) (after_encoded : Bool) (word : List ℕ) (may_be_encoded encoded : Bool) : Type 0 where
  pub says : Option UnitValue
  pub says_is : SaysWhere may_be_encoded word says
  pub encoded_is : encoded ≡ is_some says
  pub units : (us : List UnitValue) → all_units_then new us
      ≡ all_units_then old (with_text (if after_encoded && encoded then [] else run) (onto (word_unit says word) us))

pub record IsFreshReader (r : PhraseReader) : Type 0 where
  pub units : IsMerging r.units [] []
  pub is_first : r.is_first ≡ true
  pub is_free : r.is_free ≡ true
  pub after_encoded : r.after_encoded ≡ false

-- the run that stands before the next word
abbrev pub run_before : PhraseReader → List PhraseItem → List ℕ
run_before r items = if not r.is_first && ((r.is_free || begins_free items) && has_word items) then 32 ∷ [] else []

-- these units were given, and whatever places the items have, they complete the units of the phrase
abbrev pub ReadsPhraseOn : List PhraseItem → List UnitValue → PhraseReader → List PhraseItem → Type 0
ReadsPhraseOn phrase given r items = (places : List Place) → ArePhrasePlaces (phrase_words r.is_free items) places
    → HasPhraseUnits phrase (given ++ all_units_then r.units (with_text (if r.after_encoded && begins_encoded places then [] else run_before r items) (merged (raw_units places))))

-- a token is taken, where the items after it begin so
abbrev pub TakesToken : PhraseReader → PhraseReader → TokenValue → Bool → Type 0
TakesToken old new t is_next_free = (phrase items : List PhraseItem) (given : List UnitValue) → begins_free items ≡ is_next_free
    → ReadsPhraseOn phrase given old (item_of t.kind t.octets ∷ items) → ReadsPhraseOn phrase given new items

-- a token is taken, and these units are given
abbrev pub ReadsToken : PhraseReader → PhraseReader → TokenValue → List TokenValue → List UnitValue → Type 0
ReadsToken old new t following said = (phrase : List PhraseItem) (given : List UnitValue) → ReadsPhraseOn phrase given old (item_of t.kind t.octets ∷ phrase_items following)
    → ReadsPhraseOn phrase (given ++ said) new (phrase_items following)

-- ---- how a phrase is written

abbrev pub BeginsNoGap : List TokenValue → Type 0
BeginsNoGap [] = Unit {0}
BeginsNoGap (t ∷ tokens) = is_gap t.kind ≡ false

abbrev pub EndsNoBlank : List TokenValue → Type 0
EndsNoBlank [] = Unit {0}
EndsNoBlank (t ∷ []) = is_blank_token t ≡ false
EndsNoBlank (t ∷ next ∷ tokens) = EndsNoBlank (next ∷ tokens)

-- rest is what stands after the gaps in front
pub record SkipsGaps (tokens rest : List TokenValue) : Type 0 where
  pub lead : List TokenValue
  pub gaps : list_all (λ t. is_gap t.kind) lead ≡ true
  pub whole : tokens ≡ lead ++ rest
  pub begins : BeginsNoGap rest

-- front goes to the last token that is neither gap nor comment
pub record SplitsTrail (tokens front trail : List TokenValue) : Type 0 where
  pub whole : tokens ≡ front ++ trail
  pub ends : EndsNoBlank front
  pub blank : are_blank trail ≡ true
