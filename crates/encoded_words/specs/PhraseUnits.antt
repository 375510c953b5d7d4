-- The units of a phrase (RFC 5322, 3.2.5; RFC 2047, 5, rule 3).
use Rattle.std.specs.Prelude.{◌≡◌, ℕ, Bool, true, false, ◌&&◌, if◌then◌else◌, List, [], ◌∷◌, ⊤, IsUtf8}
use Rattle.mail_wire.specs.Characters.{space, dot}
use Rattle.encoded_words.specs.Words.{UnitValue, SaysWhere}
use Rattle.encoded_words.specs.Units.{Place, raw_units, merged}

-- what a phrase is made of: an atom, the content of a quoted string without its quoting, a dot (RFC 5322, 4.1), and
-- what separates words: gaps and comments, one or several
pub data PhraseItem : Type 0 where
  Atom : List ℕ → PhraseItem
  Content : List ℕ → PhraseItem
  Dot : PhraseItem
  Separator : PhraseItem

-- An atom or the content of a quoted string is UTF-8 (RFC 6532, 3.2).
abbrev pub IsUtf8Item : PhraseItem → Type 0
IsUtf8Item (Atom octets) = IsUtf8 octets
IsUtf8Item (Content octets) = IsUtf8 octets
IsUtf8Item Dot = ⊤
IsUtf8Item Separator = ⊤

-- a separator or the phrase's end comes first
abbrev pub begins_free : List PhraseItem → Bool
begins_free [] = true
begins_free (Separator ∷ items) = true
begins_free (Atom octets ∷ items) = false
begins_free (Content octets ∷ items) = false
begins_free (Dot ∷ items) = false

-- another word comes
abbrev pub has_word : List PhraseItem → Bool
has_word [] = false
has_word (Separator ∷ items) = has_word items
has_word (Atom octets ∷ items) = true
has_word (Content octets ∷ items) = true
has_word (Dot ∷ items) = true

-- what stands between a word and the next one: a space where they are separated
abbrev pub gap_before : List PhraseItem → List ℕ
gap_before items = if begins_free items && has_word items then space ∷ [] else []

-- a word of a phrase: its octets, whether it may be an encoded word, and the gap after it
pub record PhraseWord : Type 0 where
  pub octets : List ℕ
  pub may_be_encoded : Bool
  pub gap : List ℕ

-- A word of a phrase, with the gap that stands before the items that follow it.
abbrev pub word_before : List ℕ → Bool → List PhraseItem → PhraseWord
word_before octets may_be_encoded items = record { octets = octets; may_be_encoded = may_be_encoded; gap = gap_before items }

-- The words of items, where a separator or the phrase's end stands before them or does not. An atom that stands so at
-- both its sides may be an encoded word; what was quoted never is.
abbrev pub phrase_words : Bool → List PhraseItem → List PhraseWord
phrase_words is_free [] = []
phrase_words is_free (Separator ∷ items) = phrase_words true items
phrase_words is_free (Atom octets ∷ items) = word_before octets (is_free && begins_free items) items ∷ phrase_words false items
phrase_words is_free (Content octets ∷ items) = word_before octets false items ∷ phrase_words false items
phrase_words is_free (Dot ∷ items) = word_before (dot ∷ []) false items ∷ phrase_words false items

-- A word of a phrase with what it says, as an encoded word where it may be one (RFC 2047, 5, rule 3).
pub record IsPhrasePlace (w : PhraseWord) (p : Place) : Type 0 where
  pub word : p.word ≡ w.octets
  pub says : SaysWhere w.may_be_encoded w.octets p.says
  pub run : p.run ≡ w.gap

-- a place for each word
abbrev pub ArePhrasePlaces : List PhraseWord → List Place → Type 0
ArePhrasePlaces [] [] = Unit {0}
ArePhrasePlaces [] (p ∷ ps) = ⊥
ArePhrasePlaces (w ∷ ws) [] = ⊥
ArePhrasePlaces (w ∷ ws) (p ∷ ps) = IsPhrasePlace w p × ArePhrasePlaces ws ps

-- A phrase of these items says these units (RFC 5322, 3.2.5; RFC 2047, 5, rule 3).
pub record HasPhraseUnits (items : List PhraseItem) (units : List UnitValue) : Type 0 where
  pub places : List Place
  pub are_places : ArePhrasePlaces (phrase_words true items) places
  pub says : units ≡ merged (raw_units places)

-- atoms, with a separator between any two
abbrev pub separated : List (List ℕ) → List PhraseItem
separated [] = []
separated (word ∷ []) = Atom word ∷ []
separated (word ∷ next ∷ words) = Atom word ∷ Separator ∷ separated (next ∷ words)
