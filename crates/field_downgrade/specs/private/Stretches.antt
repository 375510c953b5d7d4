-- Words that stand together in a body, as the code holds them.
use Rattle.std.specs.Prelude.{◌≡◌, ◌<◌, ℕ, true, false, List, [], ◌∷◌, length}
use Rattle.std.specs.List.{flat_map}
use Rattle.encoded_words.specs.Folding.{Piece}
use Rattle.field_downgrade.specs.declared.segments.Side.{Side}
use Rattle.field_downgrade.specs.declared.segments.Side.TheVariants.{Edge, Encoded, Plain}
use Rattle.field_downgrade.specs.declared.words.Stretch.{Stretch}
use Rattle.field_downgrade.specs.Words.{Word, AreWords, AreUtf8, HasWords, TellsEncoded, word_octets, copied_octets}
use Rattle.field_downgrade.specs.Layout.{first_side, last_side}
use Rattle.field_downgrade.specs.private.Steps.{BeginsCore, SplitsCopied, SplitsCore, CanWrite, WritesSegment, WritesWords}

-- the gap after the last word
abbrev pub last_gap : List Word → List ℕ
last_gap [] = []
last_gap (w ∷ []) = w.gap
last_gap (w ∷ v ∷ ws) = last_gap (v ∷ ws)

-- what the first word is, where another one is put after the words
abbrev pub first_where : Side → Side → Side
first_where Edge next = next
first_where Encoded next = Encoded
first_where Plain next = Plain

-- what a word is beside a core
abbrev pub TellsSide : Side → List ℕ → Type 0
TellsSide Edge word = ⊥
TellsSide Encoded word = TellsEncoded true word
TellsSide Plain word = TellsEncoded false word

-- what the code holds of these words
pub record IsStretch (s : Stretch) (words : List Word) : Type 0 where
  pub octets : s.octets.now ≡ copied_octets words
  pub gap : s.gap.now ≡ last_gap words
  pub first : s.first ≡ first_side words
  pub last : s.last ≡ last_side words

-- the octets are these words, with their gaps
pub record StandIn (words : List Word) (octets : List ℕ) : Type 0 where
  pub are : AreWords words
  pub whole : octets ≡ flat_map word_octets words

-- the words before the first high one, and what stands from that one on
pub record IsSplitLow (words : List Word) (low : Stretch) (rest : List ℕ) : Type 0 where
  pub copied : List Word
  pub others : List Word
  pub splits : SplitsCopied words copied others
  pub is : IsStretch low copied
  pub rest_is : rest ≡ flat_map word_octets others

abbrev pub SplitsLow : List ℕ → Stretch → List ℕ → Type 0
SplitsLow body low rest = (words : List Word) → StandIn words body → IsSplitLow words low rest

-- the core that comes first, and what stands after it
pub record IsSplitCore (words : List Word) (core : Stretch) (rest : List ℕ) : Type 0 where
  pub core_words : List Word
  pub others : List Word
  pub splits : SplitsCore words core_words others
  pub is : IsStretch core core_words
  pub rest_is : rest ≡ flat_map word_octets others

abbrev pub SplitsFirst : List ℕ → Stretch → List ℕ → Type 0
SplitsFirst body core rest = (words : List Word) → StandIn words body → 0 < length words → BeginsCore words → IsSplitCore words core rest

-- octets that are copied are a piece, if there are any
abbrev pub piece_where : ℕ → List ℕ → List Piece
piece_where white [] = []
piece_where white (x ∷ octets) = record { white = white; octets = x ∷ octets } ∷ []

-- the lines of a body's words were added
pub record WritesUnstructuredBody (body old new : List ℕ) : Type 0 where
  pub words : List Word
  pub has : HasWords body words
  pub utf8 : AreUtf8 words
  pub writes : WritesWords words old new

-- the words of a segment can be written
pub record CanWriteStretches (before core copied : Stretch) : Type 0 where
  pub before_words : List Word
  pub core_words : List Word
  pub copied_words : List Word
  pub before_is : IsStretch before before_words
  pub core_is : IsStretch core core_words
  pub copied_is : IsStretch copied copied_words
  pub can : CanWrite before_words core_words copied_words

-- the lines of the words' segment were added
abbrev pub WritesStretches : Stretch → Stretch → Stretch → List ℕ → List ℕ → Type 0
WritesStretches before core copied old new = (before_words core_words copied_words : List Word) → IsStretch before before_words → IsStretch core core_words → IsStretch copied copied_words
    → CanWrite before_words core_words copied_words → WritesSegment before_words core_words copied_words old new
