-- What the steps of the code do.
use Rattle.std.specs.Prelude.{◌≡◌, ◌≢◌, ◌⊎◌, ℕ, Bool, ◌<◌, true, false, not, List, [], ◌∷◌, ◌++◌, length}
use Rattle.std.specs.List.{list_all}
use Rattle.field_downgrade.specs.declared.segments.Side.{Side}
use Rattle.field_downgrade.specs.declared.segments.Side.TheVariants.{Edge, Encoded, Plain}
use Rattle.field_downgrade.specs.Words.{Word, AreWords, AreUtf8, HasWords, is_high_word, last_run}
use Rattle.field_downgrade.specs.Layout.{IsCopied, begins_high, ends_high, last_side, GivesPieces, HavePieces, made_of, spaced}
use Rattle.encoded_words.specs.Folding.{Piece, made_body, word_pieces, AddsLines}
use Rattle.encoded_words.specs.WrittenWords.{AreWordsOf}
use Rattle.utf8_fields.specs.Parts.{FieldParts, field_octets}
use Rattle.field_downgrade.specs.declared.kind.Kind.{Kind}
use Rattle.field_downgrade.specs.declared.kind.Kind.TheVariants.{Unstructured}
use Rattle.field_downgrade.specs.Kinds.{kind_named}
use Rattle.field_downgrade.specs.Stands.{HasHighLayout, BeginsHyphen, NamesMessage, PiecesAs}

-- beside a word there is white
abbrev pub NeedsRun : Side → List ℕ → Type 0
NeedsRun Edge run = Unit {0}
NeedsRun Encoded run = Unit {0}
NeedsRun Plain run = 0 < length run

-- the words are none, or begin with a word that is high and no encoded word
abbrev pub BeginsCore : List Word → Type 0
BeginsCore [] = Unit {0}
BeginsCore (w ∷ ws) = (is_high_word w ≡ true) × (w.is_encoded ≡ false)

abbrev pub BeginsHigh : List Word → Type 0
BeginsHigh [] = Unit {0}
BeginsHigh (w ∷ ws) = is_high_word w ≡ true

abbrev pub BeginsEncoded : List Word → Type 0
BeginsEncoded [] = Unit {0}
BeginsEncoded (w ∷ ws) = w.is_encoded ≡ true

-- copied are the words before the first high one
pub record SplitsCopied (words copied rest : List Word) : Type 0 where
  pub whole : words ≡ copied ++ rest
  pub is_copied : IsCopied copied
  pub begins : BeginsHigh rest

-- A core comes first. After it no word is high up to an encoded word or the end.
pub record SplitsCore (words core rest : List Word) : Type 0 where
  pub low : List Word
  pub after : List Word
  pub whole : words ≡ core ++ rest
  pub begins : begins_high core ≡ true
  pub ends : ends_high core ≡ true
  pub plain : list_all (λ (w : Word). not w.is_encoded) core ≡ true
  pub rest_is : rest ≡ low ++ after
  pub is_low : IsCopied low
  pub stops : BeginsEncoded after

pub record CanWrite (before core copied : List Word) : Type 0 where
  pub are_words : AreWords (before ++ (core ++ copied))
  pub are_utf8 : AreUtf8 core
  pub begins : begins_high core ≡ true

-- the lines of a segment's pieces were added
pub record WritesSegment (before core copied : List Word) (old new : List ℕ) : Type 0 where
  pub pieces : List Piece
  pub gives : GivesPieces (last_side before) (last_run before) (record { core = core; copied = copied }) pieces
  pub added : new ≡ old ++ made_body pieces

-- the lines of the words' pieces were added
pub record WritesWords (words : List Word) (old new : List ℕ) : Type 0 where
  pub pieces : List Piece
  pub have : HavePieces words pieces
  pub added : new ≡ old ++ made_body pieces

-- Octets were put after the old ones, and this holds of them.
pub record AddsOctets (P : List ℕ → Type 0) (old new : List ℕ) : Type 0 where
  pub more : List ℕ
  pub added : new ≡ old ++ more
  pub holds : P more

-- the octets are the unstructured field f, made anew
pub record MakesUnstructured (f : FieldParts) (made : List ℕ) : Type 0 where
  pub words : List Word
  pub pieces : List Piece
  pub has_words : HasWords f.body words
  pub are_utf8 : AreUtf8 words
  pub have_pieces : HavePieces words pieces
  pub made_is : made ≡ field_octets (made_of f pieces)

-- such a field is made of its words
pub record KeepsWords (name : List ℕ) : Type 0 where
  pub kind : kind_named name ≡ Unstructured
  pub no_hyphen : ¬ BeginsHyphen name

-- a structured field, or one whose name begins with `-`
abbrev pub IsOther : FieldParts → Type 0
IsOther f = (kind_named f.name ≢ Unstructured) ⊎ BeginsHyphen f.name

-- the octets are the field f, made anew
pub data MakesField (open_global : Bool) (f : FieldParts) (made : List ℕ) : Type 0 where
  OfUnstructured : KeepsWords f.name → MakesUnstructured f made → MakesField open_global f made
  OfOther : (g : FieldParts) → IsOther f → HasHighLayout open_global f g → made ≡ field_octets g → MakesField open_global f made

-- no value of this kind and name has pieces
abbrev pub HasNoPieces : Kind → Bool → List ℕ → List ℕ → Type 0
HasNoPieces kind open_global name value = (pieces : List (List ℕ)) → ¬ PiecesAs kind open_global name value pieces

-- a field of these parts with the encoded words of the value was added
pub record AddsWordField (made_parts : List Piece → FieldParts) (value old new : List ℕ) : Type 0 where
  pub words : List (List ℕ)
  pub are_words : AreWordsOf value words
  pub added : new ≡ old ++ field_octets (made_parts (word_pieces 32 words))

-- a field with these parts of another name
abbrev pub named_of : List ℕ → FieldParts → List Piece → FieldParts
named_of prefix f pieces = record { name = prefix ++ f.name; white = []; body = made_body pieces; ending = f.ending }

-- Pieces of which this holds stand on lines at the end of the octets, or there are none, and nothing was put there.
abbrev pub WritesWhere : Bool → (List (List ℕ) → Type 0) → List ℕ → List ℕ → Type 0
WritesWhere true P old new = AddsLines P old new
WritesWhere false P old new = ((pieces : List (List ℕ)) → ¬ P pieces) × (new ≡ old)

-- The field stands at the end as the type of a message, or it is none of an opened message/global, and nothing was put there.
abbrev pub PutsNamed : List ℕ → Bool → List ℕ → List ℕ → Type 0
PutsNamed raw true old new = AddsOctets (NamesMessage raw) old new
PutsNamed raw false old new = ((made : List ℕ) → ¬ NamesMessage raw made) × (new ≡ old)

-- The field stands at the end, made of its value's pieces, or there are none, and only its name was put there.
abbrev pub PutsPieces : Bool → Bool → FieldParts → List ℕ → List ℕ → List ℕ → Type 0
PutsPieces true open_global f value old new = (pieces : List (List ℕ)) × PiecesAs (kind_named f.name) open_global f.name value pieces × (new ≡ old ++ field_octets (made_of f (spaced pieces)))
PutsPieces false open_global f value old new = HasNoPieces (kind_named f.name) open_global f.name value × (new ≡ old ++ (f.name ++ 58 ∷ []))
