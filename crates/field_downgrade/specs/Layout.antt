-- The layout of an unstructured field (RFC 6857, 3).
use Rattle.std.specs.Prelude.{◌≡◌, ℕ, Bool, true, false, not, if◌then◌else◌, List, [], ◌∷◌, ◌++◌, map}
use Rattle.std.specs.List.{list_all, list_any, flat_map}
use Rattle.mail_wire.specs.Characters.{space}
use Rattle.encoded_words.specs.WrittenWords.{AreWordsOf}
use Rattle.encoded_words.specs.Folding.{Piece, made_body, word_pieces}
use Rattle.utf8_fields.specs.Parts.{FieldParts}
use Rattle.field_downgrade.specs.declared.segments.Side.{Side}
use Rattle.field_downgrade.specs.declared.segments.Side.TheVariants.{Edge, Encoded, Plain}
use Rattle.field_downgrade.specs.Words.{Word, HasWords, copied_octets, plain_text, last_run, is_high_word}

-- pieces on lines of their own, each after a space
abbrev pub spaced : List (List ℕ) → List Piece
spaced pieces = map (λ octets. record { white = space; octets = octets }) pieces

-- name, colon, the pieces, and CRLF where the original has it
abbrev pub made_of : FieldParts → List Piece → FieldParts
made_of f pieces = record { name = f.name; white = []; body = made_body pieces; ending = f.ending }

-- What a word is as a neighbour: an encoded word, or plain text.
abbrev pub side_of : Word → Side
side_of w = if w.is_encoded then Encoded else Plain

-- What stands first: an encoded word, plain text, or the edge of the text where there is no word.
abbrev pub first_side : List Word → Side
first_side [] = Edge
first_side (w ∷ ws) = side_of w

-- What stands last: an encoded word, plain text, or the edge of the text where there is no word.
abbrev pub last_side : List Word → Side
last_side [] = Edge
last_side (w ∷ []) = side_of w
last_side (w ∷ v ∷ ws) = last_side (v ∷ ws)

-- The part of the run before a core that goes into the core's text, and the white octet before the first encoded word:
-- beside another word the octet farthest from the core is left out, and chosen.
abbrev pub CutsLeft : Side → List ℕ → List ℕ → ℕ → Type 0
CutsLeft Edge run part white = (part ≡ []) × (white ≡ space)
CutsLeft Encoded run part white = (part ≡ run) × (white ≡ space)
CutsLeft Plain run part white = run ≡ white ∷ part

-- the part of the run after a core, and the white octet before the copied piece that follows
abbrev pub CutsRight : Side → List ℕ → List ℕ → ℕ → Type 0
CutsRight Edge run part white = (part ≡ []) × (white ≡ space)
CutsRight Encoded run part white = (part ≡ run) × (white ≡ space)
CutsRight Plain run part white = run ≡ part ++ white ∷ []

-- a core, and the words after it that are copied, up to the next core or the end
pub record Segment : Type 0 where
  pub core : List Word
  pub copied : List Word

-- The words of a segment: its core, and those that are copied.
abbrev pub segment_words : Segment → List Word
segment_words s = s.core ++ s.copied

-- The first word has an octet above 127.
abbrev pub begins_high : List Word → Bool
begins_high [] = false
begins_high (w ∷ ws) = is_high_word w

-- The last word has an octet above 127.
abbrev pub ends_high : List Word → Bool
ends_high [] = false
ends_high (w ∷ []) = is_high_word w
ends_high (w ∷ v ∷ ws) = ends_high (v ∷ ws)

-- No word has an octet above 127, so that all of them are copied.
abbrev pub IsCopied : List Word → Type 0
IsCopied ws = list_all (λ w. not (is_high_word w)) ws ≡ true

-- The core begins and ends with a word that isn't ASCII and has no encoded word; the words after it are ASCII.
pub record IsSegment (s : Segment) : Type 0 where
  pub begins : begins_high s.core ≡ true
  pub ends : ends_high s.core ≡ true
  pub plain : list_all (λ w. not w.is_encoded) s.core ≡ true
  pub copied : IsCopied s.copied

-- An encoded word stands between any two cores: words without one between them belong to one core.
abbrev pub Parts : List Word → List Segment → Type 0
Parts copied [] = Unit {0}
Parts copied (s ∷ ss) = list_any (λ w. w.is_encoded) copied ≡ true

-- Each is a segment, and an encoded word stands between any two.
abbrev pub AreSegments : List Segment → Type 0
AreSegments [] = Unit {0}
AreSegments (s ∷ ss) = IsSegment s × Parts s.copied ss × AreSegments ss

-- words that are copied are one piece, with their folds
abbrev pub copied_pieces : ℕ → List Word → List Piece
copied_pieces white [] = []
copied_pieces white (w ∷ ws) = record { white = white; octets = copied_octets (w ∷ ws) } ∷ []

-- What a segment gives, after a word or an end of this side and this run.
pub record GivesPieces (side : Side) (run : List ℕ) (s : Segment) (pieces : List Piece) : Type 0 where
  pub left : List ℕ
  pub right : List ℕ
  pub white : ℕ
  pub next : ℕ
  pub made_words : List (List ℕ)
  pub cuts_left : CutsLeft side run left white
  pub cuts_right : CutsRight (first_side s.copied) (last_run s.core) right next
  pub are_made_words : AreWordsOf (left ++ (plain_text s.core ++ right)) made_words
  pub pieces_are : pieces ≡ word_pieces white made_words ++ copied_pieces next s.copied

-- what segments give, one after the other
abbrev pub GiveAll : Side → List ℕ → List Segment → List Piece → Type 0
GiveAll side run [] pieces = pieces ≡ []
GiveAll side run (s ∷ ss) pieces = (first : List Piece) × (more : List Piece) × (pieces ≡ first ++ more)
    × GivesPieces side run s first × GiveAll (last_side s.copied) (last_run s.copied) ss more

-- The words are those that are copied before the first core, and segments; these are their pieces.
pub record HavePieces (words : List Word) (pieces : List Piece) : Type 0 where
  pub front : List Word
  pub segments : List Segment
  pub more : List Piece
  pub whole : words ≡ front ++ flat_map segment_words segments
  pub copied : IsCopied front
  pub are_segments : AreSegments segments
  pub give : GiveAll (last_side front) (last_run front) segments more
  pub pieces_are : pieces ≡ copied_pieces space front ++ more

-- the layout of an unstructured field with an octet above 127
pub record HasUnstructuredLayout (f g : FieldParts) : Type 0 where
  pub words : List Word
  pub pieces : List Piece
  pub has_words : HasWords f.body words
  pub have_pieces : HavePieces words pieces
  pub made : g ≡ made_of f pieces
