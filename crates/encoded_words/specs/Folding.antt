-- The folded lines of a made field (RFC 5322, 2.2.3).
use Rattle.std.specs.Prelude.{◌≡◌, ℕ, List, [], ◌∷◌, ◌++◌, map}
use Rattle.std.specs.List.{flat_map}
use Rattle.mail_wire.specs.Characters.{space}
use Rattle.mail_wire.specs.Lines.{crlf}
use Rattle.encoded_words.specs.WrittenWords.{AreWordsOf}

-- a piece of a made field, and the white octet before it
pub record Piece : Type 0 where
  pub white : ℕ
  pub octets : List ℕ

-- each piece stands on a line of its own
abbrev pub made_body : List Piece → List ℕ
made_body pieces = flat_map (λ p. crlf ++ p.white ∷ p.octets) pieces

-- words are a piece each: this white octet stands before the first, and a space before each other
abbrev pub word_pieces : ℕ → List (List ℕ) → List Piece
word_pieces white [] = []
word_pieces white (word ∷ words) = record { white = white; octets = word } ∷ map (λ w. record { white = space; octets = w }) words

-- new is old and the lines of the encoded words of a text
pub record AddsWordLines (text : List ℕ) (white : ℕ) (old new : List ℕ) : Type 0 where
  pub words : List (List ℕ)
  pub are_words : AreWordsOf text words
  pub added : new ≡ old ++ made_body (word_pieces white words)

-- pieces stand on a line each, after a space
abbrev pub lines_of : List (List ℕ) → List ℕ
lines_of pieces = flat_map (λ piece. crlf ++ space ∷ piece) pieces

-- new is old and the lines of pieces of which this holds
pub record AddsLines (P : List (List ℕ) → Type 0) (old new : List ℕ) : Type 0 where
  pub pieces : List (List ℕ)
  pub holds : P pieces
  pub added : new ≡ old ++ lines_of pieces
