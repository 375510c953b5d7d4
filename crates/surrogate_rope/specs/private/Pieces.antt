-- Pieces as they are kept: ranges of the message, and of one list of new octets.
use Rattle.std.specs.Prelude.{◌≡◌, ◌≢◌, ◌<◌, ◌≤◌, ℕ, ◌+◌, ◌^◌, Bool, true, false, List, [], ◌∷◌, ◌++◌, map, if◌then◌else◌, nat_lt, length, take, slice_range, IsTrue}
use Rattle.mail_wire.specs.declared.values.Span.{Span}
use Rattle.field_downgrade.specs.Message.{IsServedField}
use Rattle.surrogate_rope.specs.declared.pieces.Piece.{Piece}
use Rattle.surrogate_rope.specs.Ropes.{RopePiece, Range, New, size_of, range_size, new_size}

abbrev pub piece_of : List ℕ → Piece → RopePiece
piece_of octets piece = if piece.is_new then New (slice_range octets piece.range.at (piece.range.at + piece.range.len)) else Range piece.range

abbrev pub pieces_of : List ℕ → List Piece → List RopePiece
pieces_of octets pieces = map (piece_of octets) pieces

-- The piece begins at this place of the surrogate. If it is new, its octets are there.
pub record IsPieceAt (octets : List ℕ) (at : ℕ) (piece : Piece) : Type 0 where
  pub offset : piece.offset ≡ at
  pub fits : IsTrue piece.is_new → piece.range.at + piece.range.len ≤ length octets

-- The pieces stand one after another between these places of the surrogate.
abbrev pub StandInPlace : List ℕ → ℕ → List Piece → ℕ → Type 0
StandInPlace octets at [] to = at ≡ to
StandInPlace octets at (piece ∷ pieces) to = IsPieceAt octets at piece × StandInPlace octets (at + piece.range.len) pieces to

-- These are the pieces, and their size. No list of octets has more than fit into a memory.
pub record HoldsPieces (octets : List ℕ) (pieces : List Piece) (size : ℕ) : Type 0 where
  pub placed : StandInPlace octets 0 pieces size
  pub new : new_size (pieces_of octets pieces) ≡ length octets
  pub octets_few : length octets < 2 ^ 63
  pub ranges_few : range_size (pieces_of octets pieces) < 2 ^ 63

-- The place in the surrogate is in the piece of this number.
pub record IsInPiece (pieces : List RopePiece) (place number : ℕ) : Type 0 where
  pub inside : number < length pieces
  pub before : size_of (take number pieces) ≤ place
  pub following : place < size_of (take (number + 1) pieces)

-- a piece as it is kept
abbrev pub piece_at : ℕ → Bool → Span → Piece
piece_at offset is_new range = record { offset = offset; is_new = is_new; range = range }

-- a range is a piece, if it has octets
abbrev pub range_at : ℕ → Span → List Piece
range_at offset range = if nat_lt 0 range.len then piece_at offset false range ∷ [] else []

abbrev pub range_where : Span → List RopePiece
range_where range = if nat_lt 0 range.len then Range range ∷ [] else []

-- The served field was put last after a range, where it is another one than the field itself, and else nothing was.
abbrev pub AddsServed : Bool → List ℕ → Span → Bool → List RopePiece → List RopePiece → Type 0
AddsServed open_global raw kept true old new = (field : List ℕ) × IsServedField open_global raw field × (field ≢ raw) × (new ≡ (old ++ range_where kept) ++ New field ∷ [])
AddsServed open_global raw kept false old new = IsServedField open_global raw raw × (new ≡ old)
