-- The stored form of a rope.
use Rattle.std.specs.Prelude.{◌≡◌, ℕ, ◌+◌, ◌*◌, ◌^◌, ◌<◌, ◌≤◌, List, [], ◌∷◌, ◌++◌, length, Option, Some, None}
use Rattle.std.specs.Int.{w64, to_be_bytes}
use Rattle.std.specs.List.{AllByRecursion, flat_map}
use Rattle.mime_tree.specs.declared.entity.Shape.{Shape}
use Rattle.mime_tree.specs.declared.entity.Shape.TheVariants.{Leaf, Multipart, Message}
use Rattle.mime_tree.specs.Outlines.{Outline}
use Rattle.surrogate_rope.specs.Ropes.{RopeValue, RopePiece, Range, New, range_size, new_size}

-- a number, in eight octets
abbrev pub number : ℕ → List ℕ
number n = to_be_bytes w64 n

-- A piece: 0, its place and its length; or 1, its length and its octets.
abbrev pub stored_piece : RopePiece → List ℕ
stored_piece (Range span) = 0 ∷ (number span.at ++ number span.len)
stored_piece (New octets) = 1 ∷ (number (length octets) ++ octets)

-- The number of an entity's parent: one more than its place, or 0 without one.
abbrev pub parent_number : Option ℕ → ℕ
parent_number None = 0
parent_number (Some parent) = parent + 1

-- The octet of a shape.
abbrev pub shape_octet : Shape → ℕ
shape_octet Leaf = 0
shape_octet Multipart = 1
shape_octet Message = 2

-- An entity: its parent, its depth, where it, its content and its end stand, and its shape.
abbrev pub stored_entity : Outline → List ℕ
stored_entity entity =
    number (parent_number entity.parent) ++ (number entity.depth ++ (number entity.at ++ (number entity.body ++ (number entity.end ++ shape_octet entity.shape ∷ []))))

-- A rope: how many pieces, entities and rewritten fields, then all pieces, then all entities.
abbrev pub stored_form : RopeValue → List ℕ
stored_form rope = number (length rope.pieces) ++ (number (length rope.entities) ++ (number rope.rewritten ++ (flat_map stored_piece rope.pieces ++ flat_map stored_entity rope.entities)))

-- the numbers of a piece can be stored
abbrev pub IsPieceSmall : RopePiece → Type 0
IsPieceSmall (Range span) = (span.at < 2 ^ 64) × (span.len < 2 ^ 64)
IsPieceSmall (New octets) = length octets < 2 ^ 64

-- The numbers of an entity can be stored.
pub record IsEntitySmall (entity : Outline) : Type 0 where
  pub parent : parent_number entity.parent < 2 ^ 64
  pub depth : entity.depth < 2 ^ 32
  pub at : entity.at < 2 ^ 64
  pub body : entity.body < 2 ^ 64
  pub end : entity.end < 2 ^ 64

-- how many of the pieces are new
abbrev pub new_count : List RopePiece → ℕ
new_count [] = 0
new_count (Range span ∷ pieces) = new_count pieces
new_count (New octets ∷ pieces) = 1 + new_count pieces

-- How many of the pieces are ranges of the message.
abbrev pub range_count : List RopePiece → ℕ
range_count [] = 0
range_count (Range span ∷ pieces) = 1 + range_count pieces
range_count (New octets ∷ pieces) = range_count pieces

-- To each field that was made anew there is one new piece at most and one range before it, and then one more range.
abbrev pub HasFewPieces : List RopePiece → ℕ → Type 0
HasFewPieces pieces rewritten = (new_count pieces ≤ rewritten) × (range_count pieces ≤ rewritten + 1)

-- The number of an entity's parent can be stored.
abbrev pub HasSmallParent : Outline → Type 0
HasSmallParent entity = parent_number entity.parent < 2 ^ 64

-- These octets are the stored form of the rope.
pub record IsStoredRope (octets : List ℕ) (rope : RopeValue) : Type 0 where
  pub form : octets ≡ stored_form rope
  pub few : HasFewPieces rope.pieces rope.rewritten
  pub ranges : range_size rope.pieces < 2 ^ 63
  pub counts : (length rope.pieces < 2 ^ 64) × (length rope.entities < 2 ^ 64) × (rope.rewritten < 2 ^ 64)
  pub pieces : AllByRecursion IsPieceSmall rope.pieces
  pub entities : AllByRecursion IsEntitySmall rope.entities

-- the most octets that the stored form of a rope may have
abbrev pub stored_most : RopeValue → ℕ
stored_most rope = 64 + 64 * length rope.entities + 32 * rope.rewritten + new_size rope.pieces
