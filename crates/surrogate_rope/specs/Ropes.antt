-- What a rope is of: pieces that give a surrogate, its entities, and how many fields were made anew.
use Rattle.std.specs.Prelude.{◌≡◌, ℕ, ◌+◌, ◌≤◌, List, [], ◌∷◌, ◌++◌, if◌then◌else◌, length, slice_range}
use Rattle.std.specs.List.{AllZip}
use Rattle.std.specs.Str.{bytes_eq}
use Rattle.mail_wire.specs.declared.values.Span.{Span}
use Rattle.mime_tree.specs.declared.entity.Entity.{Entity}
use Rattle.mime_tree.specs.Outlines.{Outline, outlines_of}
use Rattle.mime_tree.specs.Rewriting.{FieldRelation}
use Rattle.mime_tree.specs.Tree.{HasTree, raws_of}
use Rattle.field_downgrade.specs.Stands.{HasFieldLayout}
use Rattle.surrogate_rope.specs.Layout.{HasLayout, InEntity, IsSurrogate}

-- a range of the message, or new octets
pub data RopePiece : Type 0 where
  Range : Span → RopePiece
  New : List ℕ → RopePiece

-- The octets of a piece: a range of the message, or new ones.
abbrev pub piece_octets : List ℕ → RopePiece → List ℕ
piece_octets msg (Range span) = slice_range msg span.at (span.at + span.len)
piece_octets msg (New octets) = octets

-- How many octets a piece has.
abbrev pub piece_size : RopePiece → ℕ
piece_size (Range span) = span.len
piece_size (New octets) = length octets

-- The piece is new, or stands within the message.
abbrev pub IsWithin : List ℕ → RopePiece → Type 0
IsWithin msg (Range span) = span.at + span.len ≤ length msg
IsWithin msg (New octets) = Unit {0}

-- A rope: its pieces, the entities of the surrogate, and how many fields were rewritten.
pub record RopeValue : Type 0 where
  pub pieces : List RopePiece
  pub entities : List Outline
  pub rewritten : ℕ

-- The octets of the pieces, one after another.
abbrev pub joined_pieces : List ℕ → List RopePiece → List ℕ
joined_pieces msg [] = []
joined_pieces msg (piece ∷ pieces) = piece_octets msg piece ++ joined_pieces msg pieces

-- the octets that the rope gives with the message
abbrev pub octets_of : List ℕ → RopeValue → List ℕ
octets_of msg rope = joined_pieces msg rope.pieces

-- how many octets pieces have
abbrev pub size_of : List RopePiece → ℕ
size_of [] = 0
size_of (piece ∷ pieces) = piece_size piece + size_of pieces

-- Each piece is new, or stands within the message.
abbrev pub AreWithin : List ℕ → List RopePiece → Type 0
AreWithin msg [] = Unit {0}
AreWithin msg (piece ∷ pieces) = IsWithin msg piece × AreWithin msg pieces

-- how many of the fields differ
abbrev pub changed : List (List ℕ) → List (List ℕ) → ℕ
changed [] others = 0
changed (raw ∷ raws) [] = 0
changed (raw ∷ raws) (other ∷ others) = (if bytes_eq raw other then 0 else 1) + changed raws others

-- So many of the fields that are made for the entities' blocks differ from the message's own.
abbrev pub CountsChanged : FieldRelation → List ℕ → List Entity → ℕ → Type 0
CountsChanged IsMade msg [] count = count ≡ 0
CountsChanged IsMade msg (entity ∷ entities) count =
    (fields : List (List ℕ)) × (rest : ℕ) × AllZip (IsMade entity) (raws_of msg entity.block) fields × (count ≡ changed (raws_of msg entity.block) fields + rest)
    × CountsChanged IsMade msg entities rest

-- what the fields weigh that differ
abbrev pub changed_by : (List ℕ → ℕ) → List (List ℕ) → List (List ℕ) → ℕ
changed_by weigh [] others = 0
changed_by weigh (raw ∷ raws) [] = 0
changed_by weigh (raw ∷ raws) (other ∷ others) = (if bytes_eq raw other then 0 else weigh other) + changed_by weigh raws others

-- The fields of the entities' blocks weigh so much that are others than those that they gave.
abbrev pub WeighsChanged : (List ℕ → ℕ) → FieldRelation → List ℕ → List Entity → ℕ → Type 0
WeighsChanged weigh IsMade msg [] sum = sum ≡ 0
WeighsChanged weigh IsMade msg (entity ∷ entities) sum =
    (fields : List (List ℕ)) × (rest : ℕ) × AllZip (IsMade entity) (raws_of msg entity.block) fields × (sum ≡ changed_by weigh (raws_of msg entity.block) fields + rest)
    × WeighsChanged weigh IsMade msg entities rest

-- how many octets of the message the pieces have
abbrev pub range_size : List RopePiece → ℕ
range_size [] = 0
range_size (Range span ∷ pieces) = span.len + range_size pieces
range_size (New octets ∷ pieces) = range_size pieces

-- how many octets new pieces have
abbrev pub new_size : List RopePiece → ℕ
new_size [] = 0
new_size (Range span ∷ pieces) = new_size pieces
new_size (New octets ∷ pieces) = length octets + new_size pieces

-- The rope has as many octets of its own as the fields of the layout that are others than the message's.
abbrev pub HasNewFields : List ℕ → List Entity → RopeValue → Type 0
HasNewFields msg entities rope = WeighsChanged length (InEntity HasFieldLayout msg) msg entities (new_size rope.pieces)

-- The pieces give the layout of the message, which is a surrogate; the entities are those of the surrogate's tree; so many fields of the
-- layout are others than the message's.
pub record IsRopeOf (msg : List ℕ) (rope : RopeValue) : Type 0 where
  pub entities : List Entity
  pub tree : HasTree msg entities
  pub within : AreWithin msg rope.pieces
  pub layout : HasLayout msg entities (octets_of msg rope)
  pub others : List Entity
  pub made_tree : HasTree (octets_of msg rope) others
  pub outlines : rope.entities ≡ outlines_of others
  pub count : CountsChanged (InEntity HasFieldLayout msg) msg entities rope.rewritten
  pub surrogate : IsSurrogate msg (octets_of msg rope)
