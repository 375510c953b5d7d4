-- The steps that make a surrogate.
use Rattle.std.specs.Prelude.{◌≡◌, ◌<◌, ◌≤◌, ℕ, ◌+◌, ◌-◌, ◌^◌, List, [], ◌∷◌, ◌++◌, if◌then◌else◌, nat_lt, length, slice_range}
use Rattle.std.specs.List.{AllByRecursion, AllZip, concat}
use Rattle.std.specs.List.Sorted.{IsNonDecreasingBy}
use Rattle.std.specs.Str.{bytes_eq}
use Rattle.field_downgrade.specs.Message.{IsServedField}
use Rattle.mime_tree.specs.declared.entity.Entity.{Entity}
use Rattle.mime_tree.specs.Rewriting.{RewritesBlocks}
use Rattle.surrogate_rope.specs.declared.building.Made.{Made}
use Rattle.surrogate_rope.specs.declared.moving.End.{End}
use Rattle.surrogate_rope.specs.Layout.{InEntity}
use Rattle.surrogate_rope.specs.Ropes.{RopePiece, Range, AreWithin, joined_pieces, range_size, new_size, size_of, changed_by, WeighsChanged}
use Rattle.surrogate_rope.specs.Stored.{HasFewPieces, new_count, range_count}
use Rattle.surrogate_rope.specs.private.Moving.{IsNear, AreEnds}

-- the pieces with the octets of the message up to this place that are kept
abbrev pub with_kept : Made → ℕ → List RopePiece
with_kept made to = if nat_lt made.from to then made.pieces ++ Range (record { at = made.from; len = to - made.from }) ∷ [] else made.pieces

-- The octets of the message up to this place are made.
pub record ReachesPlace (msg : List ℕ) (at : ℕ) (made : Made) : Type 0 where
  pub from : made.from ≤ at
  pub fits : at ≤ length msg
  pub within : AreWithin msg made.pieces
  pub kept : range_size made.pieces ≤ made.from
  pub fresh : new_size made.pieces < 2 ^ 63
  pub few : made.rewritten ≤ length made.pieces
  pub new : new_count made.pieces ≤ made.rewritten
  pub ranges : range_count made.pieces ≤ made.rewritten

-- the octets that are made, how many fields were made anew, and how many octets these have
pub record Written : Type 0 where
  pub octets : List ℕ
  pub rewritten : ℕ
  pub fresh : ℕ

abbrev pub written : List ℕ → ℕ → Made → Written
written msg at made = record { octets = joined_pieces msg made.pieces ++ slice_range msg made.from at; rewritten = made.rewritten; fresh = new_size made.pieces }

-- The octets of the message between these places were put last.
pub record Copies (msg : List ℕ) (from to : ℕ) (old new : Written) : Type 0 where
  pub octets : new.octets ≡ old.octets ++ slice_range msg from to
  pub rewritten : new.rewritten ≡ old.rewritten
  pub fresh : new.fresh ≡ old.fresh

-- where this place of the message is in what is made
abbrev pub end_at : ℕ → Made → End
end_at at made = record { at = at; made = size_of made.pieces + (at - made.from) }

-- each field counts as one
abbrev pub one : List ℕ → ℕ
one field = 1

-- A field was put last, and counted if it is another one.
pub record AddsField (Holds : List ℕ → Type 0) (raw : List ℕ) (old new : Written) : Type 0 where
  pub field : List ℕ
  pub holds : Holds field
  pub octets : new.octets ≡ old.octets ++ field
  pub counted : new.rewritten ≡ (if bytes_eq raw field then 0 else 1) + old.rewritten
  pub sized : new.fresh ≡ (if bytes_eq raw field then 0 else length field) + old.fresh

-- The fields of a block were put last, and those that are others counted.
pub record AddsBlock (IsMade : List ℕ → List ℕ → Type 0) (raws : List (List ℕ)) (old new : Written) : Type 0 where
  pub fields : List (List ℕ)
  pub each : AllZip IsMade raws fields
  pub octets : new.octets ≡ old.octets ++ concat fields
  pub counted : new.rewritten ≡ changed_by one raws fields + old.rewritten
  pub sized : new.fresh ≡ changed_by length raws fields + old.fresh

-- Each block is served, all else is copied, and the count and the size are those of the fields that are others.
pub record HasServedBlocks (msg : List ℕ) (entities : List Entity) (made : Written) : Type 0 where
  pub blocks : RewritesBlocks (InEntity IsServedField msg) msg 0 (length msg) entities made.octets
  pub counted : WeighsChanged one (InEntity IsServedField msg) msg entities made.rewritten
  pub sized : WeighsChanged length (InEntity IsServedField msg) msg entities made.fresh

-- The same of pieces, and the blocks end there.
pub record IsAllMade (msg : List ℕ) (entities : List Entity) (made : Made) (ends : List End) : Type 0 where
  pub blocks : HasServedBlocks msg entities (record { octets = joined_pieces msg made.pieces; rewritten = made.rewritten; fresh = new_size made.pieces })
  pub within : AreWithin msg made.pieces
  pub few : HasFewPieces made.pieces made.rewritten
  pub near : AllByRecursion IsNear ends
  pub to : ℕ
  pub made_to : ℕ
  pub ends_are : AreEnds (InEntity IsServedField msg) msg 0 0 entities ends to made_to
  pub rise : IsNonDecreasingBy (λ (end : End). end.at) ends
