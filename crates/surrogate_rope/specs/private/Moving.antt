-- Where places of a message are in its surrogate, by the ends of blocks.
use Rattle.std.specs.Prelude.{◌≡◌, ◌<◌, ◌≤◌, ℕ, ◌+◌, ◌-◌, ◌^◌, List, [], ◌∷◌, if◌then◌else◌, nat_le, length}
use Rattle.std.specs.List.{AllZip, concat}
use Rattle.mime_tree.specs.declared.entity.Entity.{Entity}
use Rattle.mime_tree.specs.Outlines.{Outline}
use Rattle.mime_tree.specs.Rewriting.{FieldRelation}
use Rattle.mime_tree.specs.Tree.{raws_of}
use Rattle.surrogate_rope.specs.declared.moving.End.{End}

-- As far after the last block that ends at or before the place as in the message. Where there is none, as far after where all begins.
abbrev pub moved_by : ℕ → ℕ → List End → ℕ → ℕ
moved_by from made_from [] place = made_from + (place - from)
moved_by from made_from (end ∷ ends) place = if nat_le end.at place then moved_by end.at end.made ends place else made_from + (place - from)

-- The block ends so little further on in the surrogate that any place after it can be counted there.
abbrev pub IsNear : End → Type 0
IsNear end = end.made ≤ end.at + 2 ^ 63

-- The places of an entity are those of a list of octets.
pub record HasPlaces (outline : Outline) : Type 0 where
  pub at : outline.at < 2 ^ 63
  pub body : outline.body < 2 ^ 63
  pub end : outline.end < 2 ^ 63

-- The entity's block ends there, in the message and, with made fields, in the surrogate.
pub record IsEnd (IsMade : FieldRelation) (msg : List ℕ) (from made_from : ℕ) (entity : Entity) (end : End) : Type 0 where
  pub fields : List (List ℕ)
  pub each : AllZip (IsMade entity) (raws_of msg entity.block) fields
  pub order : from ≤ entity.at
  pub span : entity.at ≤ end.at
  pub at : end.at ≡ entity.block.end
  pub made : end.made ≡ made_from + (entity.at - from) + length (concat fields)

-- The blocks end there, between the first places and the last ones.
abbrev pub AreEnds : FieldRelation → List ℕ → ℕ → ℕ → List Entity → List End → ℕ → ℕ → Type 0
AreEnds IsMade msg from made_from [] [] to made_to = (from ≡ to) × (made_from ≡ made_to)
AreEnds IsMade msg from made_from [] (end ∷ ends) to made_to = ⊥
AreEnds IsMade msg from made_from (entity ∷ entities) [] to made_to = ⊥
AreEnds IsMade msg from made_from (entity ∷ entities) (end ∷ ends) to made_to = IsEnd IsMade msg from made_from entity end × AreEnds IsMade msg end.at end.made entities ends to made_to
