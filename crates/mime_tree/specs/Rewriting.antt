-- Octets whose header blocks are written anew, and the trees of both.
use Rattle.std.specs.Prelude.{◌≡◌, ℕ, ◌+◌, ◌-◌, ◌⊎◌, List, [], ◌∷◌, ◌++◌, Bool, false, if◌then◌else◌, nat_eq, nat_le, length, map, slice_range}
use Rattle.std.specs.List.{AllZip, concat, starts_with}
use Rattle.mail_wire.specs.Message.{IsNul}
use Rattle.utf8_fields.specs.Parts.{FieldParts, HasParts}
use Rattle.mime_tree.specs.declared.entity.Entity.{Entity}
use Rattle.mime_tree.specs.declared.entity.Shape.TheVariants.{Leaf}
use Rattle.mime_tree.specs.declared.openings.Opening.{Opening}
use Rattle.mime_tree.specs.Marks.{dashes}
use Rattle.mime_tree.specs.Openings.{Opens}
use Rattle.mime_tree.specs.Outlines.{Outline}
use Rattle.mime_tree.specs.Tree.{raws_of}

-- a field of this entity, by its raw octets, gave this made one
abbrev pub FieldRelation : Type 1
FieldRelation = Entity → List ℕ → List ℕ → Type 0

-- The octets between these places with the blocks of the entities, which stand there in order, written anew: each field gave a made one. All else is copied.
abbrev pub RewritesBlocks : FieldRelation → List ℕ → ℕ → ℕ → List Entity → List ℕ → Type 0
RewritesBlocks IsMade octets from to [] made = made ≡ slice_range octets from to
RewritesBlocks IsMade octets from to (entity ∷ entities) made =
    (fields : List (List ℕ)) × (rest : List ℕ) × AllZip (IsMade entity) (raws_of octets entity.block) fields × (made ≡ slice_range octets from entity.at ++ (concat fields ++ rest))
    × RewritesBlocks IsMade octets entity.block.end to entities rest

-- The made field ends as the other one does, and has no NUL where that has none. Where it is another, its line can't be one of a boundary.
pub record KeepsLine (raw made : List ℕ) : Type 0 where
  pub f : FieldParts
  pub g : FieldParts
  pub is_field : HasParts raw f
  pub made_field : HasParts made g
  pub ending : g.ending ≡ f.ending
  pub no_nul : ((place : ℕ) → ¬ IsNul raw place) → (place : ℕ) → ¬ IsNul made place
  pub no_dashes : (made ≡ raw) ⊎ (starts_with nat_eq made dashes ≡ false)

-- Made fields keep their lines, and open an entity as the others do.
pub record KeepsTrees (IsMade : FieldRelation) (octets : List ℕ) : Type 0 where
  pub lines : (entity : Entity) (raw made : List ℕ) → IsMade entity raw made → KeepsLine raw made
  pub opens : (entity : Entity) (fields : List (List ℕ)) (digest : Bool) (opening : Opening) → AllZip (IsMade entity) (raws_of octets entity.block) fields
      → Opens digest (raws_of octets entity.block) opening → Opens digest fields opening

-- where the first of the entities begins, and with none where all ends
abbrev pub next_entity_place : ℕ → List Entity → ℕ
next_entity_place to [] = to
next_entity_place to (entity ∷ entities) = entity.at

-- An entity of the octets, up to the next one's place, and one of the made octets: each field gave the made one, and what isn't in blocks is the same.
pub record IsSameEntity (IsMade : FieldRelation) (octets : List ℕ) (entity : Entity) (next : ℕ) (made : List ℕ) (other : Entity) (other_next : ℕ) : Type 0 where
  pub parent : other.parent ≡ entity.parent
  pub depth : other.depth ≡ entity.depth
  pub shape : other.shape ≡ entity.shape
  pub fields : AllZip (IsMade entity) (raws_of octets entity.block) (raws_of made other.block)
  pub following : slice_range made other.block.end other_next ≡ slice_range octets entity.block.end next
  pub content : entity.shape ≡ Leaf → slice_range made other.body other.end ≡ slice_range octets entity.body entity.end

-- The entities of the octets and those of the made octets, in order.
abbrev pub AreSame : FieldRelation → List ℕ → ℕ → List Entity → List ℕ → ℕ → List Entity → Type 0
AreSame IsMade octets to [] made made_to [] = Unit {0}
AreSame IsMade octets to [] made made_to (other ∷ others) = ⊥
AreSame IsMade octets to (entity ∷ entities) made made_to [] = ⊥
AreSame IsMade octets to (entity ∷ entities) made made_to (other ∷ others) =
    IsSameEntity IsMade octets entity (next_entity_place to entities) made other (next_entity_place made_to others) × AreSame IsMade octets to entities made made_to others

-- the fields of the entities' blocks
abbrev pub blocks_of : List ℕ → List Entity → List (List (List ℕ))
blocks_of octets entities = map (λ (entity : Entity). raws_of octets entity.block) entities

-- how many octets the fields have, if the entity's block ends at or before the place
abbrev pub size_before : Entity → List (List ℕ) → ℕ → ℕ
size_before entity fields place = if nat_le entity.block.end place then length (concat fields) else 0

-- How many octets the fields have of all blocks that end at or before the place: to each entity its fields, as they are or as they are made
-- anew.
abbrev pub sizes_before : List Entity → List (List (List ℕ)) → ℕ → ℕ
sizes_before [] blocks place = 0
sizes_before (entity ∷ entities) [] place = 0
sizes_before (entity ∷ entities) (fields ∷ blocks) place = size_before entity fields place + sizes_before entities blocks place

-- Where a place of the octets is in the made ones: their fields of the blocks that end at or before it have so many octets more than the octets' own.
abbrev pub moved : List ℕ → List Entity → List (List (List ℕ)) → ℕ → ℕ
moved octets entities made place = place + sizes_before entities made place - sizes_before entities (blocks_of octets entities) place

-- an entity with its places moved
abbrev pub moved_outline : (ℕ → ℕ) → Outline → Outline
moved_outline to outline = record { parent = outline.parent; depth = outline.depth; at = to outline.at; body = to outline.body; end = to outline.end; shape = outline.shape }
