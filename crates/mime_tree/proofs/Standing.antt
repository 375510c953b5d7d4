-- What is said of entities whose fields are written anew: shared words of the lemmas.
use Rattle.std.proofs.Common.{◌≡◌, ℕ, ◌+◌, ◌≤◌, ◌⊎◌, List, [], ◌∷◌, ◌++◌, Bool, false, length, Option, map}
use Rattle.std.specs.List.{AllByRecursion, concat}
use Rattle.mail_wire.specs.Message.{IsSound}
use Rattle.utf8_fields.specs.declared.block.Field.{Field}
use Rattle.utf8_fields.specs.Block.{AreFields, raw_of}
use Rattle.utf8_fields.proofs.LineShapes.{AreLines, EndsOnce}
use Rattle.mime_tree.specs.declared.entity.Entity.{Entity}
use Rattle.mime_tree.specs.Marks.{is_delimiter, is_close}
use Rattle.mime_tree.specs.Parts.{size}
use Rattle.mime_tree.specs.Tree.{EntityRelation}
use Rattle.mime_tree.specs.Rewriting.{FieldRelation, RewritesBlocks, IsSameEntity, next_entity_place}

-- the text stands in the octets at this place
pub record Stands (octets : List ℕ) (at : ℕ) (text : List ℕ) : Type 0 where
  pub before : List ℕ
  pub after : List ℕ
  pub whole : octets ≡ before ++ (text ++ after)
  pub place : length before ≡ at

-- each line has its CRLF
abbrev pub AreEnded : List (List ℕ) → Type 0
AreEnded lines = AllByRecursion EndsOnce lines

-- no line of these is one of the boundary
pub record IsUnmarked (boundary line : List ℕ) : Type 0 where
  pub delimiter : is_delimiter boundary line ≡ false
  pub close : is_close boundary line ≡ false

abbrev pub AreUnmarked : List ℕ → List (List ℕ) → Type 0
AreUnmarked boundary lines = AllByRecursion (IsUnmarked boundary) lines

-- the lines of a block whose fields were written anew
pub record HasNewBlock (new : List ℕ) (at : ℕ) (header : List (List ℕ)) (made : List (List ℕ)) : Type 0 where
  pub lines : List (List ℕ)
  pub fields : List Field
  pub end : ℕ
  pub whole : concat lines ≡ concat made
  pub fields_are : AreFields lines at fields end
  pub raws : map (raw_of new) fields ≡ made
  pub are : AreLines lines
  pub sound : AllByRecursion IsSound lines
  pub ended : AreEnded header → AreEnded lines
  pub unmarked : (boundary : List ℕ) → AreUnmarked boundary header → AreUnmarked boundary lines

-- The entities stand in order between these places.
abbrev pub AreInOrder : ℕ → ℕ → List Entity → Type 0
AreInOrder from to [] = from ≤ to
AreInOrder from to (entity ∷ entities) = (from ≤ entity.at) × (entity.at ≤ entity.block.end) × AreInOrder entity.block.end to entities

-- Between the entity's block and the next entity, a place of the octets and one of the made octets are as far after their blocks.
pub record IsAfter (entity : Entity) (place next : ℕ) (other : Entity) (made_place : ℕ) : Type 0 where
  pub low : entity.block.end ≤ place
  pub high : place ≤ next
  pub same : made_place + entity.block.end ≡ place + other.block.end

-- The places are after the block of one of these entities.
abbrev pub AreAfter : ℕ → ℕ → List Entity → ℕ → List Entity → Type 0
AreAfter to place [] made_place others = ⊥
AreAfter to place (entity ∷ entities) made_place [] = ⊥
AreAfter to place (entity ∷ entities) made_place (other ∷ others) = IsAfter entity place (next_entity_place to entities) other made_place ⊎ AreAfter to place entities made_place others

-- An entity and the made one are the same, and their contents and ends are as far after blocks.
pub record IsKept (IsMade : FieldRelation) (octets : List ℕ) (to : ℕ) (entity : Entity) (entities : List Entity) (made : List ℕ) (made_to : ℕ) (other : Entity) (others : List Entity) : Type 0 where
  pub same : IsSameEntity IsMade octets entity (next_entity_place to entities) made other (next_entity_place made_to others)
  pub body : IsAfter entity entity.body (next_entity_place to entities) other other.body
  pub end : AreAfter to entity.end (entity ∷ entities) other.end (other ∷ others)

abbrev pub AreKept : FieldRelation → List ℕ → ℕ → List Entity → List ℕ → ℕ → List Entity → Type 0
AreKept IsMade octets to [] made made_to [] = Unit {0}
AreKept IsMade octets to [] made made_to (other ∷ others) = ⊥
AreKept IsMade octets to (entity ∷ entities) made made_to [] = ⊥
AreKept IsMade octets to (entity ∷ entities) made made_to (other ∷ others) = IsKept IsMade octets to entity entities made made_to other others × AreKept IsMade octets to entities made made_to others

-- Lines at a place of the octets, with the blocks of these entities, gave new lines at a place of the new octets, of which this holds.
pub record HasNewLines (IsMade : FieldRelation) (octets : List ℕ) (at : ℕ) (lines : List (List ℕ)) (entities : List Entity) (new : List ℕ) (new_at : ℕ) (made : List ℕ) (Holds : List (List ℕ) → List Entity → Type 0)
    : Type 0 where
  pub new_lines : List (List ℕ)
  pub others : List Entity
  pub whole : concat new_lines ≡ made
  pub are : AreLines new_lines
  pub sound : AllByRecursion IsSound lines → AllByRecursion IsSound new_lines
  pub unmarked : (boundary : List ℕ) → AreUnmarked boundary lines → AreUnmarked boundary new_lines
  pub holds : Holds new_lines others
  pub same : AreKept IsMade octets (at + size lines) entities new (new_at + length made) others

-- Where the one relation holds of lines, the other holds of the new ones.
abbrev pub Keeps : FieldRelation → List ℕ → List ℕ → EntityRelation → EntityRelation → Type 0
Keeps IsMade octets new IsOne IsOther =
    (parent : Option ℕ) (digest : Bool) (number at : ℕ) (lines : List (List ℕ)) (entities : List Entity) (made : List ℕ) (new_at : ℕ) → IsOne parent digest number at lines entities
    → AreLines lines → Stands octets at (concat lines) → RewritesBlocks IsMade octets at (at + size lines) entities made → Stands new new_at made
    → HasNewLines IsMade octets at lines entities new new_at made (λ new_lines others. IsOther parent digest number new_at new_lines others)
