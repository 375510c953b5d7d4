-- The fields of a tree's entities stand in the octets.
use Rattle.std.proofs.Common.{ℕ, zero, suc, ◌+◌, ◌≤◌, arith, List, [], ◌∷◌, Bool, false, length, Option, Some, None, sym, subst}
use Rattle.std.specs.List.{All, concat}
use Rattle.std.proofs.lemmas.List.Elements.{All-nil, All-cons, All-append}
use Rattle.mail_wire.specs.Lines.{lines_of}
use Rattle.mime_tree.specs.declared.entity.Entity.{Entity}
use Rattle.mime_tree.specs.declared.entity.Shape.{Shape}
use Rattle.mime_tree.specs.declared.openings.Opening.{Opening}
use Rattle.mime_tree.specs.declared.openings.Opening.TheVariants.{Nothing, Message, Parts}
use Rattle.mime_tree.specs.Openings.{AreFieldsWithin, AreFieldsJoined}
use Rattle.mime_tree.specs.Parts.{Part, parts_of}
use Rattle.mime_tree.specs.Tree.{IsWithInner, EntityRelation, AreParts, IsDivided, IsOpened, IsEntity, HasTree, depth_max}
use Rattle.mime_tree.proofs.LinesWithin.{AreLinesAt, ArePartsAt, all_lines, parts_of_at}
use Rattle.mime_tree.proofs.FieldsWithin.{stands_within, head_within}
use Rattle.mime_tree.proofs.InOrder.{head_places}

-- the fields of the entity's block stand in the octets
abbrev pub HasFieldsWithin : List ℕ → Entity → Type 0
HasFieldsWithin octets entity = AreFieldsWithin octets entity.block.fields

-- and they are joined up to the block's end, and the entity stands in the octets
pub record HasBlockWithin (octets : List ℕ) (entity : Entity) : Type 0 where
  pub fields : AreFieldsWithin octets entity.block.fields
  pub joined : AreFieldsJoined entity.at entity.block.fields entity.block.end
  pub begin : entity.at ≤ entity.body
  pub body : entity.body ≤ entity.end
  pub end : entity.end ≤ length octets

-- of lines that stand in the octets the fields of the entities do too
pub StandsWithin : List ℕ → EntityRelation → Type 0
StandsWithin octets IsOne = (parent : Option ℕ) (digest : Bool) (number at : ℕ) (lines : List (List ℕ)) (entities : List Entity) → IsOne parent digest number at lines entities → AreLinesAt octets at lines
    → All (HasBlockWithin octets) entities

-- the entities of parts
parts_within : (octets : List ℕ) (IsOne : EntityRelation) → StandsWithin octets IsOne → (parent : Option ℕ) (digest : Bool) (number : ℕ) (all : List Part) (entities : List Entity)
    → AreParts IsOne parent digest number all entities → ArePartsAt octets all → All (HasBlockWithin octets) entities
unfolding StandsWithin
parts_within octets IsOne stands parent digest number [] entities are at = rw are (All-nil (HasBlockWithin octets))
parts_within octets IsOne stands parent digest number (part ∷ all) entities are at =
    rw are.2 (All-append (HasBlockWithin octets) are.0 are.1 (stands parent digest number part.at part.lines are.0 are.3 at.0)
    (parts_within octets IsOne stands parent digest (number + length are.0) all are.1 are.4 at.1))

-- the entities in a content that is divided
divided_within : (octets : List ℕ) (IsOne : EntityRelation) → StandsWithin octets IsOne → (digest : Bool) (number : ℕ) (all : List Part) (shape : Shape) (inner : List Entity)
    → IsDivided IsOne digest number all shape inner → ArePartsAt octets all → All (HasBlockWithin octets) inner
divided_within octets IsOne stands digest number [] shape inner is at = rw is.1 (All-nil (HasBlockWithin octets))
divided_within octets IsOne stands digest number (part ∷ all) shape inner is at = parts_within octets IsOne stands (Some number) digest (number + 1) (part ∷ all) inner is.1 at

-- the entities in an opened one
opened_within : (octets : List ℕ) (IsOne : EntityRelation) → StandsWithin octets IsOne → (opening : Opening) (number body : ℕ) (content : List (List ℕ)) (shape : Shape) (inner : List Entity)
    → IsOpened IsOne opening number body content shape inner → AreLinesAt octets body content → All (HasBlockWithin octets) inner
unfolding StandsWithin
opened_within octets IsOne stands Nothing number body content shape inner is lines = rw is.1 (All-nil (HasBlockWithin octets))
opened_within octets IsOne stands Message number body content shape inner is lines = stands (Some number) false (number + 1) body content inner is.1 lines
opened_within octets IsOne stands (Parts boundary digest) number body content shape inner is lines =
    divided_within octets IsOne stands digest number (parts_of boundary body content) shape inner is (parts_of_at octets boundary body content lines)

-- the entity that is first, and those in it
with_within : (octets : List ℕ) (parent : Option ℕ) (depth at : ℕ) (lines : List (List ℕ)) (entities : List Entity) (is : IsWithInner parent depth at lines entities) → AreLinesAt octets at lines
    → (AreLinesAt octets is.entity.body is.content → All (HasBlockWithin octets) is.inner) → All (HasBlockWithin octets) entities
with_within octets parent depth at lines entities is stand inner =
    let head = head_within octets at lines is.entity.block is.entity.body is.content stand is.head in
    let places = head_places parent depth at lines entities is in
    let order = places.order in
    let after = places.content_after in
    let whole = places.whole in
    let at_is = is.at_is in
    let end_is = is.end_is in
    let fits = stands_within octets at (concat lines) stand.stand in
    let block : HasBlockWithin octets is.entity = record {
      fields = head.fields;
      joined = subst (λ n. AreFieldsJoined n is.entity.block.fields is.entity.block.end) (sym is.at_is) head.joined;
      begin = omega arith;
      body = omega arith;
      end = omega arith;
    } in
    rw is.entities_are (All-cons (HasBlockWithin octets) is.entity is.inner block (inner head.content_lines))

-- the entities of one entity, by its levels
entity_within : (levels : ℕ) (octets : List ℕ) → StandsWithin octets (IsEntity levels octets)
unfolding StandsWithin IsEntity
entity_within zero octets = λ parent digest number at lines entities is stand.
    with_within octets parent (depth_max + 1) at lines entities is.0 stand (λ content. rw is.2 (All-nil (HasBlockWithin octets)))
entity_within (suc levels) octets = λ parent digest number at lines entities is stand.
    with_within octets parent _ at lines entities is.0 stand
    (λ content. opened_within octets (IsEntity levels octets) (entity_within levels octets) is.1 number is.0.entity.body is.0.content is.0.entity.shape is.0.inner is.3 content)

-- The block of every entity of a tree stands in the octets.
pub tree_blocks : (octets : List ℕ) (entities : List Entity) → HasTree octets entities → All (HasBlockWithin octets) entities
unfolding StandsWithin
tree_blocks octets entities tree = entity_within depth_max octets None false 0 0 (lines_of octets) entities tree.root (all_lines octets)

-- The raw octets of the fields of every entity of a tree stand in the octets and are a field.
pub tree_fields : (octets : List ℕ) (entities : List Entity) → HasTree octets entities → All (λ entity. AreFieldsWithin octets entity.block.fields) entities
tree_fields octets entities tree = λ i d inside. (tree_blocks octets entities tree i d inside).fields
