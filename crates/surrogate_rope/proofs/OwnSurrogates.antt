-- A surrogate of a surrogate is itself.
use Rattle.std.proofs.Common.{◌≡◌, ℕ, ◌+◌, ◌-◌, ◌≤◌, true, false, List, [], ◌∷◌, ◌++◌, length, take, map, refl, sym, ap, ◌∙◌, subst, arith}
use Rattle.std.specs.Prelude.{slice_range}
use Rattle.std.specs.List.{All, AllByRecursion, AllZip, concat, list_all}
use Rattle.std.proofs.lemmas.List.{take_all}
use Rattle.std.proofs.lemmas.List.Elements.{All-head, All-tail}
use Rattle.mail_wire.specs.Octets.{is_ascii}
use Rattle.utf8_fields.specs.declared.block.Field.{Field}
use Rattle.utf8_fields.specs.Block.{raw_of}
use Rattle.field_downgrade.specs.Stands.{HasFieldLayout, Copied}
use Rattle.mime_tree.specs.declared.entity.Entity.{Entity}
use Rattle.mime_tree.specs.Openings.{AreFieldsJoined}
use Rattle.mime_tree.specs.Rewriting.{FieldRelation, RewritesBlocks, AreSame, next_entity_place}
use Rattle.mime_tree.specs.Tree.{HasTree, raws_of}
use Rattle.mime_tree.proofs.InOrder.{slices_join}
use Rattle.mime_tree.proofs.KeptTrees.{tree_order}
use Rattle.mime_tree.proofs.Standing.{AreInOrder}
use Rattle.mime_tree.proofs.TreeFields.{HasBlockWithin, tree_blocks}
use Rattle.surrogate_rope.specs.Layout.{InEntity, IsOpenGlobal, StandsInAscii, HasLayout, HasSurrogate, IsSurrogate, IsItsOwnSurrogate}
use Rattle.surrogate_rope.specs.Ropes.{RopeValue, IsRopeOf, octets_of}
use Rattle.surrogate_rope.proofs.AddedBlocks.{nothing_between, order_le}
use Rattle.surrogate_rope.proofs.AllSurrogates.{some_surrogate}
use Rattle.surrogate_rope.proofs.OneLayout.{one_layout}
use Rattle.surrogate_rope.proofs.OpenGlobals.{closed}
use Rattle.surrogate_rope.proofs.SurrogateBlocks.{ascii_fields}
use Rattle.surrogate_rope.proofs.SurrogateTypes.{none_open}

-- fields that are joined are what stands between the places
joined_le : (at : ℕ) (fields : List Field) (end : ℕ) → AreFieldsJoined at fields end → at ≤ end
joined_le at [] end joined = omega (arith, joined)
joined_le at (field ∷ fields) end joined = let later = joined_le (at + field.raw.len) fields end joined.1 in omega arith

joined_octets : (octets : List ℕ) (at : ℕ) (fields : List Field) (end : ℕ) → AreFieldsJoined at fields end → concat (map (raw_of octets) fields) ≡ slice_range octets at end
joined_octets octets at [] end joined = rw joined (sym (nothing_between octets end))
joined_octets octets at (field ∷ fields) end joined =
    let later = joined_octets octets (at + field.raw.len) fields end joined.1 in
    let first : raw_of octets field ≡ slice_range octets at (at + field.raw.len) = ap (λ n. slice_range octets n (n + field.raw.len)) joined.0 in
    rw (first, later) (sym (slices_join octets at (at + field.raw.len) end (omega arith) (joined_le (at + field.raw.len) fields end joined.1)))

-- each field of the entity gives itself
abbrev KeepsFields : FieldRelation → List ℕ → Entity → Type 0
KeepsFields IsMade octets entity = AllZip (IsMade entity) (raws_of octets entity.block) (raws_of octets entity.block)

-- Where each field gives itself, the blocks that are written anew are those that stand there.
blocks_kept : (IsMade : FieldRelation) (octets : List ℕ) (from : ℕ) (entities : List Entity) → AreInOrder from (length octets) entities → All (HasBlockWithin octets) entities → AllByRecursion (KeepsFields IsMade octets) entities
    → RewritesBlocks IsMade octets from (length octets) entities (slice_range octets from (length octets))
blocks_kept IsMade octets from [] order within keeps = refl
blocks_kept IsMade octets from (entity ∷ entities) order within keeps =
    let end = order_le entity.block.end (length octets) entities order.2 in
    let first = order.0 in
    let second = order.1 in
    let fields = joined_octets octets entity.at entity.block.fields entity.block.end (All-head (HasBlockWithin octets) entity entities within).joined in (
      raws_of octets entity.block,
      slice_range octets entity.block.end (length octets),
      keeps.0,
      rw fields (slices_join octets from entity.at (length octets) first (omega arith)
          ∙ ap (λ text. slice_range octets from entity.at ++ text) (slices_join octets entity.at entity.block.end (length octets) second end)),
      blocks_kept IsMade octets entity.block.end entities order.2 (All-tail (HasBlockWithin octets) entity entities within) keeps.1,
    )

-- an ASCII field outside an opened message/global has itself as its layout
fields_kept : (made : List ℕ) (other : Entity) (raws : List (List ℕ)) → ¬ IsOpenGlobal made other → AllByRecursion (λ raw. list_all is_ascii raw ≡ true) raws → AllZip (InEntity HasFieldLayout made other) raws raws
fields_kept made other [] none ascii = tt
fields_kept made other (raw ∷ raws) none ascii =
    (record { open_global = false; is_open = closed made other none; holds = Copied ascii.0 (λ changed. changed) refl }, fields_kept made other raws none ascii.1)

entities_kept : (msg : List ℕ) (to : ℕ) (entities : List Entity) (made : List ℕ) (made_to : ℕ) (others : List Entity) → AreSame (InEntity StandsInAscii msg) msg to entities made made_to others
    → AllByRecursion (KeepsFields (InEntity HasFieldLayout made) made) others
entities_kept msg to [] made made_to [] are = tt
entities_kept msg to [] made made_to (other ∷ others) are = absurd are
entities_kept msg to (entity ∷ entities) made made_to [] are = absurd are
entities_kept msg to (entity ∷ entities) made made_to (other ∷ others) are = (
  fields_kept made other (raws_of made other.block) (none_open msg entity (next_entity_place to entities) made other (next_entity_place made_to others) are.0)
      (ascii_fields msg entity (raws_of msg entity.block) (raws_of made other.block) are.0.fields),
  entities_kept msg to entities made made_to others are.1,
)

-- The layout of a surrogate is itself.
own_layout : (msg made : List ℕ) (is : IsSurrogate msg made) → HasLayout made is.others made
own_layout msg made is =
    let kept = entities_kept msg (length msg) is.entities made (length made) is.others is.same in
    let blocks = blocks_kept (InEntity HasFieldLayout made) made 0 is.others (tree_order made is.others is.made_tree) (tree_blocks made is.others is.made_tree) kept in
    let size : length made - 0 ≡ length made = omega arith in
    let all : slice_range made 0 (length made) ≡ made = ap (λ n. take n made) size ∙ take_all (length made) made (omega arith) in
    subst (λ octets. RewritesBlocks (InEntity HasFieldLayout made) made 0 (length made) is.others octets) all blocks

-- Every surrogate is its own.
pub own_surrogate : (msg made : List ℕ) → IsSurrogate msg made → IsItsOwnSurrogate made
own_surrogate msg made is =
    let some = some_surrogate made is.others is.made_tree in
    let same : some.0 ≡ made = one_layout made some.0 made some.1.entities is.others some.1.tree is.made_tree some.1.layout (own_layout msg made is) in
    subst (λ octets. HasSurrogate made octets) same some.1

-- So is what a rope gives.
pub own_rope : (msg : List ℕ) (rope : RopeValue) → IsRopeOf msg rope → IsItsOwnSurrogate (octets_of msg rope)
own_rope msg rope is = own_surrogate msg (octets_of msg rope) is.surrogate

-- A surrogate of a surrogate is no other one.
pub no_other_surrogate : (msg made other : List ℕ) → HasSurrogate msg made → HasSurrogate made other → other ≡ made
no_other_surrogate msg made other has also =
    let own = own_surrogate msg made has.surrogate in one_layout made other made also.entities own.entities also.tree own.tree also.layout own.layout
