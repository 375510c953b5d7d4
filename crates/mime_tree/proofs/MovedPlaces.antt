-- Where the entities of octets are when their fields are written anew: each place is moved by what the blocks before it have more.
use Rattle.std.proofs.Common.{◌≡◌, ℕ, ◌+◌, ◌<◌, ◌≤◌, inl, inr, List, [], ◌∷◌, ◌++◌, true, false, nat_le, length, map, refl, sym, ap, ◌∙◌, arith, length-append}
use Rattle.std.specs.List.{All, AllZip, concat}
use Rattle.std.proofs.lemmas.Bool.{cases_Bool, leb-true, le-leb}
use Rattle.std.proofs.lemmas.List.Elements.{All-head, All-tail}
use Rattle.utf8_fields.specs.declared.block.Field.{Field}
use Rattle.utf8_fields.specs.Block.{raw_of}
use Rattle.mime_tree.specs.declared.entity.Entity.{Entity}
use Rattle.mime_tree.specs.Openings.{AreFieldsWithin, AreFieldsJoined}
use Rattle.mime_tree.specs.Outlines.{outline_of, outlines_of}
use Rattle.mime_tree.specs.Tree.{raws_of}
use Rattle.mime_tree.specs.Rewriting.{FieldRelation, KeepsTrees, AreSame, next_entity_place, blocks_of, size_before, sizes_before, moved, moved_outline}
use Rattle.mime_tree.proofs.Standing.{AreInOrder, IsAfter, AreAfter, AreKept}
use Rattle.mime_tree.proofs.FieldsWithin.{IsFieldWithin}
use Rattle.mime_tree.proofs.TreeFields.{HasBlockWithin}
use Rattle.mime_tree.proofs.NewEntities.{slice_length}

-- fields that are joined have as many octets as there are between the places
pub joined_size : (octets : List ℕ) (at : ℕ) (fields : List Field) (end : ℕ) → AreFieldsWithin octets fields → AreFieldsJoined at fields end → end ≡ at + length (concat (map (raw_of octets) fields))
joined_size octets at [] end within joined = omega (arith, joined)
joined_size octets at (field ∷ fields) end within joined =
    let later = joined_size octets (at + field.raw.len) fields end (All-tail (IsFieldWithin octets) field fields within) joined.1 in
    let fits = (All-head (IsFieldWithin octets) field fields within).0 in
    let size = slice_length octets field.raw.at (field.raw.at + field.raw.len) (omega arith) fits in
    omega (arith, later, size, length-append (raw_of octets field) (concat (map (raw_of octets) fields)))

-- A block and the made one begin as far after the places as each other, and end after their fields. Where the one has no octet the other has none.
pub record IsMoving (octets : List ℕ) (from : ℕ) (entity : Entity) (made : List ℕ) (made_from : ℕ) (other : Entity) : Type 0 where
  pub low : from ≤ entity.at
  pub gap : other.at + from ≡ entity.at + made_from
  pub end : entity.block.end ≡ entity.at + length (concat (raws_of octets entity.block))
  pub made_end : other.block.end ≡ other.at + length (concat (raws_of made other.block))
  pub none : length (concat (raws_of octets entity.block)) ≡ 0 → length (concat (raws_of made other.block)) ≡ 0

abbrev pub AreMoving : List ℕ → ℕ → List Entity → List ℕ → ℕ → List Entity → Type 0
AreMoving octets from [] made made_from [] = Unit {0}
AreMoving octets from [] made made_from (other ∷ others) = ⊥
AreMoving octets from (entity ∷ entities) made made_from [] = ⊥
AreMoving octets from (entity ∷ entities) made made_from (other ∷ others) = IsMoving octets from entity made made_from other × AreMoving octets entity.block.end entities made other.block.end others

-- The made place is as far after as the place is, and by what the blocks before it have more.
abbrev pub Meets : List ℕ → ℕ → List Entity → List ℕ → ℕ → List Entity → ℕ → ℕ → Type 0
Meets octets from entities made made_from others place made_place =
    made_place + sizes_before entities (blocks_of octets entities) place + from ≡ place + sizes_before entities (blocks_of made others) place + made_from

pub counted : (entity : Entity) (fields : List (List ℕ)) (place : ℕ) → entity.block.end ≤ place → size_before entity fields place ≡ length (concat fields)
counted entity fields place low = elim (cases_Bool (nat_le entity.block.end place)) [
  | inl is ↦ rw is refl
  | inr is ↦ absurd (past is)
]
  where
    past : nat_le entity.block.end place ≡ false → ⊥
    past is = let yes = le-leb entity.block.end place low in let clash : true ≡ false = sym yes ∙ is in cc clash

-- no octets before or at the block's begin are counted
pub uncounted : (entity : Entity) (fields : List (List ℕ)) (place : ℕ) → (entity.block.end ≤ place → length (concat fields) ≡ 0) → size_before entity fields place ≡ 0
uncounted entity fields place none = elim (cases_Bool (nat_le entity.block.end place)) [
  | inl is ↦ rw is (none (leb-true entity.block.end place is))
  | inr is ↦ rw is refl
]

record CountsNone (octets : List ℕ) (entities : List Entity) (made : List ℕ) (others : List Entity) (place : ℕ) : Type 0 where
  old : sizes_before entities (blocks_of octets entities) place ≡ 0
  new : sizes_before entities (blocks_of made others) place ≡ 0

none_yet : (octets : List ℕ) (from : ℕ) (entities : List Entity) (made : List ℕ) (made_from : ℕ) (others : List Entity) (place : ℕ) → AreMoving octets from entities made made_from others → place ≤ from
    → CountsNone octets entities made others place
none_yet octets from [] made made_from [] place are less = record { old = refl; new = refl }
none_yet octets from [] made made_from (other ∷ others) place are less = absurd are
none_yet octets from (entity ∷ entities) made made_from [] place are less = absurd are
none_yet octets from (entity ∷ entities) made made_from (other ∷ others) place are less =
    let low = are.0.low in
    let end = are.0.end in
    let rest = none_yet octets entity.block.end entities made other.block.end others place are.1 (omega arith) in
    let empty : entity.block.end ≤ place → length (concat (raws_of octets entity.block)) ≡ 0 = λ past. omega (arith, past) in
    record {
      old = omega (arith, rest.old, uncounted entity (raws_of octets entity.block) place empty);
      new = omega (arith, rest.new, uncounted entity (raws_of made other.block) place (λ past. are.0.none (empty past)));
    }

-- none after a place that the next entity isn't before
none_following : (octets : List ℕ) (from to : ℕ) (entities : List Entity) (made : List ℕ) (made_from : ℕ) (others : List Entity) (place : ℕ) → AreMoving octets from entities made made_from others
    → place ≤ next_entity_place to entities → CountsNone octets entities made others place
none_following octets from to [] made made_from [] place are less = record { old = refl; new = refl }
none_following octets from to [] made made_from (other ∷ others) place are less = absurd are
none_following octets from to (entity ∷ entities) made made_from [] place are less = absurd are
none_following octets from to (entity ∷ entities) made made_from (other ∷ others) place are less =
    let gap = are.0.gap in
    let low = are.0.low in
    none_yet octets entity.at (entity ∷ entities) made other.at (other ∷ others) place
    (record { low = omega arith; gap = omega arith; end = are.0.end; made_end = are.0.made_end; none = are.0.none }, are.1) less

-- a place that is met
record IsMet (octets : List ℕ) (from : ℕ) (entities : List Entity) (made : List ℕ) (made_from : ℕ) (others : List Entity) (place made_place : ℕ) : Type 0 where
  low : from ≤ place
  meets : Meets octets from entities made made_from others place made_place

-- what is met after a block is met before it
met_before : (octets : List ℕ) (from : ℕ) (entity : Entity) (entities : List Entity) (made : List ℕ) (made_from : ℕ) (other : Entity) (others : List Entity) (place made_place : ℕ)
    → IsMoving octets from entity made made_from other → IsMet octets entity.block.end entities made other.block.end others place made_place
    → IsMet octets from (entity ∷ entities) made made_from (other ∷ others) place made_place
met_before octets from entity entities made made_from other others place made_place is met =
    let low = is.low in
    let past = met.low in
    record {
      low = omega (arith, is.end);
      meets = omega (arith, is.gap, is.end, is.made_end, met.meets, counted entity (raws_of octets entity.block) place past, counted entity (raws_of made other.block) place past);
    }

met_here : (octets : List ℕ) (from to : ℕ) (entity : Entity) (entities : List Entity) (made : List ℕ) (made_from : ℕ) (other : Entity) (others : List Entity) (place made_place : ℕ)
    → IsMoving octets from entity made made_from other → AreMoving octets entity.block.end entities made other.block.end others → IsAfter entity place (next_entity_place to entities) other made_place
    → IsMet octets from (entity ∷ entities) made made_from (other ∷ others) place made_place
met_here octets from to entity entities made made_from other others place made_place is are following =
    let none = none_following octets entity.block.end to entities made other.block.end others place are following.high in
    met_before octets from entity entities made made_from other others place made_place is (record { low = following.low; meets = omega (arith, none.old, none.new, following.same) })

met_after : (octets : List ℕ) (from to : ℕ) (entities : List Entity) (made : List ℕ) (made_from : ℕ) (others : List Entity) (place made_place : ℕ) → AreMoving octets from entities made made_from others
    → AreAfter to place entities made_place others → IsMet octets from entities made made_from others place made_place
met_after octets from to [] made made_from others place made_place are following = absurd following
met_after octets from to (entity ∷ entities) made made_from [] place made_place are following = absurd following
met_after octets from to (entity ∷ entities) made made_from (other ∷ others) place made_place are (inl is) =
    met_here octets from to entity entities made made_from other others place made_place are.0 are.1 is
met_after octets from to (entity ∷ entities) made made_from (other ∷ others) place made_place are (inr is) =
    met_before octets from entity entities made made_from other others place made_place are.0 (met_after octets entity.block.end to entities made other.block.end others place made_place are.1 is)

met_begin : (octets : List ℕ) (from : ℕ) (entity : Entity) (entities : List Entity) (made : List ℕ) (made_from : ℕ) (other : Entity) (others : List Entity)
    → AreMoving octets from (entity ∷ entities) made made_from (other ∷ others) → IsMet octets from (entity ∷ entities) made made_from (other ∷ others) entity.at other.at
met_begin octets from entity entities made made_from other others are =
    let none = none_following octets from 0 (entity ∷ entities) made made_from (other ∷ others) entity.at are (omega arith) in
    record { low = are.0.low; meets = omega (arith, are.0.gap, none.old, none.new) }

-- the three places of an entity
record IsMetEntity (octets : List ℕ) (from : ℕ) (entities : List Entity) (made : List ℕ) (made_from : ℕ) (others : List Entity) (entity other : Entity) : Type 0 where
  same : outline_of other ≡ record (outline_of entity) { at = other.at; body = other.body; end = other.end }
  at : IsMet octets from entities made made_from others entity.at other.at
  body : IsMet octets from entities made made_from others entity.body other.body
  end : IsMet octets from entities made made_from others entity.end other.end

abbrev AreMetEntities : List ℕ → ℕ → List Entity → List ℕ → ℕ → List Entity → List Entity → List Entity → Type 0
AreMetEntities octets from entities made made_from others some ones = AllZip (IsMetEntity octets from entities made made_from others) some ones

mets_before : (octets : List ℕ) (from : ℕ) (entity : Entity) (entities : List Entity) (made : List ℕ) (made_from : ℕ) (other : Entity) (others some ones : List Entity) → IsMoving octets from entity made made_from other
    → AreMetEntities octets entity.block.end entities made other.block.end others some ones → AreMetEntities octets from (entity ∷ entities) made made_from (other ∷ others) some ones
mets_before octets from entity entities made made_from other others [] [] is are = tt
mets_before octets from entity entities made made_from other others [] (one ∷ ones) is are = absurd are
mets_before octets from entity entities made made_from other others (first ∷ some) [] is are = absurd are
mets_before octets from entity entities made made_from other others (first ∷ some) (one ∷ ones) is are = (
  record {
    same = are.0.same;
    at = met_before octets from entity entities made made_from other others first.at one.at is are.0.at;
    body = met_before octets from entity entities made made_from other others first.body one.body is are.0.body;
    end = met_before octets from entity entities made made_from other others first.end one.end is are.0.end;
  },
  mets_before octets from entity entities made made_from other others some ones is are.1,
)

all_met : (IsMade : FieldRelation) (octets : List ℕ) (from to : ℕ) (entities : List Entity) (made : List ℕ) (made_from made_to : ℕ) (others : List Entity) → AreMoving octets from entities made made_from others
    → AreKept IsMade octets to entities made made_to others → AreMetEntities octets from entities made made_from others entities others
all_met IsMade octets from to [] made made_from made_to [] moving kept = tt
all_met IsMade octets from to [] made made_from made_to (other ∷ others) moving kept = absurd kept
all_met IsMade octets from to (entity ∷ entities) made made_from made_to [] moving kept = absurd kept
all_met IsMade octets from to (entity ∷ entities) made made_from made_to (other ∷ others) moving kept = (
  record {
    same = rw (kept.0.same.parent, kept.0.same.depth, kept.0.same.shape) refl;
    at = met_begin octets from entity entities made made_from other others moving;
    body = met_here octets from to entity entities made made_from other others entity.body other.body moving.0 moving.1 kept.0.body;
    end = met_after octets from to (entity ∷ entities) made made_from (other ∷ others) entity.end other.end moving kept.0.end;
  },
  mets_before octets from entity entities made made_from other others entities others moving.0 (all_met IsMade octets entity.block.end to entities made other.block.end made_to others moving.1 kept.1),
)

-- what is met is where the place was moved
moved_there : (octets : List ℕ) (entities : List Entity) (made : List ℕ) (others : List Entity) (place made_place : ℕ) → IsMet octets 0 entities made 0 others place made_place
    → made_place ≡ moved octets entities (blocks_of made others) place
moved_there octets entities made others place made_place met = omega (arith, met.meets)

outlines_moved : (octets : List ℕ) (entities : List Entity) (made : List ℕ) (others some ones : List Entity) → AreMetEntities octets 0 entities made 0 others some ones
    → outlines_of ones ≡ map (moved_outline (moved octets entities (blocks_of made others))) (outlines_of some)
outlines_moved octets entities made others [] [] are = refl
outlines_moved octets entities made others [] (one ∷ ones) are = absurd are
outlines_moved octets entities made others (first ∷ some) [] are = absurd are
outlines_moved octets entities made others (first ∷ some) (one ∷ ones) are =
    let rest = outlines_moved octets entities made others some ones are.1 in
    let at = moved_there octets entities made others first.at one.at are.0.at in
    let body = moved_there octets entities made others first.body one.body are.0.body in
    let end = moved_there octets entities made others first.end one.end are.0.end in
    let here : outline_of one ≡ moved_outline (moved octets entities (blocks_of made others)) (outline_of first) = are.0.same ∙ rw (at, body, end) refl in
    rw (here, rest) refl

-- a field has an octet, so a block without octets has no fields
no_octets : (IsMade : FieldRelation) (octets : List ℕ) (entity : Entity) → KeepsTrees IsMade octets → (raws mades : List (List ℕ)) → AllZip (IsMade entity) raws mades → length (concat raws) ≡ 0 → length (concat mades) ≡ 0
no_octets IsMade octets entity keeps [] [] all none = refl
no_octets IsMade octets entity keeps [] (made ∷ mades) all none = absurd all
no_octets IsMade octets entity keeps (raw ∷ raws) [] all none = absurd all
no_octets IsMade octets entity keeps (raw ∷ raws) (made ∷ mades) all none =
    let line = keeps.lines entity raw made all.0 in
    let some = name_some line.f.name (line.f.white ++ 58 ∷ (line.f.body ++ line.f.ending)) line.is_field.named in
    let size = ap length line.is_field.spelled in
    absurd (omega (arith, none, some, size, length-append raw (concat raws)))
  where
    name_some : (name rest : List ℕ) → 0 < length name → 0 < length (name ++ rest)
    name_some [] rest some = absurd (omega (arith, some))
    name_some (x ∷ name) rest some = omega arith

-- the blocks of kept entities, from the first place on
moving : (IsMade : FieldRelation) (octets : List ℕ) → KeepsTrees IsMade octets → (from to : ℕ) (entities : List Entity) (made : List ℕ) (made_from made_to : ℕ) (others : List Entity) → to ≤ length octets → made_to ≤ length made
    → AreInOrder from to entities → AreInOrder made_from made_to others → All (HasBlockWithin octets) entities → All (HasBlockWithin made) others
    → next_entity_place made_to others + from ≡ next_entity_place to entities + made_from → AreKept IsMade octets to entities made made_to others → AreMoving octets from entities made made_from others
moving IsMade octets keeps from to [] made made_from made_to [] fits made_fits order made_order blocks made_blocks gap kept = tt
moving IsMade octets keeps from to [] made made_from made_to (other ∷ others) fits made_fits order made_order blocks made_blocks gap kept = absurd kept
moving IsMade octets keeps from to (entity ∷ entities) made made_from made_to [] fits made_fits order made_order blocks made_blocks gap kept = absurd kept
moving IsMade octets keeps from to (entity ∷ entities) made made_from made_to (other ∷ others) fits made_fits order made_order blocks made_blocks gap kept =
    let block = All-head (HasBlockWithin octets) entity entities blocks in
    let made_block = All-head (HasBlockWithin made) other others made_blocks in
    let next = next_after entity.block.end to entities order.2 in
    let made_next = next_after other.block.end made_to others made_order.2 in
    let sizes = sym (slice_length made other.block.end (next_entity_place made_to others) made_next.0 (omega (arith, made_next.1))) ∙ ap length kept.0.same.following
    ∙ slice_length octets entity.block.end (next_entity_place to entities) next.0 (omega (arith, next.1)) in
    let low = next.0 in
    let made_low = made_next.0 in (
      record {
        low = order.0;
        gap = gap;
        end = joined_size octets entity.at entity.block.fields entity.block.end block.fields block.joined;
        made_end = joined_size made other.at other.block.fields other.block.end made_block.fields made_block.joined;
        none = no_octets IsMade octets entity keeps (raws_of octets entity.block) (raws_of made other.block) kept.0.same.fields;
      },
      moving IsMade octets keeps entity.block.end to entities made other.block.end made_to others fits made_fits order.2 made_order.2 (All-tail (HasBlockWithin octets) entity entities blocks)
          (All-tail (HasBlockWithin made) other others made_blocks) (omega (arith, sizes)) kept.1,
    )
  where
    order_end : (from to : ℕ) (entities : List Entity) → AreInOrder from to entities → from ≤ to
    order_end from to [] order = order
    order_end from to (entity ∷ entities) order = let at = order.0 in let end = order.1 in let rest = order_end entity.block.end to entities order.2 in omega arith

    next_after : (from to : ℕ) (entities : List Entity) → AreInOrder from to entities → (from ≤ next_entity_place to entities) × (next_entity_place to entities ≤ to)
    next_after from to [] order = (order, omega arith)
    next_after from to (entity ∷ entities) order = let end = order.1 in let rest = order_end entity.block.end to entities order.2 in (order.0, omega arith)

-- The places of kept entities are moved.
pub places_moved : (IsMade : FieldRelation) (octets : List ℕ) → KeepsTrees IsMade octets → (entities : List Entity) (made : List ℕ) (others : List Entity) → AreInOrder 0 (length octets) entities → AreInOrder 0 (length made) others
    → All (HasBlockWithin octets) entities → All (HasBlockWithin made) others → next_entity_place (length made) others ≡ next_entity_place (length octets) entities
    → AreKept IsMade octets (length octets) entities made (length made) others
    → outlines_of others ≡ map (moved_outline (moved octets entities (blocks_of made others))) (outlines_of entities)
places_moved IsMade octets keeps entities made others order made_order blocks made_blocks gap kept =
    let all = moving IsMade octets keeps 0 (length octets) entities made 0 (length made) others (omega arith) (omega arith) order made_order blocks made_blocks (omega (arith, gap)) kept in
    outlines_moved octets entities made others entities others (all_met IsMade octets 0 (length octets) entities made 0 (length made) others all kept)

-- kept entities are the same
pub same_of : (IsMade : FieldRelation) (octets : List ℕ) (to : ℕ) (entities : List Entity) (made : List ℕ) (made_to : ℕ) (others : List Entity) → AreKept IsMade octets to entities made made_to others
    → AreSame IsMade octets to entities made made_to others
same_of IsMade octets to [] made made_to [] kept = tt
same_of IsMade octets to [] made made_to (other ∷ others) kept = absurd kept
same_of IsMade octets to (entity ∷ entities) made made_to [] kept = absurd kept
same_of IsMade octets to (entity ∷ entities) made made_to (other ∷ others) kept = (kept.0.same, same_of IsMade octets to entities made made_to others kept.1)
