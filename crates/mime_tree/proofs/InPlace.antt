-- Texts at their places, and entities in order and the same there.
use Rattle.std.proofs.Common.{◌≡◌, ℕ, zero, suc, ◌+◌, ◌-◌, ◌≤◌, List, [], ◌∷◌, ◌++◌, length, drop, take, Bool, true, false, arith, inl, inr, refl, sym, ap, ◌∙◌, Option, Some, append_assoc, length-append}
use Rattle.std.specs.Prelude.{slice_range}
use Rattle.std.specs.List.{AllZip, concat}
use Rattle.utf8_fields.specs.declared.block.Field.{Field}
use Rattle.utf8_fields.specs.Block.{AreFields}
use Rattle.utf8_fields.proofs.LineShapes.{AreLines}
use Rattle.utf8_fields.proofs.Raws.{slice_range-following}
use Rattle.mime_tree.specs.declared.entity.Entity.{Entity}
use Rattle.mime_tree.specs.declared.entity.Shape.{Shape}
use Rattle.mime_tree.specs.declared.openings.Opening.{Opening}
use Rattle.mime_tree.specs.declared.openings.Opening.TheVariants.{Nothing, Message, Parts}
use Rattle.mime_tree.specs.Marks.{is_delimiter, is_close}
use Rattle.mime_tree.specs.Parts.{parts_on, size, cut_last}
use Rattle.mime_tree.specs.Tree.{IsWithInner, EntityRelation, AreParts, IsOpened, IsEntity, depth_max}
use Rattle.mime_tree.specs.Rewriting.{FieldRelation, RewritesBlocks, next_entity_place, IsSameEntity}
use Rattle.mime_tree.proofs.Regions.{size-cons, size-append}
use Rattle.mime_tree.proofs.PartLemmas.{parts_on-close, parts_on-delimiter, parts_on-on}
use Rattle.mime_tree.proofs.Standing.{Stands, AreInOrder, AreEnded, AreAfter, AreKept}
use Rattle.mime_tree.proofs.InOrder.{in_order, in_order-append, slices_join, split_blocks}
use Rattle.mime_tree.proofs.EndedLines.{gap_of, cut_concat}
use Rattle.mime_tree.proofs.EmptyLast.{parts_on-end, parts_on-some}
use Rattle.mime_tree.proofs.LinesAgain.{AreEnded-front}
use Rattle.mime_tree.proofs.NextParts.{no_parts}

-- a text stands where its front stands, and its back after that
pub stands_front : (octets : List ℕ) (at : ℕ) (a b : List ℕ) → Stands octets at (a ++ b) → Stands octets at a
stands_front octets at a b is =
    record { before = is.before; after = b ++ is.after; whole = is.whole ∙ ap (λ text. is.before ++ text) (append_assoc a b is.after); place = is.place }

pub stands_back : (octets : List ℕ) (at to : ℕ) (a b : List ℕ) → at + length a ≡ to → Stands octets at (a ++ b) → Stands octets to b
stands_back octets at to a b sum is =
    record {
      before = is.before ++ a;
      after = is.after;
      whole = is.whole ∙ ap (λ text. is.before ++ text) (append_assoc a b is.after) ∙ sym (append_assoc is.before a (b ++ is.after));
      place = length-append is.before a ∙ rw is.place sum;
    }

pub stands_slice : (octets : List ℕ) (at to : ℕ) (text : List ℕ) → at + length text ≡ to → Stands octets at text → slice_range octets at to ≡ text
stands_slice octets at to text sum is = rw (← sum) (slice_range-following octets is.before text is.after at (length text) is.whole is.place refl)

pub slice_none : (octets : List ℕ) (from to : ℕ) → to ≤ from → slice_range octets from to ≡ []
slice_none octets from to past =
    let none : to - from ≡ 0 = omega arith in rw none (go (drop from octets))
  where
    go : (xs : List ℕ) → take 0 xs ≡ []
    go [] = refl
    go (x ∷ xs) = refl

-- entities in order between wider limits
pub order_from : (from middle to : ℕ) (entities : List Entity) → from ≤ middle → AreInOrder middle to entities → AreInOrder from to entities
order_from from middle to [] less order = omega arith
order_from from middle to (entity ∷ entities) less order = (let first = order.0 in omega arith, order.1, order.2)

place_append : (to : ℕ) (entities more : List Entity) → next_entity_place to (entities ++ more) ≡ next_entity_place (next_entity_place to more) entities
place_append to [] more = refl
place_append to (entity ∷ entities) more = refl

-- places after a block are so before further entities
after_append : (to place : ℕ) (entities more : List Entity) (made_place : ℕ) (others again : List Entity) → AreAfter (next_entity_place to more) place entities made_place others
    → AreAfter to place (entities ++ more) made_place (others ++ again)
after_append to place [] more made_place others again are = absurd are
after_append to place (entity ∷ entities) more made_place [] again are = absurd are
after_append to place (entity ∷ entities) more made_place (other ∷ others) again (inl is) = inl (rw (place_append to entities more) is)
after_append to place (entity ∷ entities) more made_place (other ∷ others) again (inr are) = inr (after_append to place entities more made_place others again are)

-- and where all ends further on
after_further : (to far place : ℕ) (entities : List Entity) (made_place : ℕ) (others : List Entity) → to ≤ far → AreAfter to place entities made_place others → AreAfter far place entities made_place others
after_further to far place [] made_place others less are = absurd are
after_further to far place (entity ∷ entities) made_place [] less are = absurd are
after_further to far place (entity ∷ []) made_place (other ∷ others) less (inl is) = let high = is.high in inl (record { low = is.low; high = omega arith; same = is.same })
after_further to far place (entity ∷ next ∷ entities) made_place (other ∷ others) less (inl is) = inl (record { low = is.low; high = is.high; same = is.same })
after_further to far place (entity ∷ entities) made_place (other ∷ others) less (inr are) = inr (after_further to far place entities made_place others less are)

-- same entities and further ones
pub same_append : (IsMade : FieldRelation) (octets : List ℕ) (to : ℕ) (entities more : List Entity) (new : List ℕ) (new_to : ℕ) (others again : List Entity)
    → AreKept IsMade octets (next_entity_place to more) entities new (next_entity_place new_to again) others → AreKept IsMade octets to more new new_to again → AreKept IsMade octets to (entities ++ more) new new_to (others ++ again)
same_append IsMade octets to [] more new new_to [] again same next = next
same_append IsMade octets to [] more new new_to (other ∷ others) again same next = absurd same
same_append IsMade octets to (entity ∷ entities) more new new_to [] again same next = absurd same
same_append IsMade octets to (entity ∷ entities) more new new_to (other ∷ others) again same next = (
  record {
    same = rw (place_append to entities more, place_append new_to others again) same.0.same;
    body = rw (place_append to entities more) same.0.body;
    end = after_append to entity.end (entity ∷ entities) more other.end (other ∷ others) again same.0.end;
  },
  same_append IsMade octets to entities more new new_to others again same.1 next,
)

-- the last entity reaches further, over the same octets
same_entity_further : (IsMade : FieldRelation) (octets : List ℕ) (entity : Entity) (to far : ℕ) (new : List ℕ) (other : Entity) (new_to new_far : ℕ) → slice_range new new_to new_far ≡ slice_range octets to far → to ≤ far → new_to ≤ new_far
    → entity.block.end ≤ to → other.block.end ≤ new_to → IsSameEntity IsMade octets entity to new other new_to → IsSameEntity IsMade octets entity far new other new_far
same_entity_further IsMade octets entity to far new other new_to new_far text less new_less end new_end is =
    record {
      parent = is.parent;
      depth = is.depth;
      shape = is.shape;
      fields = is.fields;
      following = slices_join new other.block.end new_to new_far new_end new_less ∙ rw (is.following, text) (sym (slices_join octets entity.block.end to far end less));
      content = is.content;
    }

pub same_further : (IsMade : FieldRelation) (octets : List ℕ) (from to far : ℕ) (entities : List Entity) (new : List ℕ) (new_from new_to new_far : ℕ) (others : List Entity) → slice_range new new_to new_far ≡ slice_range octets to far
    → to ≤ far → new_to ≤ new_far → AreInOrder from to entities → AreInOrder new_from new_to others → AreKept IsMade octets to entities new new_to others → AreKept IsMade octets far entities new new_far others
same_further IsMade octets from to far [] new new_from new_to new_far [] text less new_less order new_order same = tt
same_further IsMade octets from to far [] new new_from new_to new_far (other ∷ others) text less new_less order new_order same = absurd same
same_further IsMade octets from to far (entity ∷ entities) new new_from new_to new_far [] text less new_less order new_order same = absurd same
same_further IsMade octets from to far (entity ∷ []) new new_from new_to new_far (other ∷ []) text less new_less order new_order same = (
  record {
    same = same_entity_further IsMade octets entity to far new other new_to new_far text less new_less order.2 new_order.2 same.0.same;
    body = let high = same.0.body.high in record { low = same.0.body.low; high = omega arith; same = same.0.body.same };
    end = after_further to far entity.end (entity ∷ []) other.end (other ∷ []) less same.0.end;
  },
  tt,
)
same_further IsMade octets from to far (entity ∷ []) new new_from new_to new_far (other ∷ again ∷ others) text less new_less order new_order same = absurd same.1
same_further IsMade octets from to far (entity ∷ next ∷ entities) new new_from new_to new_far (other ∷ []) text less new_less order new_order same = absurd same.1
same_further IsMade octets from to far (entity ∷ next ∷ entities) new new_from new_to new_far (other ∷ again ∷ others) text less new_less order new_order same = (
  record { same = same.0.same; body = same.0.body; end = after_further to far entity.end (entity ∷ next ∷ entities) other.end (other ∷ again ∷ others) less same.0.end },
  same_further IsMade octets entity.block.end to far (next ∷ entities) new other.block.end new_to new_far (again ∷ others) text less new_less order.2 new_order.2 same.1,
)

pub same_length : (IsMade : FieldRelation) (octets : List ℕ) (to : ℕ) (entities : List Entity) (new : List ℕ) (new_to : ℕ) (others : List Entity) → AreKept IsMade octets to entities new new_to others → length entities ≡ length others
same_length IsMade octets to [] new new_to [] same = refl
same_length IsMade octets to [] new new_to (other ∷ others) same = absurd same
same_length IsMade octets to (entity ∷ entities) new new_to [] same = absurd same
same_length IsMade octets to (entity ∷ entities) new new_to (other ∷ others) same = ap suc (same_length IsMade octets to entities new new_to others same.1)

-- what stands before the entities is copied
pub record IsCopied (IsMade : FieldRelation) (octets : List ℕ) (middle to : ℕ) (entities : List Entity) (text made : List ℕ) : Type 0 where
  pub rest : List ℕ
  pub whole : made ≡ text ++ rest
  pub rewritten : RewritesBlocks IsMade octets middle to entities rest

pub is_copied : (IsMade : FieldRelation) (octets : List ℕ) (from middle to : ℕ) (entities : List Entity) (text made : List ℕ) → Stands octets from text → from + length text ≡ middle → AreInOrder middle to entities
    → RewritesBlocks IsMade octets from to entities made → IsCopied IsMade octets middle to entities text made
is_copied IsMade octets from middle to entities text made stands sum order rewritten =
    let split = split_blocks IsMade octets from middle to [] entities made (omega arith) order rewritten in
    record { rest = split.1; whole = split.2 ∙ ap (λ first. first ++ split.1) (split.3 ∙ stands_slice octets from middle text sum stands); rewritten = split.4 }

-- an entity comes first, at its place
record BeginsAt (at : ℕ) (entities : List Entity) : Type 0 where
  pub entity : Entity
  pub inner : List Entity
  pub are : entities ≡ entity ∷ inner
  pub place : entity.at ≡ at

begins_at : (levels : ℕ) (octets : List ℕ) (parent : Option ℕ) (digest : Bool) (number at : ℕ) (lines : List (List ℕ)) (entities : List Entity) → IsEntity levels octets parent digest number at lines entities → BeginsAt at entities
unfolding IsEntity
begins_at zero octets parent digest number at lines entities is = record { entity = is.0.entity; inner = is.0.inner; are = is.0.entities_are; place = is.0.at_is }
begins_at (suc levels) octets parent digest number at lines entities is = record { entity = is.0.entity; inner = is.0.inner; are = is.0.entities_are; place = is.0.at_is }

-- the parts begin where the first one does
pub parts_begin : (levels : ℕ) (octets b : List ℕ) (parent : Option ℕ) (digest : Bool) (rest : List (List ℕ)) (number at : ℕ) (passed : List (List ℕ)) (entities : List Entity) (to : ℕ)
    → AreParts (IsEntity levels octets) parent digest number (parts_on b at passed rest) entities → next_entity_place to entities ≡ at
parts_begin levels octets b parent digest rest number at passed entities to are =
    let some = parts_on-some b rest at passed in
    let parts = rw some.2 at are in
    let begins = begins_at levels octets parent digest number at some.0 parts.0 parts.3 in
    rw (parts.2, begins.are) begins.place

cut_size : (lines : List (List ℕ)) → AreEnded lines → size lines ≡ size (cut_last lines) + length (gap_of lines)
cut_size lines ended = ap length (cut_concat lines ended) ∙ length-append (concat (cut_last lines)) (gap_of lines)

-- The entities of the parts stand in order.
order_by : (levels : ℕ) (octets b : List ℕ) (parent : Option ℕ) (digest : Bool) (number at to : ℕ) (passed : List (List ℕ)) (line : List ℕ) (rest : List (List ℕ)) (entities : List Entity) (close delimiter : Bool)
    → is_close b line ≡ close → is_delimiter b line ≡ delimiter → AreLines (passed ++ line ∷ rest) → at + size passed + size (line ∷ rest) ≡ to
    → ((number at : ℕ) (passed : List (List ℕ)) (entities : List Entity) → AreLines (passed ++ rest) → at + size passed + size rest ≡ to → AreParts (IsEntity levels octets) parent digest number (parts_on b at passed rest) entities
    → AreInOrder at to entities)
    → AreParts (IsEntity levels octets) parent digest number (parts_on b at passed (line ∷ rest)) entities → AreInOrder at to entities
order_by levels octets b parent digest number at to passed line rest entities true delimiter close_is delimiter_is lines sum next are =
    let parts = rw (parts_on-close b at passed line rest close_is) at are in
    let cut = cut_size passed (AreEnded-front passed line rest lines) in
    let first = in_order levels octets parent digest number at (cut_last passed) parts.0 parts.3 in
    rw (parts.2, parts.4) (in_order-append at (at + size (cut_last passed)) to parts.0 [] first (omega arith))
order_by levels octets b parent digest number at to passed line rest entities false true close_is delimiter_is lines sum next are =
    let parts = rw (parts_on-delimiter b at passed line rest close_is delimiter_is) at are in
    let cut = cut_size passed (AreEnded-front passed line rest lines) in
    let first = in_order levels octets parent digest number at (cut_last passed) parts.0 parts.3 in
    let one = size-cons line rest in
    let more = next (number + length parts.0) (at + size passed + length line) [] parts.1 (following passed lines) (omega arith) parts.4 in
    rw parts.2 (in_order-append at (at + size (cut_last passed)) to parts.0 parts.1 first (order_from (at + size (cut_last passed)) (at + size passed + length line) to parts.1 (omega arith) more))
  where
    following : (passed : List (List ℕ)) → AreLines (passed ++ line ∷ rest) → AreLines rest
    following [] lines = lines.1
    following (first ∷ passed) lines = following passed lines.1
order_by levels octets b parent digest number at to passed line rest entities false false close_is delimiter_is lines sum next are =
    let longer = size-append passed (line ∷ []) in
    let one = size-cons line [] in
    let all = size-cons line rest in
    next number at (passed ++ line ∷ []) entities (rw (append_assoc passed (line ∷ []) rest) lines) (omega arith) (rw (parts_on-on b at passed line rest close_is delimiter_is) at are)

pub parts_order : (levels : ℕ) (octets b : List ℕ) (parent : Option ℕ) (digest : Bool) (to : ℕ) (rest : List (List ℕ)) (number at : ℕ) (passed : List (List ℕ)) (entities : List Entity) → AreLines (passed ++ rest)
    → at + size passed + size rest ≡ to → AreParts (IsEntity levels octets) parent digest number (parts_on b at passed rest) entities → AreInOrder at to entities
parts_order levels octets b parent digest to [] number at passed entities lines sum are =
    let parts = rw (parts_on-end b at passed) at are in
    let first = in_order levels octets parent digest number at passed parts.0 parts.3 in
    rw (parts.2, parts.4) (in_order-append at (at + size passed) to parts.0 [] first (omega arith))
parts_order levels octets b parent digest to (line ∷ rest) number at passed entities lines sum are =
    order_by levels octets b parent digest number at to passed line rest entities (is_close b line) (is_delimiter b line) refl refl lines sum (parts_order levels octets b parent digest to rest) are

-- Nothing is made of nothing.
opened_nothing : (IsMade : FieldRelation) (IsOne : EntityRelation) (octets : List ℕ)
    → ((parent : Option ℕ) (digest : Bool) (number at from to : ℕ) (entities : List Entity) (made : List ℕ) → at ≡ from → at ≡ to
    → IsOne parent digest number at [] entities → RewritesBlocks IsMade octets from to entities made → made ≡ [])
    → (opening : Opening) (number at from to : ℕ) (shape : Shape) (inner : List Entity) (made : List ℕ) → at ≡ from → at ≡ to → IsOpened IsOne opening number at [] shape inner → RewritesBlocks IsMade octets from to inner made → made ≡ []
opened_nothing IsMade IsOne octets next Nothing number at from to shape inner made begins ends is rewritten =
    let none = rw is.1 at rewritten in none ∙ slice_none octets from to (omega arith)
opened_nothing IsMade IsOne octets next Message number at from to shape inner made begins ends is rewritten = next (Some number) false (number + 1) at from to inner made begins ends is.1 rewritten
opened_nothing IsMade IsOne octets next (Parts boundary digest) number at from to shape inner made begins ends is rewritten =
    let divided = rw (no_parts boundary at) at is in
    let none = rw divided.1 at rewritten in none ∙ slice_none octets from to (omega arith)

record HasNothing (at : ℕ) (block : List Field) (end body : ℕ) (content : List (List ℕ)) : Type 0 where
  pub fields : block ≡ []
  pub end_is : end ≡ at
  pub body_is : body ≡ at
  pub content_is : content ≡ []

no_fields : (at : ℕ) (fields : List Field) (end : ℕ) → AreFields [] at fields end → (fields ≡ []) × (end ≡ at)
no_fields at [] end are = (refl, sym are.1)
no_fields at (field ∷ fields) end are = absurd (cc are.3)

nothing_by : (at : ℕ) (header rest : List (List ℕ)) (fields : List Field) (end body : ℕ) (content : List (List ℕ)) → [] ≡ header ++ rest → AreFields header at fields end → content ≡ drop 1 rest → body ≡ end + size (take 1 rest)
    → HasNothing at fields end body content
nothing_by at [] [] fields end body content whole are content_is body_is =
    let none = no_fields at fields end are in
    let end_at = none.1 in
    record { fields = none.0; end_is = none.1; body_is = body_is ∙ omega arith; content_is = content_is }
nothing_by at [] (line ∷ rest) fields end body content whole are content_is body_is = absurd (cc whole)
nothing_by at (line ∷ header) rest fields end body content whole are content_is body_is = absurd (cc whole)

with_nothing : (IsMade : FieldRelation) (octets : List ℕ) (parent : Option ℕ) (depth at from to : ℕ) (entities : List Entity) (made : List ℕ) (is : IsWithInner parent depth at [] entities) → at ≡ from → at ≡ to
    → ((made : List ℕ) (body : ℕ) → is.entity.body ≡ body → is.entity.block.end ≡ body → at ≡ body → is.content ≡ [] → RewritesBlocks IsMade octets body to is.inner made → made ≡ [])
    → RewritesBlocks IsMade octets from to entities made → made ≡ []
with_nothing IsMade octets parent depth at from to entities made is begins ends next rewritten =
    let has = nothing_by at is.head.has_block.header is.head.has_block.rest is.entity.block.fields is.entity.block.end is.entity.body is.content is.head.has_block.lines is.head.has_block.fields_are is.head.content_is is.head.body_is in
    let parts = rw is.entities_are at rewritten in
    let fields = rw has.fields at parts.2 in
    let rest = next parts.1 is.entity.block.end (has.body_is ∙ sym has.end_is) refl (sym has.end_is) has.content_is parts.4 in
    let place = is.at_is in
    let before = slice_none octets from is.entity.at (omega arith) in
    parts.3 ∙ rw (before, no_made parts.0 fields, rest) refl
  where
    no_made : (fields : List (List ℕ)) → AllZip (IsMade is.entity) [] fields → fields ≡ []
    no_made [] all = refl
    no_made (field ∷ fields) all = absurd all

pub nothing_made : (IsMade : FieldRelation) (levels : ℕ) (octets : List ℕ) (parent : Option ℕ) (digest : Bool) (number at from to : ℕ) (entities : List Entity) (made : List ℕ) → at ≡ from → at ≡ to
    → IsEntity levels octets parent digest number at [] entities → RewritesBlocks IsMade octets from to entities made → made ≡ []
unfolding IsEntity
nothing_made IsMade zero octets parent digest number at from to entities made begins ends is rewritten =
    with_nothing IsMade octets parent (depth_max + 1) at from to entities made is.0 begins ends
    (λ made body body_is end_is at_is content rewritten. let none = rw is.2 at rewritten in none ∙ slice_none octets body to (omega arith)) rewritten
nothing_made IsMade (suc levels) octets parent digest number at from to entities made begins ends is rewritten =
    with_nothing IsMade octets parent (depth_max - levels) at from to entities made is.0 begins ends
    (λ made body body_is end_is at_is content rewritten.
    opened_nothing IsMade (IsEntity levels octets) octets (nothing_made IsMade levels octets) is.1 number is.0.entity.body body to is.0.entity.shape is.0.inner made body_is (omega arith) (rw content at is.3) rewritten) rewritten
