-- Blocks that are put last, one after the other, with what stands between them.
use Rattle.std.proofs.Common.{◌≡◌, ℕ, ◌+◌, ◌-◌, ◌<◌, ◌≤◌, List, [], ◌∷◌, ◌++◌, length, take, drop, get_or, refl, sym, ap, ◌∙◌, subst, arith, append_assoc}
use Rattle.std.specs.Prelude.{slice_range}
use Rattle.std.specs.List.{AllZip, concat}
use Rattle.std.proofs.lemmas.List.{append-nil, take_more, take_all, drop_more, drop_all}
use Rattle.field_downgrade.specs.Message.{IsServedField}
use Rattle.mime_tree.specs.declared.entity.Entity.{Entity}
use Rattle.mime_tree.specs.Rewriting.{FieldRelation, RewritesBlocks}
use Rattle.mime_tree.specs.Tree.{HasTree, raws_of}
use Rattle.mime_tree.proofs.Standing.{AreInOrder}
use Rattle.mime_tree.proofs.InOrder.{slices_join}
use Rattle.mime_tree.proofs.KeptTrees.{tree_order}
use Rattle.mime_tree.proofs.TreeFields.{HasBlockWithin, tree_blocks}
use Rattle.surrogate_rope.specs.Layout.{InEntity}
use Rattle.surrogate_rope.specs.Ropes.{changed_by, WeighsChanged}
use Rattle.surrogate_rope.specs.private.Building.{one, Written, Copies, AddsBlock, HasServedBlocks}

-- entities in order end no earlier than they begin
pub order_le : (from to : ℕ) (entities : List Entity) → AreInOrder from to entities → from ≤ to
order_le from to [] order = order
order_le from to (entity ∷ entities) order = let at = order.0 in let end = order.1 in let rest = order_le entity.block.end to entities order.2 in omega arith

-- what stands after octets that were written anew is copied
blocks_further : (IsMade : FieldRelation) (msg : List ℕ) (from at to : ℕ) (entities : List Entity) (made : List ℕ) → AreInOrder from at entities → at ≤ to → RewritesBlocks IsMade msg from at entities made
    → RewritesBlocks IsMade msg from to entities (made ++ slice_range msg at to)
blocks_further IsMade msg from at to [] made order le is = rw is (sym (slices_join msg from at to order le))
blocks_further IsMade msg from at to (entity ∷ entities) made order le is = (
  is.0,
  is.1 ++ slice_range msg at to,
  is.2,
  rw is.3 (append_assoc (slice_range msg from entity.at) _ (slice_range msg at to) ∙ ap (λ text. slice_range msg from entity.at ++ text) (append_assoc (concat is.0) is.1 (slice_range msg at to))),
  blocks_further IsMade msg entity.block.end at to entities is.1 order.2 le is.4,
)

pub nothing_between : (msg : List ℕ) (at : ℕ) → slice_range msg at at ≡ []
nothing_between msg at = let none : at - at ≡ 0 = omega arith in rw none refl

-- one more block
blocks_more : (IsMade : FieldRelation) (msg : List ℕ) (from at : ℕ) (entities : List Entity) (entity : Entity) (made : List ℕ) (fields : List (List ℕ)) → AreInOrder from at entities → at ≤ entity.at
    → RewritesBlocks IsMade msg from at entities made → AllZip (IsMade entity) (raws_of msg entity.block) fields
    → RewritesBlocks IsMade msg from entity.block.end (entities ++ entity ∷ []) ((made ++ slice_range msg at entity.at) ++ concat fields)
blocks_more IsMade msg from at [] entity made fields order le is each =
    (fields, [], each, rw (is, ← slices_join msg from at entity.at order le, append-nil (concat fields)) refl, sym (nothing_between msg entity.block.end))
blocks_more IsMade msg from at (first ∷ entities) entity made fields order le is each =
    let rest = blocks_more IsMade msg first.block.end at entities entity is.1 fields order.2 le is.4 each in
    (is.0, (is.1 ++ slice_range msg at entity.at) ++ concat fields, is.2, rw is.3 (regroup (slice_range msg from first.at) (concat is.0) is.1 (slice_range msg at entity.at) (concat fields)), rest)
  where
    regroup : (a b c d e : List ℕ) → ((a ++ (b ++ c)) ++ d) ++ e ≡ a ++ (b ++ ((c ++ d) ++ e))
    regroup a b c d e = rw (append_assoc a (b ++ c) d, append_assoc a ((b ++ c) ++ d) e, append_assoc b c d, append_assoc b (c ++ d) e) refl

weighs_more : (weigh : List ℕ → ℕ) (IsMade : FieldRelation) (msg : List ℕ) (entities : List Entity) (entity : Entity) (fields : List (List ℕ)) (sum : ℕ) → WeighsChanged weigh IsMade msg entities sum
    → AllZip (IsMade entity) (raws_of msg entity.block) fields → WeighsChanged weigh IsMade msg (entities ++ entity ∷ []) (changed_by weigh (raws_of msg entity.block) fields + sum)
weighs_more weigh IsMade msg [] entity fields sum is each = (fields, sum, each, refl, is)
weighs_more weigh IsMade msg (first ∷ entities) entity fields sum is each =
    (is.0, changed_by weigh (raws_of msg entity.block) fields + is.1, is.2, omega (arith, is.3), weighs_more weigh IsMade msg entities entity fields is.1 is.4 each)

-- The first entities' blocks were put last, up to this place.
pub record IsMadeSoFar (msg : List ℕ) (entities : List Entity) (i at : ℕ) (made : Written) : Type 0 where
  pub blocks : RewritesBlocks (InEntity IsServedField msg) msg 0 at (take i entities) made.octets
  pub counted : WeighsChanged one (InEntity IsServedField msg) msg (take i entities) made.rewritten
  pub sized : WeighsChanged length (InEntity IsServedField msg) msg (take i entities) made.fresh
  pub before : AreInOrder 0 at (take i entities)
  pub following : AreInOrder at (length msg) (drop i entities)

pub none_made : (msg : List ℕ) (entities : List Entity) (made : Written) → HasTree msg entities → made.octets ≡ [] → made.rewritten ≡ 0 → made.fresh ≡ 0 → IsMadeSoFar msg entities 0 0 made
none_made msg entities made tree none zero no_new = record { blocks = none ∙ sym (nothing_between msg 0); counted = zero; sized = no_new; before = omega arith; following = tree_order msg entities tree }

-- where the next entity's block stands
pub record HasNextBlock (msg : List ℕ) (entities : List Entity) (i at : ℕ) (entity : Entity) : Type 0 where
  pub from : at ≤ entity.at
  pub order : entity.at ≤ entity.block.end
  pub fits : entity.at ≤ length msg
  pub rest : AreInOrder entity.block.end (length msg) (drop (i + 1) entities)

pub next_block : (msg : List ℕ) (entities : List Entity) (i at : ℕ) (made : Written) (entity : Entity) → i < length entities → entity ≡ get_or entities i entity → IsMadeSoFar msg entities i at made
    → HasNextBlock msg entities i at entity
next_block msg entities i at made entity inside is so_far =
    let order : AreInOrder at (length msg) (entity ∷ drop (i + 1) entities) =
    subst (λ es. AreInOrder at (length msg) es) (drop_more entities i entity inside ∙ ap (λ e. e ∷ drop (i + 1) entities) (sym is)) so_far.following in
    let end = order_le entity.block.end (length msg) (drop (i + 1) entities) order.2 in
    let first = order.0 in let second = order.1 in
    record { from = first; order = second; fits = omega arith; rest = order.2 }

pub made_more : (msg : List ℕ) (entities : List Entity) (i at : ℕ) (made middle new : Written) (entity : Entity) → i < length entities → entity ≡ get_or entities i entity → IsMadeSoFar msg entities i at made
    → Copies msg at entity.at made middle → AddsBlock (InEntity IsServedField msg entity) (raws_of msg entity.block) middle new → IsMadeSoFar msg entities (i + 1) entity.block.end new
made_more msg entities i at made middle new entity inside is so_far copies adds =
    let next = next_block msg entities i at made entity inside is so_far in
    let first : take (i + 1) entities ≡ take i entities ++ entity ∷ [] = take_more entities i entity inside ∙ ap (λ e. take i entities ++ e ∷ []) (sym is) in
    let octets : new.octets ≡ (made.octets ++ slice_range msg at entity.at) ++ concat adds.fields = adds.octets ∙ ap (λ text. text ++ concat adds.fields) copies.octets in
    let count : new.rewritten ≡ changed_by one (raws_of msg entity.block) adds.fields + made.rewritten = adds.counted ∙ ap (λ n. changed_by one (raws_of msg entity.block) adds.fields + n) copies.rewritten in
    let size : new.fresh ≡ changed_by length (raws_of msg entity.block) adds.fields + made.fresh = adds.sized ∙ ap (λ n. changed_by length (raws_of msg entity.block) adds.fields + n) copies.fresh in
    record {
      blocks = rw (first, octets) (blocks_more (InEntity IsServedField msg) msg 0 at (take i entities) entity made.octets adds.fields so_far.before next.from so_far.blocks adds.each);
      counted = rw (first, count) (weighs_more one (InEntity IsServedField msg) msg (take i entities) entity adds.fields made.rewritten so_far.counted adds.each);
      sized = rw (first, size) (weighs_more length (InEntity IsServedField msg) msg (take i entities) entity adds.fields made.fresh so_far.sized adds.each);
      before = rw first (order_push 0 at (take i entities) entity so_far.before next.from next.order);
      following = next.rest;
    }
  where
    order_push : (from at : ℕ) (entities : List Entity) (entity : Entity) → AreInOrder from at entities → at ≤ entity.at → entity.at ≤ entity.block.end → AreInOrder from entity.block.end (entities ++ entity ∷ [])
    order_push from at [] entity order le end = (omega arith, end, omega arith)
    order_push from at (first ∷ entities) entity order le end = (order.0, order.1, order_push first.block.end at entities entity order.2 le end)

pub all_made : (msg : List ℕ) (entities items : List Entity) (i at : ℕ) (made new : Written) → items ≡ entities → length items ≤ i → IsMadeSoFar msg items i at made
    → Copies msg at (length msg) made new → HasServedBlocks msg entities new
all_made msg entities items i at made new same all so_far copies =
    let whole : take i items ≡ entities = take_all i items all ∙ same in
    let none : drop i items ≡ [] = drop_all i items all in
    let le : at ≤ length msg = order_le at (length msg) (drop i items) so_far.following in
    record {
      blocks = subst (λ es. RewritesBlocks (InEntity IsServedField msg) msg 0 (length msg) es new.octets) whole
          (rw copies.octets (blocks_further (InEntity IsServedField msg) msg 0 at (length msg) (take i items) made.octets so_far.before le so_far.blocks));
      counted = subst (λ es. WeighsChanged one (InEntity IsServedField msg) msg es new.rewritten) whole (rw copies.rewritten so_far.counted);
      sized = subst (λ es. WeighsChanged length (InEntity IsServedField msg) msg es new.fresh) whole (rw copies.fresh so_far.sized);
    }

-- the next entity's block stands in the message
pub block_stands : (msg : List ℕ) (entities items : List Entity) (i : ℕ) (entity : Entity) → HasTree msg entities → items ≡ entities → i < length items → entity ≡ get_or items i entity → HasBlockWithin msg entity
block_stands msg entities items i entity tree same inside is =
    subst (HasBlockWithin msg) (sym (is ∙ ap (λ es. get_or es i entity) same)) (tree_blocks msg entities tree i entity (rw (← same) inside))
