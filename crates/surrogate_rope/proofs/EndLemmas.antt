-- Where places of a message are in its surrogate: by the ends of blocks, and by their fields' sizes.
use Rattle.std.proofs.Common.{◌≡◌, ◌≢◌, ℕ, zero, suc, ◌+◌, ◌-◌, ◌^◌, ◌<◌, ◌≤◌, inl, inr, true, false, nat_le, List, [], ◌∷◌, ◌++◌, length, take, get_or, map, refl, sym, ap, ◌∙◌, subst, arith, Option, Some, None}
use Rattle.std.specs.List.{All, AllByRecursion, AllAdjacentBelow, concat}
use Rattle.std.specs.List.Sorted.{IsNonDecreasingBy, IsPartitionPoint}
use Rattle.std.proofs.lemmas.Bool.{cases_Bool, cases_lt, leb-true, leb-false}
use Rattle.std.proofs.lemmas.List.{take_more, map_push}
use Rattle.std.proofs.lemmas.List.Elements.{All-head, All-tail}
use Rattle.std.proofs.lemmas.List.Sorted.{IsNonDecreasingBy-from_all_adjacent}
use Rattle.mime_tree.specs.declared.entity.Entity.{Entity}
use Rattle.mime_tree.specs.Outlines.{Outline, outline_of, outlines_of, seen_outline}
use Rattle.mime_tree.specs.declared.outlines.Outline.{Outline as OutlineOf}
use Rattle.mime_tree.specs.Rewriting.{FieldRelation, AreSame, blocks_of, sizes_before, moved, moved_outline}
use Rattle.mime_tree.specs.Tree.{raws_of}
use Rattle.mime_tree.proofs.Parents.{IsBelow, HasParentBelow}
use Rattle.mime_tree.proofs.TreeFields.{HasBlockWithin}
use Rattle.mime_tree.proofs.MovedPlaces.{joined_size, counted, uncounted}
use Rattle.surrogate_rope.specs.declared.moving.End.{End}
use Rattle.surrogate_rope.specs.private.Moving.{moved_by, IsNear, HasPlaces, IsEnd, AreEnds}
use Rattle.surrogate_rope.specs.Stored.{parent_number, HasSmallParent}
use Rattle.surrogate_rope.proofs.OneLayout.{fields_once}

pub ends_push : (IsMade : FieldRelation) (msg : List ℕ) (from made_from : ℕ) (entities : List Entity) (ends : List End) (to made_to : ℕ) (entity : Entity) (end : End) → AreEnds IsMade msg from made_from entities ends to made_to
    → IsEnd IsMade msg to made_to entity end → AreEnds IsMade msg from made_from (entities ++ entity ∷ []) (ends ++ end ∷ []) end.at end.made
ends_push IsMade msg from made_from [] [] to made_to entity end are is = rw (are.0, are.1) (is, (refl, refl))
ends_push IsMade msg from made_from [] (first ∷ ends) to made_to entity end are is = absurd are
ends_push IsMade msg from made_from (first ∷ entities) [] to made_to entity end are is = absurd are
ends_push IsMade msg from made_from (first ∷ entities) (one ∷ ends) to made_to entity end are is = (are.0, ends_push IsMade msg one.at one.made entities ends to made_to entity end are.1 is)

-- blocks end in order
pub ends_rise : (IsMade : FieldRelation) (msg : List ℕ) (from made_from : ℕ) (entities : List Entity) (ends : List End) (to made_to : ℕ) → AreEnds IsMade msg from made_from entities ends to made_to
    → IsNonDecreasingBy (λ (end : End). end.at) ends
ends_rise IsMade msg from made_from entities ends to made_to are = IsNonDecreasingBy-from_all_adjacent (λ (end : End). end.at) ends (next from made_from entities ends are)
  where
    next : (from made_from : ℕ) (entities : List Entity) (ends : List End) → AreEnds IsMade msg from made_from entities ends to made_to → AllAdjacentBelow (λ (a b : End). a.at ≤ b.at) ends (length ends)
    next from made_from [] [] are k d l = absurd (omega (arith, l))
    next from made_from [] (end ∷ ends) are k d l = absurd are
    next from made_from (entity ∷ entities) [] are k d l = absurd are
    next from made_from (entity ∷ entities) (end ∷ []) are k d l = absurd (omega (arith, l))
    next from made_from (entity ∷ []) (end ∷ other ∷ ends) are k d l = absurd are.1
    next from made_from (entity ∷ again ∷ entities) (end ∷ other ∷ ends) are zero d l = let order = are.1.0.order in let span = are.1.0.span in omega arith
    next from made_from (entity ∷ again ∷ entities) (end ∷ other ∷ ends) are (suc k) d l =
        let on : suc k + 1 ≡ suc (k + 1) = omega arith in
        subst (λ n. (get_or (other ∷ ends) k d).at ≤ (get_or (end ∷ other ∷ ends) n d).at) (sym on) (next end.at end.made (again ∷ entities) (other ∷ ends) are.1 k d (omega (arith, l)))

-- ---- by a search

abbrev pub Parts : List End → ℕ → ℕ → Type 0
Parts ends place k = IsPartitionPoint (λ (y : End). nat_le y.at place ≡ true) (λ (y : End). nat_le y.at place ≡ false) ends k

-- no block ends at or before the place
pub moved_before : (from made_from : ℕ) (ends : List End) (place : ℕ) → Parts ends place 0 → moved_by from made_from ends place ≡ made_from + (place - from)
moved_before from made_from [] place point = refl
moved_before from made_from (end ∷ ends) place point = rw (point.1 0 end (omega arith) (omega arith)) refl

-- the last block that does is the one before this number
pub moved_after : (from made_from : ℕ) (ends : List End) (place k : ℕ) (d : End) → Parts ends place (suc k) → suc k ≤ length ends
    → moved_by from made_from ends place ≡ (get_or ends k d).made + (place - (get_or ends k d).at)
moved_after from made_from [] place k d point inside = absurd (omega (arith, inside))
moved_after from made_from (end ∷ ends) place zero d point inside =
    rw (point.0 0 end (omega arith) (omega arith)) (moved_before end.at end.made ends place ((λ i e low high. absurd (omega (arith, high))), λ i e low high. point.1 (suc i) e (omega arith) (omega (arith, high))))
moved_after from made_from (end ∷ ends) place (suc k) d point inside =
    rw (point.0 0 end (omega arith) (omega arith))
    (moved_after end.at end.made ends place k d ((λ i e low high. point.0 (suc i) e (omega arith) (omega (arith, high))), λ i e low high. point.1 (suc i) e (omega (arith, low)) (omega (arith, high))) (omega (arith, inside)))

-- the same by the number of those blocks
pub moved_last : (ends : List End) (place k : ℕ) (d : End) → Parts ends place k → k ≢ 0 → k ≤ length ends → moved_by 0 0 ends place ≡ (get_or ends (k - 1) d).made + (place - (get_or ends (k - 1) d).at)
moved_last ends place k d point some inside =
    let last : suc (k - 1) ≡ k = one_less k some in
    moved_after 0 0 ends place (k - 1) d (subst (Parts ends place) (sym last) point) (subst (λ n. n ≤ length ends) (sym last) inside)
  where
    one_less : (k : ℕ) → k ≢ 0 → suc (k - 1) ≡ k
    one_less k some = elim (cases_lt k 1) [
      | inl less ↦ absurd (some (omega arith))
      | inr more ↦ omega arith
    ]

pub last_before : (ends : List End) (place k : ℕ) (d : End) → Parts ends place k → k ≢ 0 → (get_or ends (k - 1) d).at ≤ place
last_before ends place k d point some = elim (cases_lt k 1) [
  | inl less ↦ absurd (some (omega arith))
  | inr more ↦ leb-true (get_or ends (k - 1) d).at place (point.0 (k - 1) d (omega arith) (omega arith))
]

-- ---- by sizes

-- blocks that end after the place aren't counted
none_later : (IsMade : FieldRelation) (msg : List ℕ) (from made_from : ℕ) (entities : List Entity) (ends : List End) (to made_to place : ℕ) (blocks : List (List (List ℕ)))
    → AreEnds IsMade msg from made_from entities ends to made_to → place < from → sizes_before entities blocks place ≡ 0
none_later IsMade msg from made_from [] ends to made_to place blocks are less = refl
none_later IsMade msg from made_from (entity ∷ entities) [] to made_to place blocks are less = absurd are
none_later IsMade msg from made_from (entity ∷ entities) (end ∷ ends) to made_to place [] are less = refl
none_later IsMade msg from made_from (entity ∷ entities) (end ∷ ends) to made_to place (fields ∷ blocks) are less =
    let order = are.0.order in
    let span = are.0.span in
    let at = are.0.at in
    omega (arith, uncounted entity fields place (λ past. absurd (omega (arith, past))), none_later IsMade msg end.at end.made entities ends to made_to place blocks are.1 (omega arith))

-- what is met after a block is met before it
end_meets : (IsMade : FieldRelation) (msg : List ℕ) → ((entity : Entity) (raw one two : List ℕ) → IsMade entity raw one → IsMade entity raw two → one ≡ two) → (from made_from : ℕ) (entity : Entity) (entities : List Entity) (end : End)
    (ends : List End) (to made_to last : ℕ) (made : List ℕ) (made_last : ℕ) (other : Entity) (others : List Entity) (place : ℕ) → AreEnds IsMade msg from made_from (entity ∷ entities) (end ∷ ends) to made_to
    → All (HasBlockWithin msg) (entity ∷ entities) → AreSame IsMade msg last (entity ∷ entities) made made_last (other ∷ others) → from ≤ place
    → (end.at ≤ place
    → moved_by end.at end.made ends place + sizes_before entities (blocks_of msg entities) place + end.at ≡ place + sizes_before entities (blocks_of made others) place + end.made)
    → moved_by from made_from (end ∷ ends) place + sizes_before (entity ∷ entities) (blocks_of msg (entity ∷ entities)) place + from
    ≡ place + sizes_before (entity ∷ entities) (blocks_of made (other ∷ others)) place + made_from
end_meets IsMade msg once from made_from entity entities end ends to made_to last made made_last other others place are blocks same less next = elim (cases_Bool (nat_le end.at place)) [
  | inl is ↦ rw is (past (leb-true end.at place is))
  | inr is ↦ rw is (before (leb-false end.at place is))
]
  where
    raws : List (List ℕ)
    raws = raws_of msg entity.block

    fields : List (List ℕ)
    fields = raws_of made other.block

    past : end.at ≤ place
        → moved_by end.at end.made ends place + sizes_before (entity ∷ entities) (blocks_of msg (entity ∷ entities)) place + from
        ≡ place + sizes_before (entity ∷ entities) (blocks_of made (other ∷ others)) place + made_from
    past low =
        let block = All-head (HasBlockWithin msg) entity entities blocks in
        let size = joined_size msg entity.at entity.block.fields entity.block.end block.fields block.joined in
        let rest = next low in
        let unique : are.0.fields ≡ fields = fields_once (IsMade entity) raws are.0.fields fields (once entity) are.0.each same.0.fields in
        let made_size = ap (λ all. length (concat all)) unique in
        let at = are.0.at in
        let order = are.0.order in
        let made_at = are.0.made in
        let old_count = counted entity raws place (omega arith) in
        let new_count = counted entity fields place (omega arith) in
        omega arith

    before : place < end.at
        → made_from + (place - from) + sizes_before (entity ∷ entities) (blocks_of msg (entity ∷ entities)) place + from
        ≡ place + sizes_before (entity ∷ entities) (blocks_of made (other ∷ others)) place + made_from
    before high =
        let at = are.0.at in
        let old_count = uncounted entity raws place (λ low. absurd (omega (arith, low))) in
        let new_count = uncounted entity fields place (λ low. absurd (omega (arith, low))) in
        let old_rest = none_later IsMade msg end.at end.made entities ends to made_to place (blocks_of msg entities) are.1 high in
        let new_rest = none_later IsMade msg end.at end.made entities ends to made_to place (blocks_of made others) are.1 high in
        omega arith

ends_meet : (IsMade : FieldRelation) (msg : List ℕ) → ((entity : Entity) (raw one two : List ℕ) → IsMade entity raw one → IsMade entity raw two → one ≡ two) → (from made_from : ℕ) (entities : List Entity) (ends : List End)
    (to made_to last : ℕ) (made : List ℕ) (made_last : ℕ) (others : List Entity) (place : ℕ) → AreEnds IsMade msg from made_from entities ends to made_to → All (HasBlockWithin msg) entities
    → AreSame IsMade msg last entities made made_last others → from ≤ place
    → moved_by from made_from ends place + sizes_before entities (blocks_of msg entities) place + from ≡ place + sizes_before entities (blocks_of made others) place + made_from
ends_meet IsMade msg once from made_from [] [] to made_to last made made_last others place are blocks same less = omega arith
ends_meet IsMade msg once from made_from [] (end ∷ ends) to made_to last made made_last others place are blocks same less = absurd are
ends_meet IsMade msg once from made_from (entity ∷ entities) [] to made_to last made made_last others place are blocks same less = absurd are
ends_meet IsMade msg once from made_from (entity ∷ entities) (end ∷ ends) to made_to last made made_last [] place are blocks same less = absurd same
ends_meet IsMade msg once from made_from (entity ∷ entities) (end ∷ ends) to made_to last made made_last (other ∷ others) place are blocks same less =
    end_meets IsMade msg once from made_from entity entities end ends to made_to last made made_last other others place are blocks same less
    (λ low. ends_meet IsMade msg once end.at end.made entities ends to made_to last made made_last others place are.1 (All-tail (HasBlockWithin msg) entity entities blocks) same.1 low)

-- Both ways give the same place.
pub ends_move : (IsMade : FieldRelation) (msg : List ℕ) → ((entity : Entity) (raw one two : List ℕ) → IsMade entity raw one → IsMade entity raw two → one ≡ two) → (entities : List Entity) (ends : List End) (to made_to last : ℕ)
    (made : List ℕ) (made_last : ℕ) (others : List Entity) → AreEnds IsMade msg 0 0 entities ends to made_to → All (HasBlockWithin msg) entities → AreSame IsMade msg last entities made made_last others → (place : ℕ)
    → moved_by 0 0 ends place ≡ moved msg entities (blocks_of made others) place
ends_move IsMade msg once entities ends to made_to last made made_last others are blocks same place =
    omega (arith, ends_meet IsMade msg once 0 0 entities ends to made_to last made made_last others place are blocks same (omega arith))

-- so outlines are moved alike
pub outlines_alike : (one two : ℕ → ℕ) (outlines : List Outline) → ((place : ℕ) → one place ≡ two place) → map (moved_outline one) outlines ≡ map (moved_outline two) outlines
outlines_alike one two [] same = refl
outlines_alike one two (outline ∷ outlines) same = rw (same outline.at, same outline.body, same outline.end, outlines_alike one two outlines same) refl

-- the place can be counted
pub moved_fits : (ends : List End) (k place : ℕ) (d : End) → AllByRecursion IsNear ends → k < length ends → place < 2 ^ 63 → (get_or ends k d).at ≤ place → (get_or ends k d).made + (place - (get_or ends k d).at) < 2 ^ 64
moved_fits ends k place d near inside small past = let here = nth ends k near inside in omega arith
  where
    nth : (ends : List End) (k : ℕ) → AllByRecursion IsNear ends → k < length ends → (get_or ends k d).made ≤ (get_or ends k d).at + 2 ^ 63
    nth [] k near inside = absurd (omega (arith, inside))
    nth (end ∷ ends) zero near inside = near.0
    nth (end ∷ ends) (suc k) near inside = nth ends k near.1 (omega (arith, inside))

-- a tree's places are those of its octets
pub tree_places : (msg : List ℕ) (entities : List Entity) → All (HasBlockWithin msg) entities → length msg < 2 ^ 63 → AllByRecursion HasPlaces (outlines_of entities)
tree_places msg [] blocks small = tt
tree_places msg (entity ∷ entities) blocks small =
    let block = All-head (HasBlockWithin msg) entity entities blocks in
    let begin = block.begin in
    let body = block.body in
    let end = block.end in
    (record { at = omega arith; body = omega arith; end = omega arith }, tree_places msg entities (All-tail (HasBlockWithin msg) entity entities blocks) small)

-- and parents stay
pub moved_parents : (to : ℕ → ℕ) (entities : List Entity) (limit : ℕ) → AllByRecursion (HasParentBelow limit) entities → limit < 2 ^ 64 → AllByRecursion HasSmallParent (map (moved_outline to) (outlines_of entities))
moved_parents to [] limit below small = tt
moved_parents to (entity ∷ entities) limit below small = (go entity.parent below.0, moved_parents to entities limit below.1 small)
  where
    go : (parent : Option ℕ) → IsBelow limit parent → parent_number parent < 2 ^ 64
    go None is = omega arith
    go (Some parent) is = omega (arith, is)

-- one more entity is moved
pub outline_moved : (to : ℕ → ℕ) (entities : List Entity) (i : ℕ) (entity : Entity) (outlines : List OutlineOf) (outline one : OutlineOf) → i < length entities → entity ≡ get_or entities i entity
    → map seen_outline outlines ≡ map (moved_outline to) (outlines_of (take i entities)) → seen_outline outline ≡ outline_of entity → seen_outline one ≡ moved_outline to (seen_outline outline)
    → map seen_outline (outlines ++ one ∷ []) ≡ map (moved_outline to) (outlines_of (take (i + 1) entities))
outline_moved to entities i entity outlines outline one inside is so_far told moved_is =
    let last : seen_outline one ≡ moved_outline to (outline_of entity) = moved_is ∙ ap (moved_outline to) told in
    let front : List Outline = map (moved_outline to) (outlines_of (take i entities)) in
    let whole : map (moved_outline to) (outlines_of (take (i + 1) entities)) ≡ front ++ moved_outline to (outline_of entity) ∷ [] =
    ap (λ all. map (moved_outline to) (outlines_of all)) (take_more entities i entity inside ∙ ap (λ e. take i entities ++ e ∷ []) (sym is))
    ∙ ap (map (moved_outline to)) (map_push outline_of (take i entities) entity) ∙ map_push (moved_outline to) (outlines_of (take i entities)) (outline_of entity) in
    map_push seen_outline outlines one ∙ ap (λ text. text ++ seen_outline one ∷ []) so_far ∙ ap (λ end. front ++ end ∷ []) last ∙ sym whole

-- its places are those of the message
pub places_at : (entities : List Entity) (i : ℕ) (entity : Entity) (outline : OutlineOf) → AllByRecursion HasPlaces (outlines_of entities) → i < length entities → entity ≡ get_or entities i entity → seen_outline outline ≡ outline_of entity
    → HasPlaces (seen_outline outline)
places_at entities i entity outline all inside is told = subst HasPlaces (sym told) (subst (λ (e : Entity). HasPlaces (outline_of e)) (sym is) (nth entities i all inside))
  where
    nth : (entities : List Entity) (i : ℕ) → AllByRecursion HasPlaces (outlines_of entities) → i < length entities → HasPlaces (outline_of (get_or entities i entity))
    nth [] i all inside = absurd (omega (arith, inside))
    nth (first ∷ entities) zero all inside = all.0
    nth (first ∷ entities) (suc i) all inside = nth entities i all.1 (omega (arith, inside))

pub last_fits : (ends : List End) (place k : ℕ) (d : End) → Parts ends place k → k ≢ 0 → k ≤ length ends → AllByRecursion IsNear ends → place < 2 ^ 63 → (get_or ends (k - 1) d).made + (place - (get_or ends (k - 1) d).at) < 2 ^ 64
last_fits ends place k d point some inside near small = elim (cases_lt k 1) [
  | inl less ↦ absurd (some (omega arith))
  | inr more ↦ moved_fits ends (k - 1) place d near (omega arith) small (last_before ends place k d point some)
]
