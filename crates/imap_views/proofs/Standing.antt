-- The entities of what is shown stand in it, each with a header that has a block, and those in one have a level less.
use Rattle.std.proofs.Common.{◌≡◌, ℕ, zero, suc, ◌+◌, ◌<◌, ◌≤◌, ◌⊎◌, inl, inr, List, [], ◌∷◌, ◌++◌, Bool, true, false, length, take, drop, Option, Some, None, slice_get, arith, refl, sym, ap, ◌∙◌, subst, append_assoc, append-nil, length-append, eq-eqb, ne_eqb}
use Rattle.std.specs.Prelude.{◌==◌, slice_range}
use Rattle.std.specs.Option.{option_map}
use Rattle.std.specs.List.{All, AllByRecursion, concat}
use Rattle.std.proofs.lemmas.List.{map-append, length-map, take-append-drop, get_or_at}
use Rattle.std.proofs.lemmas.List.Elements.{All-nil, All-cons}
use Rattle.std.proofs.lemmas.Option.{slice_get-map, slice_get-get_or}
use Rattle.mail_wire.specs.Lines.{lines_of}
use Rattle.mail_wire.proofs.AllLemmas.{all-append, all-back}
use Rattle.utf8_fields.specs.declared.block.Block.{Block}
use Rattle.utf8_fields.specs.declared.block.Field.{Field}
use Rattle.utf8_fields.specs.Block.{IsFieldAt, AreFields, EndsBlock}
use Rattle.utf8_fields.proofs.FirstField.{field_of}
use Rattle.utf8_fields.proofs.LineShapes.{AreLines}
use Rattle.mime_tree.specs.declared.entity.Entity.{Entity}
use Rattle.mime_tree.specs.declared.entity.Shape.{Shape}
use Rattle.mime_tree.specs.declared.openings.Opening.{Opening}
use Rattle.mime_tree.specs.declared.openings.Opening.TheVariants.{Nothing, Message, Parts}
use Rattle.mime_tree.specs.Outlines.{outline_of, outlines_of}
use Rattle.mime_tree.specs.Parts.{Part, parts_of, size}
use Rattle.mime_tree.specs.Sections.{is_in, children_from}
use Rattle.mime_tree.specs.Tree.{HasHead, IsWithInner, EntityRelation, AreParts, IsDivided, IsOpened, IsEntity, HasTree, depth_max}
use Rattle.mime_tree.proofs.EmptyLast.{fields_filled}
use Rattle.mime_tree.proofs.EndedLines.{IsFilled}
use Rattle.mime_tree.proofs.Heads.{fields_size}
use Rattle.mime_tree.proofs.InOrder.{head_places}
use Rattle.mime_tree.proofs.InPlace.{stands_slice}
use Rattle.mime_tree.proofs.FieldsWithin.{head_within}
use Rattle.mime_tree.proofs.LinesAgain.{lines_again}
use Rattle.mime_tree.proofs.LinesWithin.{AreLinesAt, ArePartsAt, lines_front, all_lines, parts_of_at}
use Rattle.mime_tree.proofs.Regions.{size-append}
use Rattle.surrogate_rope.specs.declared.shown.Shown.{Shown}
use Rattle.surrogate_rope.specs.declared.shown.Shown.TheVariants.{Whole, Rope}
use Rattle.surrogate_rope.specs.Served.{IsShownOf, shown_octets, shown_outlines}
use Rattle.imap_views.specs.Fields.{HasSomeBlock}
use Rattle.imap_views.specs.Structures.{Seen}
use Rattle.imap_views.specs.private.Reading.{AreStanding, IsInPlace, IsStanding}
use Rattle.imap_views.proofs.Children.{children-append}

-- ---- a header has a block of its own

-- the line that ends a block isn't empty either, and it ends the block alone, too
end_filled : (rest : List (List ℕ)) → EndsBlock rest → AllByRecursion IsFilled (take 1 rest)
end_filled [] ends = tt
end_filled (line ∷ rest) ends = (λ none. let clash = sym none ∙ ends in cc clash, tt)

ends_alone : (rest : List (List ℕ)) → EndsBlock rest → EndsBlock (take 1 rest)
ends_alone [] ends = tt
ends_alone (line ∷ rest) ends = ends

-- lines that aren't empty are those of what they are joined
filled_again : (lines : List (List ℕ)) → AreLines lines → AllByRecursion IsFilled lines → lines ≡ lines_of (concat lines)
filled_again lines are filled = elim (lines_again lines are) [
  | inl same ↦ same
  | inr more ↦ absurd ((all-back IsFilled (lines_of (concat lines)) ([] ∷ []) (subst (AllByRecursion IsFilled) more filled)).0 refl)
]

-- the same lines have fields at another place
moved_fields : (lines : List (List ℕ)) (at : ℕ) (fields : List Field) (end to : ℕ) → AreFields lines at fields end → (others : List Field) × (last : ℕ) × AreFields lines to others last
moved_fields lines at [] end to are = ([], to, (are.0, refl))
moved_fields lines at (field ∷ fields) end to are =
    let later = moved_fields are.2 (at + field.raw.len) fields end (to + field.raw.len) are.5 in
    let is = are.4 in
    let moved : IsFieldAt to (field_of to field.name.len field.raw.len) are.0 are.1 =
    record { name_at = refl; raw_at = refl; raw_len = is.raw_len; begins = is.begins; further = is.further; sound = is.sound; utf8 = is.utf8 } in
    (field_of to field.name.len field.raw.len ∷ later.0, later.1, (are.0, are.1, are.2, are.3, moved, later.2))

-- what stands before a content has a block
head_block : (octets : List ℕ) (at : ℕ) (lines : List (List ℕ)) (block : Block) (body : ℕ) (content : List (List ℕ)) → AreLinesAt octets at lines → HasHead at lines block body content
    → HasSomeBlock (slice_range octets at body)
head_block octets at lines block body content is head =
    let has = head.has_block in
    let front : List (List ℕ) = has.header ++ take 1 has.rest in
    let whole : lines ≡ front ++ drop 1 has.rest =
    has.lines ∙ ap (λ rest. has.header ++ rest) (sym (take-append-drop 1 has.rest)) ∙ sym (append_assoc has.header (take 1 has.rest) (drop 1 has.rest)) in
    let stand = lines_front octets at front (drop 1 has.rest) (subst (AreLinesAt octets at) whole is) in
    let end = fields_size has.header at block.fields block.end has.fields_are in
    let body_is = head.body_is in
    let sizes = size-append has.header (take 1 has.rest) in
    let place : at + size front ≡ body = omega arith in
    let slice : slice_range octets at body ≡ concat front = stands_slice octets at body (concat front) place stand.stand in
    let filled = all-append IsFilled has.header (take 1 has.rest) (fields_filled has.header at block.fields block.end has.fields_are) (end_filled has.rest has.ends) in
    let again = filled_again front stand.are filled in
    let moved = moved_fields has.header at block.fields block.end 0 has.fields_are in
    record {
      fields = moved.0;
      end = moved.1;
      has_block = record { header = has.header; rest = take 1 has.rest; lines = ap lines_of slice ∙ sym again; fields_are = moved.2; ends = ends_alone has.rest has.ends };
    }

-- ---- which entity is in which

-- none of the entities is directly in the one of this number
abbrev AreApart : ℕ → List Entity → Type 0
AreApart number entities = AllByRecursion (λ (entity : Entity). is_in entity.parent number ≡ false) entities

apart-append : (number : ℕ) (entities more : List Entity) → AreApart number entities → AreApart number more → AreApart number (entities ++ more)
apart-append number entities more first second = all-append (λ (entity : Entity). is_in entity.parent number ≡ false) entities more first second

no_children : (from number : ℕ) (entities : List Entity) → AreApart number entities → children_from from (outlines_of entities) number ≡ []
unfolding children_from
no_children from number [] apart = refl
no_children from number (entity ∷ entities) apart = rw apart.0 (no_children (from + 1) number entities apart.1)

entities-append : (from number : ℕ) (entities more : List Entity)
    → children_from from (outlines_of (entities ++ more)) number ≡ children_from from (outlines_of entities) number ++ children_from (from + length entities) (outlines_of more) number
entities-append from number entities more =
    ap (λ outlines. children_from from outlines number) (map-append outline_of entities more) ∙ children-append from number (outlines_of entities) (outlines_of more)
    ∙ ap (λ n. children_from from (outlines_of entities) number ++ children_from (from + n) (outlines_of more) number) (length-map entities outline_of)

-- a number isn't one of these
abbrev IsOutside : ℕ → ℕ → ℕ → Type 0
IsOutside from to n = (n < from) ⊎ (to ≤ n)

-- The first of the entities, the first of which has this number, has this parent; the others are in one of these.
record HasParents (parent : Option ℕ) (number : ℕ) (entities : List Entity) : Type 0 where
  first : Entity
  inner : List Entity
  entities_are : entities ≡ first ∷ inner
  parent_is : first.parent ≡ parent
  inner_apart : (n : ℕ) → IsOutside number (number + length entities) n → AreApart n inner

GivesParents : EntityRelation → Type 0
GivesParents IsOne = (parent : Option ℕ) (digest : Bool) (number at : ℕ) (lines : List (List ℕ)) (entities : List Entity) → IsOne parent digest number at lines entities → HasParents parent number entities

parents_apart : (parent : Option ℕ) (number : ℕ) (entities : List Entity) → HasParents parent number entities → (n : ℕ) → is_in parent n ≡ false → IsOutside number (number + length entities) n → AreApart n entities
parents_apart parent number entities has n other out = subst (AreApart n) (sym has.entities_are) (rw has.parent_is other, has.inner_apart n out)

-- an entity is the one child among its entities
one_child : (p number : ℕ) (entities : List Entity) → HasParents (Some p) number entities → p < number → children_from number (outlines_of entities) p ≡ number ∷ []
unfolding children_from
one_child p number entities has before = rw (has.entities_are, has.parent_is, nat_refl p, no_children (number + 1) p has.inner (has.inner_apart p (inl before))) refl
  where
    nat_refl : (n : ℕ) → (n == n) ≡ true
    nat_refl n = eq-eqb n n refl

parts_apart : (IsOne : EntityRelation) → GivesParents IsOne → (p : ℕ) (digest : Bool) (number : ℕ) (parts : List Part) (entities : List Entity) → AreParts IsOne (Some p) digest number parts entities
    → (n : ℕ) → (p == n) ≡ false → IsOutside number (number + length entities) n → AreApart n entities
unfolding GivesParents
parts_apart IsOne gives p digest number [] entities are n other out = rw are tt
parts_apart IsOne gives p digest number (part ∷ parts) entities are n other out =
    let sizes : length entities ≡ length are.0 + length are.1 = ap length are.2 ∙ length-append are.0 are.1 in
    let first : IsOutside number (number + length are.0) n = elim out [ inl below ↦ inl below | inr past ↦ inr (omega arith) ] in
    let rest : IsOutside (number + length are.0) (number + length are.0 + length are.1) n = elim out [ inl below ↦ inl (omega arith) | inr past ↦ inr (omega arith) ] in
    subst (AreApart n) (sym are.2) (apart-append n are.0 are.1
    (parents_apart (Some p) number are.0 (gives (Some p) digest number part.at part.lines are.0 are.3) n other first)
    (parts_apart IsOne gives p digest (number + length are.0) parts are.1 are.4 n other rest))

outside_other : (number to n : ℕ) → number < to → IsOutside number to n → (number == n) ≡ false
outside_other number to n some out = ne_eqb number n (λ same. elim out [ inl below ↦ absurd (omega arith) | inr past ↦ absurd (omega arith) ])

opened_apart : (IsOne : EntityRelation) → GivesParents IsOne → (opening : Opening) (number body : ℕ) (content : List (List ℕ)) (shape : Shape) (inner : List Entity)
    → IsOpened IsOne opening number body content shape inner → (n : ℕ) → IsOutside number (number + suc (length inner)) n → AreApart n inner
unfolding GivesParents
opened_apart IsOne gives Nothing number body content shape inner is n out = rw is.1 tt
opened_apart IsOne gives Message number body content shape inner is n out =
    let further : IsOutside (number + 1) (number + 1 + length inner) n = elim out [ inl below ↦ inl (omega arith) | inr past ↦ inr (omega arith) ] in
    parents_apart (Some number) (number + 1) inner (gives (Some number) false (number + 1) body content inner is.1) n (outside_other number (number + suc (length inner)) n (omega arith) out) further
opened_apart IsOne gives (Parts boundary digest) number body content shape inner is n out = go (parts_of boundary body content) is
  where
    go : (parts : List Part) → IsDivided IsOne digest number parts shape inner → AreApart n inner
    go [] is = rw is.1 tt
    go (part ∷ parts) is =
        let further : IsOutside (number + 1) (number + 1 + length inner) n = elim out [ inl below ↦ inl (omega arith) | inr past ↦ inr (omega arith) ] in
        parts_apart IsOne gives number digest (number + 1) (part ∷ parts) inner is.1 n (outside_other number (number + suc (length inner)) n (omega arith) out) further

with_parents : (parent : Option ℕ) (depth number at : ℕ) (lines : List (List ℕ)) (entities : List Entity) (is : IsWithInner parent depth at lines entities)
    → ((n : ℕ) → IsOutside number (number + suc (length is.inner)) n → AreApart n is.inner) → HasParents parent number entities
with_parents parent depth number at lines entities is apart = record {
  first = is.entity;
  inner = is.inner;
  entities_are = is.entities_are;
  parent_is = is.parent_is;
  inner_apart = λ n out. apart n (subst (λ all. IsOutside number (number + length all) n) is.entities_are out);
}

entity_parents : (levels : ℕ) (octets : List ℕ) → GivesParents (IsEntity levels octets)
unfolding GivesParents IsEntity
entity_parents zero octets = λ parent digest number at lines entities is. with_parents parent (depth_max + 1) number at lines entities is.0 (λ n out. subst (AreApart n) (sym is.2) tt)
entity_parents (suc levels) octets = λ parent digest number at lines entities is.
    with_parents parent _ number at lines entities is.0
    (opened_apart (IsEntity levels octets) (entity_parents levels octets) is.1 number is.0.entity.body is.0.content is.0.entity.shape is.0.inner is.3)

-- ---- entities among all

-- These are the entities from this number on, and none of the others is in one of theirs.
record IsAmong (all : List Entity) (number : ℕ) (entities : List Entity) : Type 0 where
  before : List Entity
  after : List Entity
  whole : all ≡ before ++ (entities ++ after)
  place : length before ≡ number
  before_apart : (n : ℕ) → number ≤ n → AreApart n before
  after_apart : (n : ℕ) → number ≤ n → n < number + length entities → AreApart n after

among_front : (all : List Entity) (number : ℕ) (entities more : List Entity) → ((n : ℕ) → number ≤ n → n < number + length entities → AreApart n more) → IsAmong all number (entities ++ more)
    → IsAmong all number entities
among_front all number entities more apart is = record {
  before = is.before;
  after = more ++ is.after;
  whole = is.whole ∙ ap (λ rest. is.before ++ rest) (append_assoc entities more is.after);
  place = is.place;
  before_apart = is.before_apart;
  after_apart = λ n low high. apart-append n more is.after (apart n low high) (is.after_apart n low (omega (arith, length-append entities more)));
}

among_back : (all : List Entity) (number : ℕ) (entities more : List Entity) → ((n : ℕ) → number + length entities ≤ n → AreApart n entities) → IsAmong all number (entities ++ more)
    → IsAmong all (number + length entities) more
among_back all number entities more apart is =
    let place = is.place in
    record {
      before = is.before ++ entities;
      after = is.after;
      whole = is.whole ∙ ap (λ rest. is.before ++ rest) (append_assoc entities more is.after) ∙ sym (append_assoc is.before entities (more ++ is.after));
      place = omega (arith, length-append is.before entities);
      before_apart = λ n low. apart-append n is.before entities (is.before_apart n (omega arith)) (apart n low);
      after_apart = λ n low high. is.after_apart n (omega arith) (omega (arith, length-append entities more));
    }

-- the entity of the number
among_first : (all : List Entity) (number : ℕ) (entity : Entity) (inner : List Entity) → IsAmong all number (entity ∷ inner) → slice_get (outlines_of all) number ≡ Some (outline_of entity)
among_first all number entity inner is =
    let rest : List Entity = inner ++ is.after in
    let whole : all ≡ is.before ++ entity ∷ rest = is.whole in
    let place = is.place in
    let found : slice_get (is.before ++ entity ∷ rest) number ≡ Some entity =
    slice_get-get_or (is.before ++ entity ∷ rest) number entity (omega (arith, length-append is.before (entity ∷ rest))) ∙ ap Some (get_or_at is.before entity rest entity number place) in
    slice_get-map outline_of all number ∙ ap (option_map outline_of) (ap (λ list. slice_get list number) whole ∙ found)

-- its children are all among those after it
among_children : (all : List Entity) (number : ℕ) (entity : Entity) (inner : List Entity) → is_in entity.parent number ≡ false → IsAmong all number (entity ∷ inner)
    → children_from 0 (outlines_of all) number ≡ children_from (number + 1) (outlines_of inner) number
unfolding children_from
among_children all number entity inner other is =
    let later : List ℕ = children_from (number + 1) (outlines_of inner) number in
    let front = entities-append 0 number is.before ((entity ∷ inner) ++ is.after) in
    let none = no_children 0 number is.before (is.before_apart number (omega arith)) in
    let place : 0 + length is.before ≡ number = let at = is.place in omega arith in
    let back : children_from number (outlines_of ((entity ∷ inner) ++ is.after)) number ≡ later =
    entities-append number number (entity ∷ inner) is.after
    ∙ ap (λ more. children_from number (outlines_of (entity ∷ inner)) number ++ more) (no_children (number + length (entity ∷ inner)) number is.after (is.after_apart number (omega arith) (omega arith)))
    ∙ append-nil (children_from number (outlines_of (entity ∷ inner)) number) ∙ rw other refl in
    ap (λ list. children_from 0 (outlines_of list) number) is.whole ∙ front ∙ rw (none, place) back

-- ---- entities that stand

-- The entity of the number stands, where its lines stand in the octets and its entities are among all.
StandsIn : List ℕ → List Entity → EntityRelation → (ℕ → Type 0) → Type 0
StandsIn octets all IsOne Stands = (parent : Option ℕ) (digest : Bool) (number at : ℕ) (lines : List (List ℕ)) (entities : List Entity) → IsOne parent digest number at lines entities
    → AreLinesAt octets at lines → ((n : ℕ) → number ≤ n → is_in parent n ≡ false) → IsAmong all number entities → Stands number

before_other : (p n : ℕ) → p < n → (p == n) ≡ false
before_other p n less = ne_eqb p n (λ same. absurd (omega arith))

parts_stand : (octets : List ℕ) (all : List Entity) (IsOne : EntityRelation) (Stands : ℕ → Type 0) → GivesParents IsOne → StandsIn octets all IsOne Stands → (p : ℕ) (digest : Bool) (number : ℕ)
    (parts : List Part) (entities : List Entity) → AreParts IsOne (Some p) digest number parts entities → ArePartsAt octets parts → p < number → IsAmong all number entities
    → All Stands (children_from number (outlines_of entities) p)
unfolding GivesParents StandsIn children_from
parts_stand octets all IsOne Stands gives stands p digest number [] entities are at before among = rw are (All-nil Stands)
parts_stand octets all IsOne Stands gives stands p digest number (part ∷ parts) entities are at before among =
    let parents = gives (Some p) digest number part.at part.lines are.0 are.3 in
    let here : IsAmong all number (are.0 ++ are.1) = subst (IsAmong all number) are.2 among in
    let first = among_front all number are.0 are.1 (λ n low high. parts_apart IsOne gives p digest (number + length are.0) parts are.1 are.4 n (before_other p n (omega arith)) (inl high)) here in
    let rest = among_back all number are.0 are.1 (λ n low. parents_apart (Some p) number are.0 parents n (before_other p n (omega arith)) (inr low)) here in
    let children : children_from number (outlines_of entities) p ≡ number ∷ children_from (number + length are.0) (outlines_of are.1) p =
    ap (λ list. children_from number (outlines_of list) p) are.2 ∙ entities-append number p are.0 are.1
    ∙ ap (λ one. one ++ children_from (number + length are.0) (outlines_of are.1) p) (one_child p number are.0 parents before) in
    subst (All Stands) (sym children)
    (All-cons Stands number (children_from (number + length are.0) (outlines_of are.1) p)
    (stands (Some p) digest number part.at part.lines are.0 are.3 at.0 (λ n low. before_other p n (omega arith)) first)
    (parts_stand octets all IsOne Stands gives stands p digest (number + length are.0) parts are.1 are.4 at.1 (omega arith) rest))

opened_stand : (octets : List ℕ) (all : List Entity) (IsOne : EntityRelation) (Stands : ℕ → Type 0) → GivesParents IsOne → StandsIn octets all IsOne Stands → (opening : Opening) (number body : ℕ)
    (content : List (List ℕ)) (shape : Shape) (inner : List Entity) → IsOpened IsOne opening number body content shape inner → AreLinesAt octets body content → IsAmong all (number + 1) inner
    → children_from 0 (outlines_of all) number ≡ children_from (number + 1) (outlines_of inner) number → AreStanding Stands (outlines_of all) number shape
unfolding StandsIn
opened_stand octets all IsOne Stands gives stands Nothing number body content shape inner is lines among children = rw is.0 tt
opened_stand octets all IsOne Stands gives stands Message number body content shape inner is lines among children =
    rw is.0 (stands (Some number) false (number + 1) body content inner is.1 lines (λ n low. before_other number n (omega arith)) among)
opened_stand octets all IsOne Stands gives stands (Parts boundary digest) number body content shape inner is lines among children =
    go (parts_of boundary body content) (parts_of_at octets boundary body content lines) is
  where
    go : (parts : List Part) → ArePartsAt octets parts → IsDivided IsOne digest number parts shape inner → AreStanding Stands (outlines_of all) number shape
    go [] at is = rw is.0 tt
    go (part ∷ parts) at is =
        rw is.0 (subst (All Stands) (sym children) (parts_stand octets all IsOne Stands gives stands number digest (number + 1) (part ∷ parts) inner is.1 at (omega arith) among))

-- what is shown, of these octets and entities
abbrev seen_of : List ℕ → List Entity → Bool → Seen
seen_of octets all extended = record { octets = octets; outlines = outlines_of all; extended = extended }

with_stand : (octets : List ℕ) (all : List Entity) (extended : Bool) (levels : ℕ) (parent : Option ℕ) (depth number at : ℕ) (lines : List (List ℕ)) (entities : List Entity)
    (is : IsWithInner parent depth at lines entities) → AreLinesAt octets at lines → ((n : ℕ) → number ≤ n → is_in parent n ≡ false) → IsAmong all number entities
    → (AreLinesAt octets is.entity.body is.content → IsAmong all (number + 1) is.inner → children_from 0 (outlines_of all) number ≡ children_from (number + 1) (outlines_of is.inner) number
    → AreStanding (IsStanding levels (seen_of octets all extended)) (outlines_of all) number is.entity.shape)
    → IsStanding (suc levels) (seen_of octets all extended) number
unfolding IsStanding
with_stand octets all extended levels parent depth number at lines entities is stand others among inner =
    let here : IsAmong all number (is.entity ∷ is.inner) = subst (IsAmong all number) is.entities_are among in
    let parent_other : (n : ℕ) → number ≤ n → is_in is.entity.parent n ≡ false = λ n low. rw is.parent_is (others n low) in
    let head = head_within octets at lines is.entity.block is.entity.body is.content stand is.head in
    let places = head_places parent depth at lines entities is in
    let order = places.order in
    let after = places.content_after in
    let whole = places.whole in
    let at_is = is.at_is in
    let end_is = is.end_is in
    let ends : at + size lines ≤ length octets =
    let joined = ap length stand.stand.whole in let before = stand.stand.place in
    omega (arith, length-append stand.stand.before (concat lines ++ stand.stand.after), length-append (concat lines) stand.stand.after) in
    let block : HasSomeBlock (slice_range octets is.entity.at is.entity.body) =
    subst (λ from. HasSomeBlock (slice_range octets from is.entity.body)) (sym at_is) (head_block octets at lines is.entity.block is.entity.body is.content stand is.head) in
    let place : IsInPlace (seen_of octets all extended) number (outline_of is.entity) = record {
      is_outline = among_first all number is.entity is.inner here;
      header = omega arith;
      content = omega arith;
      within = omega arith;
      has_block = block;
    } in
    let following = among_back all number (is.entity ∷ []) is.inner (λ n low. (parent_other n (omega arith), tt)) here in
    (outline_of is.entity, place, inner head.content_lines following (among_children all number is.entity is.inner (parent_other number (omega arith)) here))

entity_stands : (levels : ℕ) (octets : List ℕ) (all : List Entity) (extended : Bool) → StandsIn octets all (IsEntity levels octets) (IsStanding (suc levels) (seen_of octets all extended))
unfolding StandsIn IsEntity
entity_stands zero octets all extended = λ parent digest number at lines entities is stand others among.
    with_stand octets all extended zero parent (depth_max + 1) number at lines entities is.0 stand others among (λ content following children. rw is.1 tt)
entity_stands (suc levels) octets all extended = λ parent digest number at lines entities is stand others among.
    with_stand octets all extended (suc levels) parent _ number at lines entities is.0 stand others among
    (λ content following children.
    opened_stand octets all (IsEntity levels octets) (IsStanding (suc levels) (seen_of octets all extended)) (entity_parents levels octets) (entity_stands levels octets all extended) is.1 number
    is.0.entity.body is.0.content is.0.entity.shape is.0.inner is.3 content following children)

-- the whole message of a tree stands
pub tree_stands : (octets : List ℕ) (entities : List Entity) (extended : Bool) → HasTree octets entities → IsStanding (depth_max + 1) (seen_of octets entities extended) 0
unfolding StandsIn
tree_stands octets entities extended tree =
    entity_stands depth_max octets entities extended None false 0 0 (lines_of octets) entities tree.root (all_lines octets) (λ n low. refl)
    (record { before = []; after = []; whole = sym (append-nil entities); place = refl; before_apart = λ n low. tt; after_apart = λ n low high. tt })

-- What is shown of a message stands in 33 levels.
pub shown_stands : (msg : List ℕ) (shown : Shown) (extended : Bool) → IsShownOf msg shown
    → IsStanding 33 (record { octets = shown_octets msg shown; outlines = shown_outlines shown; extended = extended }) 0
shown_stands msg (Whole tree) extended is = tree_stands msg tree.entities extended is
shown_stands msg (Rope rope) extended is =
    subst (λ outlines. IsStanding 33 (record { octets = shown_octets msg (Rope rope); outlines = outlines; extended = extended }) 0) (sym is.outlines)
    (tree_stands (shown_octets msg (Rope rope)) is.others extended is.made_tree)
