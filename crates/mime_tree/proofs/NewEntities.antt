-- An entity whose fields are written anew, and its content too.
use Rattle.std.proofs.Common.{◌≡◌, ℕ, suc, zero, ◌+◌, ◌-◌, ◌≤◌, inl, inr, List, [], ◌∷◌, ◌++◌, Bool, length, take, drop, Option, refl, sym, ap, ◌∙◌, arith, subst, append-nil, length-append}
use Rattle.std.specs.Prelude.{slice_range}
use Rattle.std.specs.List.{AllByRecursion, AllZip, concat}
use Rattle.std.proofs.lemmas.List.{length-take-le, length-drop}
use Rattle.std.proofs.lemmas.List.Folds.{concat-append}
use Rattle.mail_wire.specs.Lines.{lines_of, crlf}
use Rattle.mail_wire.specs.Message.{IsSound}
use Rattle.mail_wire.proofs.LineLemmas.{concat_lines_of}
use Rattle.mail_wire.proofs.AllLemmas.{all-append, all-front, all-back}
use Rattle.utf8_fields.specs.Block.{EndsBlock}
use Rattle.utf8_fields.proofs.LineShapes.{AreLines, AreLines-front, AreLines-back, AreLines-lines_of, EndsOnce}
use Rattle.mime_tree.specs.declared.entity.Entity.{Entity}
use Rattle.mime_tree.specs.declared.entity.Shape.{Shape}
use Rattle.mime_tree.specs.declared.entity.Shape.TheVariants.{Leaf}
use Rattle.mime_tree.specs.Parts.{size}
use Rattle.mime_tree.specs.declared.openings.Opening.{Opening}
use Rattle.mime_tree.specs.Openings.{Opens}
use Rattle.mime_tree.specs.Tree.{HasHead, IsWithInner, IsOpened, IsEntity, raws_of, depth_max}
use Rattle.mime_tree.specs.Rewriting.{FieldRelation, RewritesBlocks, KeepsTrees, IsSameEntity, next_entity_place}
use Rattle.mime_tree.proofs.Heads.{fields_size}
use Rattle.mime_tree.proofs.Standing.{Stands, AreEnded, IsUnmarked, AreUnmarked, HasNewBlock, AreInOrder, AreAfter, AreKept}
use Rattle.mime_tree.proofs.NewBlocks.{new_block}
use Rattle.mime_tree.proofs.InOrder.{split_blocks, slices_join, head_places}
use Rattle.mime_tree.proofs.LinesAgain.{AreEnded-front, AreLines-ended, Stands-front, Stands-back, Stands-slice}
use Rattle.mime_tree.proofs.InPlace.{slice_none, order_from}
use Rattle.mime_tree.proofs.FieldsWithin.{stands_within}

-- the lines after a header, with another content
pub new_rest : List (List ℕ) → List (List ℕ) → List (List ℕ)
new_rest [] content = []
new_rest (line ∷ rest) content = line ∷ content

rest-concat : (rest content : List (List ℕ)) → (rest ≡ [] → concat content ≡ []) → concat (new_rest rest content) ≡ concat (take 1 rest) ++ concat content
unfolding new_rest
rest-concat [] content none = sym (none refl)
rest-concat (line ∷ rest) content none = ap (λ text. text ++ concat content) (sym (append-nil line))

rest-ends : (rest content : List (List ℕ)) → EndsBlock rest → EndsBlock (new_rest rest content)
unfolding new_rest
rest-ends [] content ends = tt
rest-ends (line ∷ rest) content ends = ends

rest-content : (rest content : List (List ℕ)) → (rest ≡ [] → content ≡ []) → content ≡ drop 1 (new_rest rest content)
unfolding new_rest
rest-content [] content none = none refl
rest-content (line ∷ rest) content none = refl

rest-first : (rest content : List (List ℕ)) → take 1 (new_rest rest content) ≡ take 1 rest
unfolding new_rest
rest-first [] content = refl
rest-first (line ∷ rest) content = refl

crlf_once : (line : List ℕ) → line ≡ crlf → EndsOnce line
crlf_once line is = subst EndsOnce (sym is) refl

-- where something follows the header its lines are ended
rest-lines : (header rest lines content : List (List ℕ)) → EndsBlock rest → AreLines (header ++ rest) → AreLines lines → (AreEnded header → AreEnded lines) → AreLines content → AreLines (lines ++ new_rest rest content)
unfolding new_rest
rest-lines header [] lines content ends are new ended content_are = subst AreLines (sym (append-nil lines)) new
rest-lines header (line ∷ rest) lines content ends are new ended content_are =
    AreLines-ended lines (line ∷ content) (ended (AreEnded-front header line rest are)) (inl (crlf_once line ends), content_are)

rest-all : (P : List ℕ → Type 0) (rest content : List (List ℕ)) → AllByRecursion P rest → AllByRecursion P content → AllByRecursion P (new_rest rest content)
unfolding new_rest
rest-all P [] content old new = tt
rest-all P (line ∷ rest) content old new = (old.0, new)

drop-all : (P : List ℕ → Type 0) (rest : List (List ℕ)) → AllByRecursion P rest → AllByRecursion P (drop 1 rest)
drop-all P [] all = tt
drop-all P (line ∷ rest) all = all.1

drop-lines : (rest : List (List ℕ)) → AreLines rest → AreLines (drop 1 rest)
drop-lines [] are = tt
drop-lines (line ∷ rest) are = are.1

pub rest-split : (rest : List (List ℕ)) → concat rest ≡ concat (take 1 rest) ++ concat (drop 1 rest)
rest-split [] = refl
rest-split (line ∷ rest) = ap (λ text. text ++ concat rest) (sym (append-nil line))

-- what was made of an entity is its fields, the empty line, and what was made of its content
pub record HasCut (IsMade : FieldRelation) (octets new : List ℕ) (parent : Option ℕ) (depth at : ℕ) (lines : List (List ℕ)) (entities : List Entity) (made : List ℕ) (new_at : ℕ)
    (is : IsWithInner parent depth at lines entities) : Type 0 where
  pub fields : List (List ℕ)
  pub inside : List ℕ
  pub zip : AllZip (IsMade is.entity) (raws_of octets is.entity.block) fields
  pub whole : made ≡ concat fields ++ (concat (take 1 is.head.has_block.rest) ++ inside)
  pub block : HasNewBlock new new_at is.head.has_block.header fields
  pub gap : slice_range octets is.entity.block.end is.entity.body ≡ concat (take 1 is.head.has_block.rest)
  pub new_gap : slice_range new (new_at + length (concat fields)) (new_at + length (concat fields) + size (take 1 is.head.has_block.rest)) ≡ concat (take 1 is.head.has_block.rest)
  pub rewrites : RewritesBlocks IsMade octets is.entity.body (is.entity.body + size is.content) is.inner inside
  pub content_stands : Stands octets is.entity.body (concat is.content)
  pub content_are : AreLines is.content
  pub new_stands : Stands new (new_at + length (concat fields) + size (take 1 is.head.has_block.rest)) inside

-- how the old octets stand
record HasStanding (octets : List ℕ) (parent : Option ℕ) (depth at : ℕ) (lines : List (List ℕ)) (entities : List Entity) (is : IsWithInner parent depth at lines entities) : Type 0 where
  header_are : AreLines is.head.has_block.header
  header_stands : Stands octets at (concat is.head.has_block.header)
  gap : slice_range octets is.entity.block.end is.entity.body ≡ concat (take 1 is.head.has_block.rest)
  content_are : AreLines is.content
  content_stands : Stands octets is.entity.body (concat is.content)

standing : (octets : List ℕ) (parent : Option ℕ) (depth at : ℕ) (lines : List (List ℕ)) (entities : List Entity) (is : IsWithInner parent depth at lines entities) → AreLines lines → Stands octets at (concat lines)
    → HasStanding octets parent depth at lines entities is
standing octets parent depth at lines entities is are stands =
    let head = is.head in
    let block = head.has_block in
    let header : List (List ℕ) = block.header in
    let rest : List (List ℕ) = block.rest in
    let all_are : AreLines (header ++ rest) = subst AreLines block.lines are in
    let joined : concat lines ≡ concat header ++ concat rest = ap concat block.lines ∙ concat-append header rest in
    let all_stand : Stands octets at (concat header ++ concat rest) = subst (Stands octets at) joined stands in
    let end : at + size header ≡ is.entity.block.end = sym (fields_size header at is.entity.block.fields is.entity.block.end block.fields_are) in
    let back : Stands octets is.entity.block.end (concat (take 1 rest) ++ concat (drop 1 rest)) =
    subst (λ n. Stands octets n (concat (take 1 rest) ++ concat (drop 1 rest))) end (subst (Stands octets (at + size header)) (rest-split rest) (Stands-back octets at (concat header) (concat rest) all_stand)) in
    let gap = Stands-slice octets is.entity.block.end (concat (take 1 rest)) (Stands-front octets is.entity.block.end (concat (take 1 rest)) (concat (drop 1 rest)) back) in
    let content = Stands-back octets is.entity.block.end (concat (take 1 rest)) (concat (drop 1 rest)) back in
    record {
      header_are = AreLines-front header rest all_are;
      header_stands = Stands-front octets at (concat header) (concat rest) all_stand;
      gap = ap (λ n. slice_range octets is.entity.block.end n) head.body_is ∙ gap;
      content_are = subst AreLines (sym head.content_is) (drop-lines rest (AreLines-back header rest all_are));
      content_stands = subst (λ n. Stands octets n (concat is.content)) (sym head.body_is) (subst (λ all. Stands octets (is.entity.block.end + size (take 1 rest)) (concat all)) (sym head.content_is) content);
    }

-- how what was written anew is divided
record HasMade (IsMade : FieldRelation) (octets : List ℕ) (parent : Option ℕ) (depth at : ℕ) (lines : List (List ℕ)) (entities : List Entity) (made : List ℕ) (is : IsWithInner parent depth at lines entities) : Type 0 where
  fields : List (List ℕ)
  inside : List ℕ
  zip : AllZip (IsMade is.entity) (raws_of octets is.entity.block) fields
  whole : made ≡ concat fields ++ (slice_range octets is.entity.block.end is.entity.body ++ inside)
  rewrites : RewritesBlocks IsMade octets is.entity.body (is.entity.body + size is.content) is.inner inside

has_made : (IsMade : FieldRelation) (octets : List ℕ) (parent : Option ℕ) (depth at : ℕ) (lines : List (List ℕ)) (entities : List Entity) (made : List ℕ) (is : IsWithInner parent depth at lines entities)
    → AreInOrder is.entity.body (is.entity.body + size is.content) is.inner → RewritesBlocks IsMade octets at (at + size lines) entities made
    → HasMade IsMade octets parent depth at lines entities made is
has_made IsMade octets parent depth at lines entities made is order rewrites =
    let places = head_places parent depth at lines entities is in
    let parts : RewritesBlocks IsMade octets at (at + size lines) (is.entity ∷ is.inner) made = subst (λ all. RewritesBlocks IsMade octets at (at + size lines) all made) is.entities_are rewrites in
    let moved : RewritesBlocks IsMade octets is.entity.block.end (is.entity.body + size is.content) is.inner parts.1 =
    subst (λ n. RewritesBlocks IsMade octets is.entity.block.end n is.inner parts.1) (sym places.whole) parts.4 in
    let cut = split_blocks IsMade octets is.entity.block.end is.entity.body (is.entity.body + size is.content) [] is.inner parts.1 places.content_after order moved in
    let at_is = is.at_is in
    record {
      fields = parts.0;
      inside = cut.1;
      zip = parts.2;
      whole = parts.3 ∙ ap (λ text. text ++ (concat parts.0 ++ parts.1)) (slice_none octets at is.entity.at (omega arith)) ∙ ap (λ text. concat parts.0 ++ text) (cut.2 ∙ ap (λ text. text ++ cut.1) cut.3);
      rewrites = cut.4;
    }

pub cut_entity : (IsMade : FieldRelation) (octets new : List ℕ) → KeepsTrees IsMade octets → (parent : Option ℕ) (depth at : ℕ) (lines : List (List ℕ)) (entities : List Entity) (made : List ℕ) (new_at : ℕ)
    (is : IsWithInner parent depth at lines entities) → AreInOrder is.entity.body (is.entity.body + size is.content) is.inner → AreLines lines → Stands octets at (concat lines)
    → RewritesBlocks IsMade octets at (at + size lines) entities made → Stands new new_at made → HasCut IsMade octets new parent depth at lines entities made new_at is
cut_entity IsMade octets new keeps parent depth at lines entities made new_at is order are stands rewrites new_stands =
    let old = standing octets parent depth at lines entities is are stands in
    let parts = has_made IsMade octets parent depth at lines entities made is order rewrites in
    let block = is.head.has_block in
    let gap : List ℕ = concat (take 1 block.rest) in
    let whole : made ≡ concat parts.fields ++ (gap ++ parts.inside) = parts.whole ∙ ap (λ text. concat parts.fields ++ (text ++ parts.inside)) old.gap in
    let all : Stands new new_at (concat parts.fields ++ (gap ++ parts.inside)) = subst (Stands new new_at) whole new_stands in
    let fields = Stands-front new new_at (concat parts.fields) (gap ++ parts.inside) all in
    let back = Stands-back new new_at (concat parts.fields) (gap ++ parts.inside) all in
    record {
      fields = parts.fields;
      inside = parts.inside;
      zip = parts.zip;
      whole = whole;
      block = new_block (IsMade is.entity) (keeps.lines is.entity) octets at block.header is.entity.block.fields is.entity.block.end block.fields_are old.header_are old.header_stands parts.fields parts.zip new new_at fields;
      gap = old.gap;
      new_gap = Stands-slice new (new_at + length (concat parts.fields)) gap (Stands-front new (new_at + length (concat parts.fields)) gap parts.inside back);
      rewrites = parts.rewrites;
      content_stands = old.content_stands;
      content_are = old.content_are;
      new_stands = Stands-back new (new_at + length (concat parts.fields)) gap parts.inside back;
    }

-- what was made of a content, with the entities in it
pub record IsKeptInside (IsMade : FieldRelation) (octets : List ℕ) (body : ℕ) (content : List (List ℕ)) (inner : List Entity) (new : List ℕ) (new_body : ℕ) (made : List ℕ) (others : List Entity) : Type 0 where
  pub following : slice_range new new_body (next_entity_place (new_body + length made) others) ≡ slice_range octets body (next_entity_place (body + size content) inner)
  pub old_order : AreInOrder body (body + size content) inner
  pub order : AreInOrder new_body (new_body + length made) others
  pub same : AreKept IsMade octets (body + size content) inner new (new_body + length made) others
  pub sound : AllByRecursion IsSound content → AllByRecursion IsSound (lines_of made)
  pub unmarked : (boundary : List ℕ) → AreUnmarked boundary content → AreUnmarked boundary (lines_of made)
  pub none : content ≡ [] → made ≡ []

-- what is said of one entity alone
pub record IsAlone (parent : Option ℕ) (depth at : ℕ) (lines : List (List ℕ)) (entity : Entity) (content : List (List ℕ)) : Type 0 where
  pub head : HasHead at lines entity.block entity.body content
  pub parent_is : entity.parent ≡ parent
  pub depth_is : entity.depth ≡ depth
  pub at_is : entity.at ≡ at
  pub end_is : entity.end ≡ at + size lines

-- the entity that is made
pub record HasNewEntity (IsMade : FieldRelation) (octets : List ℕ) (at : ℕ) (lines : List (List ℕ)) (entities : List Entity) (new : List ℕ) (parent : Option ℕ) (depth new_at : ℕ) (made : List ℕ) (shape : Shape)
    (fields : List (List ℕ)) (new_body : ℕ) (inside : List ℕ) (others : List Entity) : Type 0 where
  pub new_lines : List (List ℕ)
  pub other : Entity
  pub whole : concat new_lines ≡ made
  pub are : AreLines new_lines
  pub sound : AllByRecursion IsSound lines → AllByRecursion IsSound new_lines
  pub unmarked : (boundary : List ℕ) → AreUnmarked boundary lines → AreUnmarked boundary new_lines
  pub alone : IsAlone parent depth new_at new_lines other (lines_of inside)
  pub shape_is : other.shape ≡ shape
  pub body_is : other.body ≡ new_body
  pub raws : raws_of new other.block ≡ fields
  pub same : AreKept IsMade octets (at + size lines) entities new (new_at + length made) (other ∷ others)

-- an entity without others in it
pub leaf_entity : (octets : List ℕ) (parent : Option ℕ) (digest : Bool) (number at : ℕ) (lines : List (List ℕ)) (entity : Entity) (content : List (List ℕ)) → IsAlone parent (depth_max + 1) at lines entity content → entity.shape ≡ Leaf
    → IsEntity zero octets parent digest number at lines (entity ∷ [])
unfolding IsEntity
leaf_entity octets parent digest number at lines entity content is leaf =
    (record { entity = entity; content = content; inner = []; entities_are = refl; head = is.head; parent_is = is.parent_is; depth_is = is.depth_is; at_is = is.at_is; end_is = is.end_is }, leaf, refl)

-- an entity that may be opened
pub open_entity : (levels : ℕ) (octets : List ℕ) (parent : Option ℕ) (digest : Bool) (number at : ℕ) (lines : List (List ℕ)) (entity : Entity) (content : List (List ℕ)) (inner : List Entity) (opening : Opening)
    → IsAlone parent (depth_max - levels) at lines entity content → Opens digest (raws_of octets entity.block) opening → IsOpened (IsEntity levels octets) opening number entity.body content entity.shape inner
    → IsEntity (suc levels) octets parent digest number at lines (entity ∷ inner)
unfolding IsEntity
open_entity levels octets parent digest number at lines entity content inner opening is opens opened = (
  record { entity = entity; content = content; inner = inner; entities_are = refl; head = is.head; parent_is = is.parent_is; depth_is = is.depth_is; at_is = is.at_is; end_is = is.end_is },
  opening,
  opens,
  opened,
)

next_after : (from to : ℕ) (entities : List Entity) → AreInOrder from to entities → from ≤ next_entity_place to entities
next_after from to [] order = order
next_after from to (entity ∷ entities) order = order.0

-- what stands after a block, up to the next entity
following_by : (octets new : List ℕ) (end body next new_end new_body new_next : ℕ) → end ≤ body → body ≤ next → new_end ≤ new_body → new_body ≤ new_next
    → slice_range new new_end new_body ≡ slice_range octets end body → slice_range new new_body new_next ≡ slice_range octets body next → slice_range new new_end new_next ≡ slice_range octets end next
following_by octets new end body next new_end new_body new_next a b c d first second =
    slices_join new new_end new_body new_next c d ∙ ap (λ text. text ++ slice_range new new_body new_next) first ∙ ap (λ text. slice_range octets end body ++ text) second ∙ sym (slices_join octets end body next a b)

-- where there is none inside, there is none in the other one
no_others : (IsMade : FieldRelation) (octets new : List ℕ) (to new_to : ℕ) (inner others : List Entity) → inner ≡ [] → AreKept IsMade octets to inner new new_to others → others ≡ []
no_others IsMade octets new to new_to [] [] none same = refl
no_others IsMade octets new to new_to [] (other ∷ others) none same = absurd same
no_others IsMade octets new to new_to (entity ∷ inner) others none same = cc none

leaf_by : (IsMade : FieldRelation) (octets new : List ℕ) (body to new_body new_to : ℕ) (inner others : List Entity) → inner ≡ [] → others ≡ [] → slice_range new new_body (next_entity_place new_to others) ≡ slice_range octets body (next_entity_place to inner)
    → slice_range new new_body new_to ≡ slice_range octets body to
leaf_by IsMade octets new body to new_body new_to [] [] none no_other same = same
leaf_by IsMade octets new body to new_body new_to [] (other ∷ others) none no_other same = cc no_other
leaf_by IsMade octets new body to new_body new_to (entity ∷ inner) others none no_other same = cc none

pub slice_length : (octets : List ℕ) (from to : ℕ) → from ≤ to → to ≤ length octets → length (slice_range octets from to) ≡ to - from
slice_length octets from to order fits = length-take-le (to - from) (drop from octets) (omega (arith, length-drop from octets))

-- where all ends both are as far after the last blocks
after_last : (IsMade : FieldRelation) (octets : List ℕ) (to : ℕ) (entity : Entity) (inner : List Entity) (new : List ℕ) (new_to : ℕ) (other : Entity) (others : List Entity) → to ≤ length octets → new_to ≤ length new
    → AreInOrder entity.block.end to inner → AreInOrder other.block.end new_to others → slice_range new other.block.end (next_entity_place new_to others) ≡ slice_range octets entity.block.end (next_entity_place to inner)
    → AreKept IsMade octets to inner new new_to others → AreAfter to to (entity ∷ inner) new_to (other ∷ others)
after_last IsMade octets to entity [] new new_to other [] fits new_fits order new_order following kept =
    let sizes = sym (slice_length new other.block.end new_to new_order new_fits) ∙ ap length following ∙ slice_length octets entity.block.end to order fits in
    inl (record { low = order; high = omega arith; same = omega arith })
after_last IsMade octets to entity [] new new_to other (next ∷ others) fits new_fits order new_order following kept = absurd kept
after_last IsMade octets to entity (next ∷ inner) new new_to other [] fits new_fits order new_order following kept = absurd kept
after_last IsMade octets to entity (next ∷ inner) new new_to other (again ∷ others) fits new_fits order new_order following kept =
    inr (after_last IsMade octets to next inner new new_to again others fits new_fits order.2 new_order.2 kept.0.same.following kept.1)

none_of : lines_of [] ≡ []
unfolding lines_of
none_of = refl

pub new_entity : (IsMade : FieldRelation) (octets new : List ℕ) (parent : Option ℕ) (depth at : ℕ) (lines : List (List ℕ)) (entities : List Entity) (made : List ℕ) (new_at : ℕ)
    (is : IsWithInner parent depth at lines entities) (cut : HasCut IsMade octets new parent depth at lines entities made new_at is) (others : List Entity) → AreLines lines
    → IsKeptInside IsMade octets is.entity.body is.content is.inner new (new_at + length (concat cut.fields) + size (take 1 is.head.has_block.rest)) cut.inside others → (is.entity.shape ≡ Leaf → is.inner ≡ [])
    → HasNewEntity IsMade octets at lines entities new parent depth new_at made is.entity.shape cut.fields (new_at + length (concat cut.fields) + size (take 1 is.head.has_block.rest)) cut.inside others
new_entity IsMade octets new parent depth at lines entities made new_at is cut others are kept leaf =
    let head = is.head in
    let old_block = head.has_block in
    let header : List (List ℕ) = old_block.header in
    let rest : List (List ℕ) = old_block.rest in
    let block = cut.block in
    let inside : List (List ℕ) = lines_of cut.inside in
    let new_lines : List (List ℕ) = block.lines ++ new_rest rest inside in
    let new_body : ℕ = new_at + length (concat cut.fields) + size (take 1 rest) in
    let no_content : rest ≡ [] → is.content ≡ [] = λ none. head.content_is ∙ ap (drop 1) none in
    let no_lines : rest ≡ [] → inside ≡ [] = λ none. ap lines_of (kept.none (no_content none)) ∙ none_of in
    let inside_whole : concat inside ≡ cut.inside = concat_lines_of cut.inside in
    let whole : concat new_lines ≡ made =
    concat-append block.lines (new_rest rest inside) ∙ ap (λ text. text ++ concat (new_rest rest inside)) block.whole
    ∙ ap (λ text. concat cut.fields ++ text) (rest-concat rest inside (λ none. ap concat (no_lines none)) ∙ ap (λ text. concat (take 1 rest) ++ text) inside_whole) ∙ sym cut.whole in
    let end : block.end ≡ new_at + length (concat cut.fields) = fields_size block.lines new_at block.fields block.end block.fields_are ∙ ap (λ text. new_at + length text) block.whole in
    let places = head_places parent depth at lines entities is in
    let sizes = ap length cut.whole in
    let first_size = length-append (concat cut.fields) (concat (take 1 rest) ++ cut.inside) in
    let second_size = length-append (concat (take 1 rest)) cut.inside in
    let new_to : new_body + length cut.inside ≡ new_at + length made = omega arith in
    let old_to = places.whole in
    let other : Entity = record { parent = parent; depth = depth; at = new_at; body = new_body; end = new_at + size new_lines; shape = is.entity.shape; block = record { fields = block.fields; end = block.end } } in
    let following : slice_range new new_body (next_entity_place (new_at + length made) others) ≡ slice_range octets is.entity.body (next_entity_place (at + size lines) is.inner) =
    subst (λ n. slice_range new new_body (next_entity_place n others) ≡ slice_range octets is.entity.body (next_entity_place (at + size lines) is.inner)) new_to
    (subst (λ n. slice_range new new_body (next_entity_place (new_body + length cut.inside) others) ≡ slice_range octets is.entity.body (next_entity_place n is.inner)) old_to kept.following) in
    let old_order : AreInOrder is.entity.body (at + size lines) is.inner = subst (λ n. AreInOrder is.entity.body n is.inner) old_to kept.old_order in
    let order : AreInOrder new_body (new_at + length made) others = subst (λ n. AreInOrder new_body n others) new_to kept.order in
    let same : AreKept IsMade octets (at + size lines) is.inner new (new_at + length made) others =
    subst (λ n. AreKept IsMade octets (at + size lines) is.inner new n others) new_to (subst (λ n. AreKept IsMade octets n is.inner new (new_body + length cut.inside) others) old_to kept.same) in
    let new_gap : slice_range new block.end new_body ≡ slice_range octets is.entity.block.end is.entity.body = ap (λ n. slice_range new n new_body) end ∙ cut.new_gap ∙ sym cut.gap in
    let same_entity : IsSameEntity IsMade octets is.entity (next_entity_place (at + size lines) is.inner) new other (next_entity_place (new_at + length made) others) = record {
      parent = sym is.parent_is;
      depth = sym is.depth_is;
      shape = refl;
      fields = subst (AllZip (IsMade is.entity) (raws_of octets is.entity.block)) (sym block.raws) cut.zip;
      following = following_by octets new is.entity.block.end is.entity.body (next_entity_place (at + size lines) is.inner) block.end new_body (next_entity_place (new_at + length made) others) places.content_after
          (next_after is.entity.body (at + size lines) is.inner old_order) (omega arith) (next_after new_body (new_at + length made) others order) new_gap following;
      content = λ shape.
          let none = leaf shape in
          let alone = leaf_by IsMade octets new is.entity.body (at + size lines) new_body (new_at + length made) is.inner others none (no_others IsMade octets new (at + size lines) (new_at + length made) is.inner others none same) following in
          ap (λ text. slice_range new new_body (new_at + length text)) whole ∙ alone ∙ ap (λ n. slice_range octets is.entity.body n) (sym is.end_is);
    } in
    let old_fits = stands_within octets is.entity.body (concat is.content) cut.content_stands in
    let new_fits = stands_within new new_body cut.inside cut.new_stands in
    let old_first = next_after is.entity.body (at + size lines) is.inner old_order in
    let last = after_last IsMade octets (at + size lines) is.entity is.inner new (new_at + length made) other others (omega arith) (omega arith)
    (order_from is.entity.block.end is.entity.body (at + size lines) is.inner places.content_after old_order) (order_from block.end new_body (new_at + length made) others (omega arith) order) same_entity.following same in
    let same_end : AreAfter (at + size lines) is.entity.end (is.entity ∷ is.inner) other.end (other ∷ others) =
    subst (λ n. AreAfter (at + size lines) n (is.entity ∷ is.inner) other.end (other ∷ others)) (sym is.end_is)
    (subst (λ n. AreAfter (at + size lines) (at + size lines) (is.entity ∷ is.inner) (new_at + n) (other ∷ others)) (sym (ap length whole)) last) in
    record {
      new_lines = new_lines;
      other = other;
      whole = whole;
      are = rest-lines header rest block.lines inside old_block.ends (subst AreLines old_block.lines are) block.are block.ended (AreLines-lines_of cut.inside);
      sound = λ sound. all_new IsSound (λ all. block.sound) kept.sound sound;
      unmarked = λ boundary unmarked. all_new (IsUnmarked boundary) (block.unmarked boundary) (kept.unmarked boundary) unmarked;
      alone = record {
        head = record {
          has_block = record { header = block.lines; rest = new_rest rest inside; lines = refl; fields_are = block.fields_are; ends = rest-ends rest inside old_block.ends };
          content_is = rest-content rest inside no_lines;
          body_is = ap (λ n. n + size (take 1 rest)) (sym end) ∙ ap (λ all. block.end + size all) (sym (rest-first rest inside));
        };
        parent_is = refl;
        depth_is = refl;
        at_is = refl;
        end_is = refl;
      };
      shape_is = refl;
      body_is = refl;
      raws = block.raws;
      same = subst (λ all. AreKept IsMade octets (at + size lines) all new (new_at + length made) (other ∷ others)) (sym is.entities_are) (record { same = same_entity; body = record { low = places.content_after; high = old_first; same = omega (arith, head.body_is) }; end = same_end }, same);
    }
  where
    all_new : (P : List ℕ → Type 0) → (AllByRecursion P is.head.has_block.header → AllByRecursion P cut.block.lines) → (AllByRecursion P is.content → AllByRecursion P (lines_of cut.inside)) → AllByRecursion P lines
        → AllByRecursion P (cut.block.lines ++ new_rest is.head.has_block.rest (lines_of cut.inside))
    all_new P front inner all =
        let both = subst (AllByRecursion P) is.head.has_block.lines all in
        let following = all-back P is.head.has_block.header is.head.has_block.rest both in
        all-append P cut.block.lines (new_rest is.head.has_block.rest (lines_of cut.inside)) (front (all-front P is.head.has_block.header is.head.has_block.rest both))
        (rest-all P is.head.has_block.rest (lines_of cut.inside) following (inner (subst (AllByRecursion P) (sym is.head.content_is) (drop-all P is.head.has_block.rest following))))
