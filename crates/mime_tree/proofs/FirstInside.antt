-- Where the first of the entities in another one stands, and that nothing comes of no lines.
use Rattle.std.proofs.Common.{◌≡◌, ℕ, suc, zero, ◌+◌, ◌⊎◌, inl, inr, List, [], ◌∷◌, ◌++◌, Bool, true, false, length, take, drop, map, Option, Some, refl, sym, ap, ◌∙◌, arith, subst, append_assoc, append-nil, length-append}
use Rattle.std.specs.Prelude.{slice_range}
use Rattle.std.specs.List.{AllByRecursion, AllZip, concat}
use Rattle.std.proofs.lemmas.List.Folds.{concat-append}
use Rattle.mail_wire.specs.Lines.{lines_of}
use Rattle.utf8_fields.specs.declared.block.Field.{Field}
use Rattle.utf8_fields.specs.Block.{AreFields, raw_of}
use Rattle.utf8_fields.proofs.LineShapes.{AreLines, AreLines-back, EndsOnce, NeverEnds}
use Rattle.mime_tree.specs.declared.entity.Entity.{Entity}
use Rattle.mime_tree.specs.declared.entity.Shape.{Shape}
use Rattle.mime_tree.specs.declared.openings.Opening.{Opening}
use Rattle.mime_tree.specs.declared.openings.Opening.TheVariants.{Nothing, Message, Parts}
use Rattle.mime_tree.specs.Marks.{is_delimiter, is_close}
use Rattle.mime_tree.specs.Parts.{Part, parts_on, parts_of, size}
use Rattle.mime_tree.specs.Tree.{IsWithInner, EntityRelation, AreParts, IsDivided, IsOpened, IsEntity}
use Rattle.mime_tree.specs.Rewriting.{FieldRelation, RewritesBlocks, next_entity_place}
use Rattle.mime_tree.proofs.Heads.{fields_size}
use Rattle.mime_tree.proofs.Regions.{size-cons}
use Rattle.mime_tree.proofs.PartLemmas.{parts_of-delimiter, parts_of-on, parts_on-close, parts_on-delimiter, parts_on-on}
use Rattle.mime_tree.proofs.Standing.{Stands, AreKept}
use Rattle.mime_tree.proofs.LinesAgain.{lines_of-front, lines_of-ended, lines_of-never, AreEnded-front, Stands-front, Stands-slice}
use Rattle.mime_tree.proofs.EmptyEnds.{empty_no_delimiter}
use Rattle.mime_tree.proofs.InPlace.{slice_none}

-- No lines have an entity without octets, and nothing is made of it.
unfoldable pub MakesNothing : FieldRelation → List ℕ → EntityRelation → Type 0
MakesNothing IsMade octets IsOne = (parent : Option ℕ) (digest : Bool) (number at : ℕ) (entities : List Entity) (made : List ℕ) → IsOne parent digest number at [] entities
    → RewritesBlocks IsMade octets at at entities made → made ≡ []

no_fields : (lines : List (List ℕ)) (at : ℕ) (fields : List Field) (end : ℕ) → AreFields lines at fields end → lines ≡ [] → fields ≡ []
no_fields lines at [] end are none = refl
no_fields lines at (field ∷ fields) end are none = let clash : [] ≡ are.0 ∷ (are.1 ++ are.2) = sym none ∙ are.3 in cc clash

no_made : {X Y : Type 0} (R : X → Y → Type 0) (xs : List X) (ys : List Y) → AllZip R xs ys → xs ≡ [] → ys ≡ []
no_made R xs [] zip none = refl
no_made R [] (y ∷ ys) zip none = absurd zip
no_made R (x ∷ xs) (y ∷ ys) zip none = cc none

no_lines : (front back : List (List ℕ)) → [] ≡ front ++ back → (front ≡ []) × (back ≡ [])
no_lines [] back e = (refl, sym e)
no_lines (x ∷ front) back e = cc e

nothing_with : (IsMade : FieldRelation) (octets : List ℕ) (parent : Option ℕ) (depth at : ℕ) (entities : List Entity) (made : List ℕ) (is : IsWithInner parent depth at [] entities)
    → RewritesBlocks IsMade octets at at entities made → ((inside : List ℕ) → RewritesBlocks IsMade octets is.entity.body is.entity.body is.inner inside → inside ≡ []) → made ≡ []
nothing_with IsMade octets parent depth at entities made is rewrites inner =
    let head = is.head in
    let block = head.has_block in
    let none = no_lines block.header block.rest block.lines in
    let end : is.entity.block.end ≡ at = fields_size block.header at is.entity.block.fields is.entity.block.end block.fields_are ∙ ap (λ lines. at + size lines) none.0 ∙ (let zero : at + 0 ≡ at = omega arith in zero) in
    let body : is.entity.body ≡ at = head.body_is ∙ ap (λ lines. is.entity.block.end + size (take 1 lines)) none.1 ∙ (let zero : is.entity.block.end + 0 ≡ at = omega arith in zero) in
    let parts = rw is.entities_are at rewrites in
    let raws : map (raw_of octets) is.entity.block.fields ≡ [] = ap (map (raw_of octets)) (no_fields block.header at is.entity.block.fields is.entity.block.end block.fields_are none.0) in
    let fields = no_made (IsMade is.entity) (map (raw_of octets) is.entity.block.fields) parts.0 parts.2 raws in
    let moved : RewritesBlocks IsMade octets is.entity.body is.entity.body is.inner parts.1 = rw (body) (rw end at parts.4) in
    let rest = inner parts.1 moved in
    let at_is = is.at_is in
    parts.3 ∙ rw (fields, rest, slice_none octets at is.entity.at (omega arith)) refl

pub nothing_opened : (IsMade : FieldRelation) (octets : List ℕ) (IsOne : EntityRelation) → MakesNothing IsMade octets IsOne → (opening : Opening) (number at : ℕ) (shape : Shape) (inner : List Entity) (made : List ℕ)
    → IsOpened IsOne opening number at [] shape inner → RewritesBlocks IsMade octets at at inner made → made ≡ []
unfolding MakesNothing parts_of
nothing_opened IsMade octets IsOne nothing Nothing number at shape inner made is rewrites = (rw is.1 at rewrites) ∙ slice_none octets at at (omega arith)
nothing_opened IsMade octets IsOne nothing Message number at shape inner made is rewrites = nothing (Some number) false (number + 1) at inner made is.1 rewrites
nothing_opened IsMade octets IsOne nothing (Parts boundary digest) number at shape inner made is rewrites = (rw is.1 at rewrites) ∙ slice_none octets at at (omega arith)

no_content : (parent : Option ℕ) (depth at : ℕ) (entities : List Entity) (is : IsWithInner parent depth at [] entities) → is.content ≡ []
no_content parent depth at entities is = is.head.content_is ∙ ap (drop 1) (no_lines is.head.has_block.header is.head.has_block.rest is.head.has_block.lines).1

pub nothing_entity : (IsMade : FieldRelation) (levels : ℕ) (octets : List ℕ) → MakesNothing IsMade octets (IsEntity levels octets)
unfolding MakesNothing IsEntity
nothing_entity IsMade zero octets = λ parent digest number at entities made is rewrites.
    nothing_with IsMade octets parent _ at entities made is.0 rewrites
    (λ inside inner. (rw is.2 at inner) ∙ slice_none octets is.0.entity.body is.0.entity.body (omega arith))
nothing_entity IsMade (suc levels) octets = λ parent digest number at entities made is rewrites.
    nothing_with IsMade octets parent _ at entities made is.0 rewrites
    (λ inside inner. nothing_opened IsMade octets (IsEntity levels octets) (nothing_entity IsMade levels octets) is.1 number is.0.entity.body is.0.entity.shape is.0.inner inside
    (rw (no_content parent _ at entities is.0) at is.3) inner)

-- the first of these entities stands at the place
pub record BeginsThere (at : ℕ) (entities : List Entity) : Type 0 where
  pub entity : Entity
  pub inner : List Entity
  pub entities_are : entities ≡ entity ∷ inner
  pub at_is : entity.at ≡ at

unfoldable pub Begins : EntityRelation → Type 0
Begins IsOne = (parent : Option ℕ) (digest : Bool) (number at : ℕ) (lines : List (List ℕ)) (entities : List Entity) → IsOne parent digest number at lines entities → BeginsThere at entities

begins_with : (parent : Option ℕ) (depth at : ℕ) (lines : List (List ℕ)) (entities : List Entity) → IsWithInner parent depth at lines entities → BeginsThere at entities
begins_with parent depth at lines entities is = record { entity = is.entity; inner = is.inner; entities_are = is.entities_are; at_is = is.at_is }

pub entity_begins : (levels : ℕ) (octets : List ℕ) → Begins (IsEntity levels octets)
unfolding Begins IsEntity
entity_begins zero octets = λ parent digest number at lines entities is. begins_with parent _ at lines entities is.0
entity_begins (suc levels) octets = λ parent digest number at lines entities is. begins_with parent _ at lines entities is.0

parts_begin : (IsOne : EntityRelation) → Begins IsOne → (parent : Option ℕ) (digest : Bool) (number : ℕ) (part : Part) (parts : List Part) (entities : List Entity)
    → AreParts IsOne parent digest number (part ∷ parts) entities → BeginsThere part.at entities
unfolding Begins
parts_begin IsOne begins parent digest number part parts entities are =
    let first = begins parent digest number part.at part.lines are.0 are.3 in
    record { entity = first.entity; inner = first.inner ++ are.1; entities_are = are.2 ∙ ap (λ all. all ++ are.1) first.entities_are; at_is = first.at_is }

pub next_there : (at to : ℕ) (entities : List Entity) → BeginsThere at entities → next_entity_place to entities ≡ at
next_there at to entities there = rw there.entities_are there.at_is

-- what stands before the first part
record HasFirst (b : List ℕ) (lines : List (List ℕ)) : Type 0 where
  before : List (List ℕ)
  delimiter : List ℕ
  more : List (List ℕ)
  lines_are : lines ≡ before ++ delimiter ∷ more
  others : AllByRecursion (λ line. is_delimiter b line ≡ false) before
  mark : is_delimiter b delimiter ≡ true

first_by : (b : List ℕ) (at : ℕ) (line : List ℕ) (rest : List (List ℕ)) (part : Part) (parts : List Part) → ((parts_of b (at + length line) rest ≡ part ∷ parts) → HasFirst b rest)
    → (delimiter : Bool) → is_delimiter b line ≡ delimiter → parts_of b at (line ∷ rest) ≡ part ∷ parts → HasFirst b (line ∷ rest)
first_by b at line rest part parts next true h is = record { before = []; delimiter = line; more = rest; lines_are = refl; others = tt; mark = h }
first_by b at line rest part parts next false h is =
    let later = next (sym (parts_of-on b at line rest h) ∙ is) in
    record { before = line ∷ later.before; delimiter = later.delimiter; more = later.more; lines_are = ap (λ all. line ∷ all) later.lines_are; others = (h, later.others); mark = later.mark }

first_part : (b : List ℕ) (at : ℕ) (lines : List (List ℕ)) (part : Part) (parts : List Part) → parts_of b at lines ≡ part ∷ parts → HasFirst b lines
unfolding parts_of
first_part b at [] part parts is = cc is
first_part b at (line ∷ rest) part parts is = first_by b at line rest part parts (first_part b (at + length line) rest part parts) (is_delimiter b line) refl is

parts_after : (b : List ℕ) (at : ℕ) (before : List (List ℕ)) (delimiter : List ℕ) (more : List (List ℕ)) → AllByRecursion (λ line. is_delimiter b line ≡ false) before → is_delimiter b delimiter ≡ true
    → parts_of b at (before ++ delimiter ∷ more) ≡ parts_on b (at + size before + length delimiter) [] more
parts_after b at [] delimiter more others mark =
    let place : at + length delimiter ≡ at + 0 + length delimiter = omega arith in
    parts_of-delimiter b at delimiter more mark ∙ ap (λ n. parts_on b n [] more) place
parts_after b at (line ∷ before) delimiter more others mark =
    let sizes = size-cons line before in
    let place : at + length line + size before + length delimiter ≡ at + size (line ∷ before) + length delimiter = omega arith in
    parts_of-on b at line (before ++ delimiter ∷ more) others.0 ∙ parts_after b (at + length line) before delimiter more others.1 mark ∙ ap (λ n. parts_on b n [] more) place

-- the first part stands where its lines begin
record PartsBegin (at : ℕ) (parts : List Part) : Type 0 where
  part : Part
  more : List Part
  parts_are : parts ≡ part ∷ more
  at_is : part.at ≡ at

on_by : (b : List ℕ) (at : ℕ) (passed : List (List ℕ)) (line : List ℕ) (rest : List (List ℕ)) → PartsBegin at (parts_on b at (passed ++ line ∷ []) rest)
    → (close delimiter : Bool) → is_close b line ≡ close → is_delimiter b line ≡ delimiter → PartsBegin at (parts_on b at passed (line ∷ rest))
on_by b at passed line rest next true delimiter h i = record { part = _; more = []; parts_are = parts_on-close b at passed line rest h; at_is = refl }
on_by b at passed line rest next false true h i = record { part = _; more = _; parts_are = parts_on-delimiter b at passed line rest h i; at_is = refl }
on_by b at passed line rest next false false h i = record { part = next.part; more = next.more; parts_are = parts_on-on b at passed line rest h i ∙ next.parts_are; at_is = next.at_is }

on_begins : (b : List ℕ) (at : ℕ) (passed lines : List (List ℕ)) → PartsBegin at (parts_on b at passed lines)
unfolding parts_on
on_begins b at passed [] = record { part = record { at = at; lines = passed }; more = []; parts_are = refl; at_is = refl }
on_begins b at passed (line ∷ rest) = on_by b at passed line rest (on_begins b at (passed ++ line ∷ []) rest) (is_close b line) (is_delimiter b line) refl refl

divided_begin : (IsOne : EntityRelation) → Begins IsOne → (digest : Bool) (number at : ℕ) (parts : List Part) (shape : Shape) (entities : List Entity) → PartsBegin at parts
    → IsDivided IsOne digest number parts shape entities → BeginsThere at entities
divided_begin IsOne begins digest number at parts shape entities first is =
    let divided = rw first.parts_are at is in
    let there = parts_begin IsOne begins (Some number) digest (number + 1) first.part first.more entities divided.1 in
    record { entity = there.entity; inner = there.inner; entities_are = there.entities_are; at_is = there.at_is ∙ first.at_is }

-- where there is no entity all was copied
pub all_copied : (IsMade : FieldRelation) (octets new : List ℕ) (body to : ℕ) (inner : List Entity) (made : List ℕ) (new_body : ℕ) (others : List Entity) → inner ≡ [] → RewritesBlocks IsMade octets body to inner made
    → Stands new new_body made → AreKept IsMade octets to inner new (new_body + length made) others → slice_range new new_body (next_entity_place (new_body + length made) others) ≡ slice_range octets body (next_entity_place to inner)
all_copied IsMade octets new body to [] made new_body [] none rewrites stands same = Stands-slice new new_body made stands ∙ rewrites
all_copied IsMade octets new body to [] made new_body (other ∷ others) none rewrites stands same = absurd same
all_copied IsMade octets new body to (entity ∷ inner) made new_body others none rewrites stands same = cc none

-- what was made, from the first entity on
record HasBack (IsMade : FieldRelation) (octets : List ℕ) (body to place : ℕ) (inner : List Entity) (made : List ℕ) : Type 0 where
  back : List ℕ
  whole : made ≡ slice_range octets body place ++ back
  again : to ≡ place → RewritesBlocks IsMade octets place place inner back

back_from : (IsMade : FieldRelation) (octets : List ℕ) (body to place : ℕ) (entity : Entity) (inner : List Entity) (made : List ℕ) → entity.at ≡ place
    → RewritesBlocks IsMade octets body to (entity ∷ inner) made → HasBack IsMade octets body to place (entity ∷ inner) made
back_from IsMade octets body to place entity inner made at_is rewrites =
    record {
      back = concat rewrites.0 ++ rewrites.1;
      whole = rewrites.3 ∙ ap (λ n. slice_range octets body n ++ (concat rewrites.0 ++ rewrites.1)) at_is;
      again = λ end. (
        rewrites.0,
        rewrites.1,
        rewrites.2,
        ap (λ text. text ++ (concat rewrites.0 ++ rewrites.1)) (sym (slice_none octets place entity.at (omega arith))),
        subst (λ n. RewritesBlocks IsMade octets entity.block.end n inner rewrites.1) end rewrites.4,
      );
    }

has_back : (IsMade : FieldRelation) (octets : List ℕ) (body to place : ℕ) (inner : List Entity) (made : List ℕ) → BeginsThere place inner → RewritesBlocks IsMade octets body to inner made
    → HasBack IsMade octets body to place inner made
has_back IsMade octets body to place inner made there rewrites =
    subst (λ all. HasBack IsMade octets body to place all made) (sym there.entities_are)
    (back_from IsMade octets body to place there.entity there.inner made there.at_is (subst (λ all. RewritesBlocks IsMade octets body to all made) there.entities_are rewrites))

-- the lines of what was made, up to the first part
delimiter_lines : (b delimiter back : List ℕ) (more : List (List ℕ)) → is_delimiter b delimiter ≡ true → EndsOnce delimiter ⊎ (NeverEnds delimiter × (more ≡ [])) → (more ≡ [] → NeverEnds delimiter → back ≡ [])
    → lines_of (delimiter ++ back) ≡ delimiter ∷ lines_of back
unfolding lines_of
delimiter_lines b delimiter back more mark (inl once) none = lines_of-ended delimiter back once
delimiter_lines b [] back more mark (inr never) none = let clash : false ≡ true = sym (empty_no_delimiter b) ∙ mark in cc clash
delimiter_lines b (x ∷ rest) back more mark (inr never) none =
    let nothing = none never.1 never.0 in
    ap (λ text. lines_of (x ∷ rest ++ text)) nothing ∙ ap lines_of (append-nil (x ∷ rest)) ∙ lines_of-never x rest never.0 ∙ ap (λ text. (x ∷ rest) ∷ lines_of text) (sym nothing)

-- nothing is made of what is after a delimiter that is all
nothing_following : (IsMade : FieldRelation) (levels : ℕ) (octets b : List ℕ) (digest : Bool) (number at : ℕ) (shape : Shape) (inner : List Entity) (made : List ℕ)
    → IsDivided (IsEntity levels octets) digest number (parts_on b at [] []) shape inner → RewritesBlocks IsMade octets at at inner made → made ≡ []
unfolding parts_on MakesNothing
nothing_following IsMade levels octets b digest number at shape inner made is rewrites =
    let parts = is.1 in
    let all : inner ≡ parts.0 = parts.2 ∙ ap (λ more. parts.0 ++ more) parts.4 ∙ append-nil parts.0 in
    nothing_entity IsMade levels octets (Some number) digest (number + 1) at parts.0 made parts.3 (rw all at rewrites)

-- the octets before the first part are the same
parts_inside : (IsMade : FieldRelation) (levels : ℕ) (octets new b : List ℕ) (digest : Bool) (number body : ℕ) (content : List (List ℕ)) (shape : Shape) (inner : List Entity) (made : List ℕ) (new_body : ℕ) (others : List Entity)
    → (first : HasFirst b content) → AreLines content → Stands octets body (concat content) → Stands new new_body made → RewritesBlocks IsMade octets body (body + size content) inner made
    → IsDivided (IsEntity levels octets) digest number (parts_of b body content) shape inner → IsDivided (IsEntity levels new) digest number (parts_of b new_body (lines_of made)) shape others
    → slice_range new new_body (next_entity_place (new_body + length made) others) ≡ slice_range octets body (next_entity_place (body + size content) inner)
parts_inside IsMade levels octets new b digest number body content shape inner made new_body others first are stands new_stands rewrites is so =
    let front : List ℕ = concat first.before ++ first.delimiter in
    let place : ℕ = body + size first.before + length first.delimiter in
    let new_place : ℕ = new_body + size first.before + length first.delimiter in
    let front_size : length front ≡ size first.before + length first.delimiter = length-append (concat first.before) first.delimiter in
    let is_parts : IsDivided (IsEntity levels octets) digest number (parts_on b place [] first.more) shape inner =
    rw (parts_after b body first.before first.delimiter first.more first.others first.mark) at (rw first.lines_are at is) in
    let there : BeginsThere place inner = divided_begin (IsEntity levels octets) (entity_begins levels octets) digest number place _ shape inner (on_begins b place [] first.more) is_parts in
    let joined : concat content ≡ front ++ concat first.more =
    ap concat first.lines_are ∙ concat-append first.before (first.delimiter ∷ first.more) ∙ sym (append_assoc (concat first.before) first.delimiter (concat first.more)) in
    let old_stands : Stands octets body front = Stands-front octets body front (concat first.more) (rw joined at stands) in
    let end : body + length front ≡ place = omega arith in
    let old_slice : slice_range octets body place ≡ front = ap (λ n. slice_range octets body n) (sym end) ∙ Stands-slice octets body front old_stands in
    let further = has_back IsMade octets body (body + size content) place inner made there rewrites in
    let back : List ℕ = further.back in
    let whole : made ≡ front ++ back = further.whole ∙ ap (λ text. text ++ back) old_slice in
    let all_are : AreLines (first.before ++ first.delimiter ∷ first.more) = subst AreLines first.lines_are are in
    let ends = (AreLines-back first.before (first.delimiter ∷ first.more) all_are).0 in
    let none : first.more ≡ [] → NeverEnds first.delimiter → back ≡ [] = λ nothing never.
    let total : body + size content ≡ place = (let sizes = ap length joined in let no_more = ap size nothing in let both = length-append front (concat first.more) in omega arith) in
    let alone : IsDivided (IsEntity levels octets) digest number (parts_on b place [] []) shape inner =
    subst (λ more. IsDivided (IsEntity levels octets) digest number (parts_on b place [] more) shape inner) nothing is_parts in
    nothing_following IsMade levels octets b digest number place shape inner back alone (further.again total) in
    let lines : lines_of made ≡ first.before ++ first.delimiter ∷ lines_of back =
    ap lines_of (whole ∙ append_assoc (concat first.before) first.delimiter back) ∙ lines_of-front first.before (first.delimiter ++ back) (AreEnded-front first.before first.delimiter first.more all_are)
    ∙ ap (λ all. first.before ++ all) (delimiter_lines b first.delimiter back first.more first.mark ends none) in
    let so_parts : IsDivided (IsEntity levels new) digest number (parts_on b new_place [] (lines_of back)) shape others =
    rw (parts_after b new_body first.before first.delimiter (lines_of back) first.others first.mark) at (rw lines at so) in
    let new_there : BeginsThere new_place others = divided_begin (IsEntity levels new) (entity_begins levels new) digest number new_place _ shape others (on_begins b new_place [] (lines_of back)) so_parts in
    let new_end : new_body + length front ≡ new_place = omega arith in
    let new_slice : slice_range new new_body new_place ≡ front =
    ap (λ n. slice_range new new_body n) (sym new_end) ∙ Stands-slice new new_body front (Stands-front new new_body front back (rw whole at new_stands)) in
    ap (λ n. slice_range new new_body n) (next_there new_place (new_body + length made) others new_there) ∙ new_slice ∙ sym old_slice
    ∙ ap (λ n. slice_range octets body n) (sym (next_there place (body + size content) inner there))

-- The octets before the first entity in another one are the same.
pub first_inside : (IsMade : FieldRelation) (levels : ℕ) (octets new : List ℕ) (opening : Opening) (number body : ℕ) (content : List (List ℕ)) (shape : Shape) (inner : List Entity) (made : List ℕ) (new_body : ℕ) (others : List Entity)
    → AreLines content → Stands octets body (concat content) → Stands new new_body made → RewritesBlocks IsMade octets body (body + size content) inner made
    → IsOpened (IsEntity levels octets) opening number body content shape inner → IsOpened (IsEntity levels new) opening number new_body (lines_of made) shape others
    → AreKept IsMade octets (body + size content) inner new (new_body + length made) others
    → slice_range new new_body (next_entity_place (new_body + length made) others) ≡ slice_range octets body (next_entity_place (body + size content) inner)
unfolding Begins
first_inside IsMade levels octets new Nothing number body content shape inner made new_body others are stands new_stands rewrites is so same =
    all_copied IsMade octets new body (body + size content) inner made new_body others is.1 rewrites new_stands same
first_inside IsMade levels octets new Message number body content shape inner made new_body others are stands new_stands rewrites is so same =
    let here = next_there body (body + size content) inner (entity_begins levels octets (Some number) false (number + 1) body content inner is.1) in
    let there = next_there new_body (new_body + length made) others (entity_begins levels new (Some number) false (number + 1) new_body (lines_of made) others so.1) in
    slice_none new new_body (next_entity_place (new_body + length made) others) (omega arith) ∙ sym (slice_none octets body (next_entity_place (body + size content) inner) (omega arith))
first_inside IsMade levels octets new (Parts boundary digest) number body content shape inner made new_body others are stands new_stands rewrites is so same = go (parts_of boundary body content) refl
  where
    go : (parts : List Part) → parts ≡ parts_of boundary body content → slice_range new new_body (next_entity_place (new_body + length made) others) ≡ slice_range octets body (next_entity_place (body + size content) inner)
    go [] none = all_copied IsMade octets new body (body + size content) inner made new_body others (rw (← none) at is).1 rewrites new_stands same
    go (part ∷ parts) some = parts_inside IsMade levels octets new boundary digest number body content shape inner made new_body others (first_part boundary body content part parts (sym some)) are stands new_stands rewrites is so
