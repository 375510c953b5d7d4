-- Octets that are a header block have a tree, and what is made of them is made of the fields alone.
use Rattle.std.proofs.Common.{◌≡◌, ℕ, suc, ◌+◌, ◌-◌, ◌≤◌, List, [], ◌∷◌, ◌++◌, true, false, Some, None, inl, inr, length, take, map, slice_range, arith, refl, sym, ap, ◌∙◌, subst, append-nil}
use Rattle.std.specs.Prelude.{if◌then◌else◌}
use Rattle.std.specs.List.{AllZip, AllByRecursion, concat, flat_map}
use Rattle.std.specs.Str.{bytes_eq}
use Rattle.std.proofs.lemmas.Bool.{cases_Bool}
use Rattle.std.proofs.lemmas.List.{drop_all, take_all}
use Rattle.std.proofs.lemmas.Slice.Eq.{bytes_eq-Decides}
use Rattle.mail_wire.specs.Lines.{crlf, lines_of}
use Rattle.mail_wire.specs.Message.{IsSound}
use Rattle.mail_wire.proofs.LineLemmas.{concat_lines_of}
use Rattle.utf8_fields.specs.declared.block.Block.{Block}
use Rattle.utf8_fields.specs.declared.block.Field.{Field}
use Rattle.utf8_fields.specs.Block.{AreFields, EndsBlock, HasBlock, raw_of}
use Rattle.utf8_fields.proofs.Raws.{HasBlock-whole}
use Rattle.mime_tree.specs.declared.entity.Entity.{Entity}
use Rattle.mime_tree.specs.declared.entity.Shape.{Shape}
use Rattle.mime_tree.specs.declared.entity.Shape.TheVariants.{Leaf, Message}
use Rattle.mime_tree.specs.declared.openings.Opening.{Opening}
use Rattle.mime_tree.specs.declared.openings.Opening.TheVariants.{Nothing, Message as OneMessage, Parts}
use Rattle.mime_tree.specs.Openings.{Opens}
use Rattle.mime_tree.specs.Parts.{size, parts_of}
use Rattle.mime_tree.specs.Rewriting.{FieldRelation, RewritesBlocks}
use Rattle.mime_tree.specs.Tree.{HasHead, IsWithInner, IsOpened, IsEntity, HasTree, raws_of, depth_max}
use Rattle.mime_tree.proofs.DecidingOpenings.{some_opening, raws_within}
use Rattle.mime_tree.proofs.FieldsWithin.{fields_within}
use Rattle.mime_tree.proofs.Heads.{fields_size}
use Rattle.mime_tree.proofs.InPlace.{slice_none}
use Rattle.mime_tree.proofs.LinesWithin.{all_lines}
use Rattle.mime_tree.proofs.Regions.{size-append}
use Rattle.surrogate_rope.specs.Ropes.{changed, CountsChanged}

-- ---- the tree

-- the entity has no fields, and ends no earlier than here
abbrev pub IsEmptyAfter : ℕ → Entity → Type 0
IsEmptyAfter from entity = (entity.block.fields ≡ []) × (from ≤ entity.block.end)

-- The octets have a tree, in which only the first entity has fields: it is the block.
pub record HasWholeTree (octets : List ℕ) (fields : List Field) : Type 0 where
  pub entity : Entity
  pub inner : List Entity
  pub tree : HasTree octets (entity ∷ inner)
  pub fields_are : entity.block.fields ≡ fields
  pub end_is : entity.block.end ≡ length octets
  pub at_is : entity.at ≡ 0
  pub empty : AllByRecursion (IsEmptyAfter (length octets)) inner
  pub opening : Opening
  pub opens : Opens false (map (raw_of octets) fields) opening
  pub message : entity.shape ≡ Message → opening ≡ OneMessage

-- what is in the entity that has no content
record HasInside (levels : ℕ) (octets : List ℕ) (opening : Opening) (body : ℕ) : Type 0 where
  shape : Shape
  inner : List Entity
  is : IsOpened (IsEntity levels octets) opening 0 body [] shape inner
  empty : AllByRecursion (IsEmptyAfter body) inner
  message : shape ≡ Message → opening ≡ OneMessage

leaf_message : Leaf ≡ Message → (opening : Opening) → opening ≡ OneMessage
leaf_message is opening = cc is

opens_nothing : Opens false [] Nothing
opens_nothing = record { encoding = None; is_encoding = refl; opened = inl (tt, (None, refl, refl)) }

empty_entity : (levels : ℕ) (octets : List ℕ) (number at : ℕ) → (inner : List Entity) × IsEntity (suc levels) octets (Some number) false (number + 1) at [] inner × AllByRecursion (IsEmptyAfter at) inner
unfolding IsEntity
empty_entity levels octets number at =
    let block : Block = record { fields = []; end = at } in
    let entity : Entity = record { parent = Some number; depth = depth_max - levels; at = at; body = at; end = at + size []; shape = Leaf; block = block } in
    let head : HasHead at [] block at [] = record {
      has_block = record { header = []; rest = []; lines = refl; fields_are = (refl, refl); ends = tt };
      content_is = refl;
      body_is = let same : at ≡ at + 0 = omega arith in same;
    } in
    let is : IsWithInner (Some number) (depth_max - levels) at [] (entity ∷ []) =
    record { entity = entity; content = []; inner = []; entities_are = refl; head = head; parent_is = refl; depth_is = refl; at_is = refl; end_is = refl } in
    let from : at ≤ at = omega arith in
    (entity ∷ [], (is, Nothing, opens_nothing, (refl, refl)), ((refl, from), tt))

inside : (levels : ℕ) (octets : List ℕ) (opening : Opening) (body : ℕ) → HasInside (suc levels) octets opening body
unfolding parts_of
inside levels octets Nothing body = record { shape = Leaf; inner = []; is = (refl, refl); empty = tt; message = λ same. leaf_message same Nothing }
inside levels octets OneMessage body =
    let one = empty_entity levels octets 0 body in
    record { shape = Message; inner = one.0; is = (refl, one.1); empty = one.2; message = λ same. refl }
inside levels octets (Parts boundary digest) body =
    record { shape = Leaf; inner = []; is = (refl, refl); empty = tt; message = λ same. leaf_message same (Parts boundary digest) }

rest_nothing : (rest : List (List ℕ)) → EndsBlock rest → size rest ≡ 0 → rest ≡ []
rest_nothing [] ends none = refl
rest_nothing (line ∷ rest) ends none =
    let some : size (crlf ∷ rest) ≡ 0 = subst (λ first. size (first ∷ rest) ≡ 0) ends none in absurd (omega arith)

-- all lines are the block's
all_fields : (octets : List ℕ) (fields : List Field) → HasBlock octets fields (length octets) → AreFields (lines_of octets) 0 fields (length octets)
all_fields octets fields block =
    let end = fields_size block.header 0 fields (length octets) block.fields_are in
    let sizes = size-append block.header block.rest in
    let same = ap size block.lines in
    let whole = ap length (concat_lines_of octets) in
    let none : block.rest ≡ [] = rest_nothing block.rest block.ends (omega arith) in
    let lines : block.header ≡ lines_of octets = sym (block.lines ∙ ap (λ rest. block.header ++ rest) none ∙ append-nil block.header) in
    subst (λ all. AreFields all 0 fields (length octets)) lines block.fields_are

root_entity : (levels : ℕ) (octets : List ℕ) (fields : List Field) (opening : Opening) → AreFields (lines_of octets) 0 fields (length octets) → Opens false (map (raw_of octets) fields) opening
    → (within : HasInside levels octets opening (length octets)) → (entity : Entity) × (entity.block.fields ≡ fields) × (entity.block.end ≡ length octets) × (entity.at ≡ 0) × (entity.shape ≡ within.shape)
    × IsEntity (suc levels) octets None false 0 0 (lines_of octets) (entity ∷ within.inner)
unfolding IsEntity
root_entity levels octets fields opening are opens within =
    let lines : List (List ℕ) = lines_of octets in
    let block : Block = record { fields = fields; end = length octets } in
    let entity : Entity = record { parent = None; depth = depth_max - levels; at = 0; body = length octets; end = 0 + size lines; shape = within.shape; block = block } in
    let head : HasHead 0 lines block (length octets) [] = record {
      has_block = record { header = lines; rest = []; lines = sym (append-nil lines); fields_are = are; ends = tt };
      content_is = refl;
      body_is = let same : length octets ≡ length octets + 0 = omega arith in same;
    } in
    let is : IsWithInner None (depth_max - levels) 0 lines (entity ∷ within.inner) =
    record { entity = entity; content = []; inner = within.inner; entities_are = refl; head = head; parent_is = refl; depth_is = refl; at_is = refl; end_is = refl } in
    (entity, refl, refl, refl, refl, (is, opening, opens, within.is))

-- A block has a tree.
pub whole_tree : (octets : List ℕ) (fields : List Field) → IsSound octets → HasBlock octets fields (length octets) → HasWholeTree octets fields
whole_tree octets fields sound block =
    let are = all_fields octets fields block in
    let raws = raws_within octets fields (fields_within octets (lines_of octets) 0 fields (length octets) (all_lines octets) are) in
    let opening = some_opening false (map (raw_of octets) fields) raws in
    let within = inside 30 octets opening.0 (length octets) in
    let root = root_entity 31 octets fields opening.0 are opening.1 within in
    record {
      entity = root.0;
      inner = within.inner;
      tree = record { is_message = sound; root = root.5 };
      fields_are = root.1;
      end_is = root.2;
      at_is = root.3;
      empty = within.empty;
      opening = opening.0;
      opens = opening.1;
      message = λ same. within.message (sym root.4 ∙ same);
    }

-- ---- what is made of it

following_all : (octets : List ℕ) (from to : ℕ) → length octets ≤ from → slice_range octets from to ≡ []
following_all octets from to past = ap (take (to - from)) (drop_all from octets past) ∙ take_all (to - from) [] (omega arith)

no_made : (Holds : List ℕ → List ℕ → Type 0) (octets : List ℕ) (fields : List Field) (mades : List (List ℕ)) → fields ≡ [] → AllZip Holds (map (raw_of octets) fields) mades → mades ≡ []
no_made Holds octets [] [] none all = refl
no_made Holds octets [] (made ∷ mades) none all = absurd all
no_made Holds octets (field ∷ fields) mades none all = cc none

inner_made : (IsMade : FieldRelation) (octets : List ℕ) (from : ℕ) (inner : List Entity) (made : List ℕ) → length octets ≤ from → AllByRecursion (IsEmptyAfter (length octets)) inner
    → RewritesBlocks IsMade octets from (length octets) inner made → made ≡ []
inner_made IsMade octets from [] made past empty is = is ∙ slice_none octets from (length octets) past
inner_made IsMade octets from (entity ∷ inner) made past empty is =
    let none = no_made (IsMade entity) octets entity.block.fields is.0 empty.0.0 is.2 in
    let rest = inner_made IsMade octets entity.block.end inner is.1 empty.0.1 empty.1 is.4 in
    is.3 ∙ rw (following_all octets from entity.at past, none, rest) refl

joined_raws : (octets : List ℕ) (fields : List Field) → concat (map (raw_of octets) fields) ≡ flat_map (raw_of octets) fields
joined_raws octets [] = refl
joined_raws octets (field ∷ fields) = ap (λ rest. raw_of octets field ++ rest) (joined_raws octets fields)

-- the made octets are these where the fields are
pub whole_made : (IsMade : FieldRelation) (octets : List ℕ) (fields : List Field) (whole : HasWholeTree octets fields) (made : List ℕ) → HasBlock octets fields (length octets)
    → (is : RewritesBlocks IsMade octets 0 (length octets) (whole.entity ∷ whole.inner) made) → is.0 ≡ raws_of octets whole.entity.block → made ≡ octets
whole_made IsMade octets fields whole made block is same =
    let end = whole.end_is in
    let rest = inner_made IsMade octets whole.entity.block.end whole.inner is.1 (omega arith) whole.empty is.4 in
    let at_is = whole.at_is in
    let before = slice_none octets 0 whole.entity.at (omega arith) in
    let raws : concat is.0 ≡ take (length octets) octets =
    ap concat same ∙ ap (λ list. concat (map (raw_of octets) list)) whole.fields_are ∙ joined_raws octets fields ∙ (HasBlock-whole octets fields (length octets) block).raws in
    is.3 ∙ rw (before, raws, rest) (append-nil (take (length octets) octets) ∙ take_all (length octets) octets (omega arith))

-- ---- how many fields are others

pub changed_none : (raws : List (List ℕ)) → changed raws raws ≡ 0
changed_none [] = refl
changed_none (raw ∷ raws) =
    let same : bytes_eq raw raw ≡ true = (bytes_eq-Decides raw raw).1 refl in rw (same, changed_none raws) refl

pub none_changed : (Holds : List ℕ → List ℕ → Type 0) (raws mades : List (List ℕ)) → AllZip Holds raws mades → changed raws mades ≡ 0 → mades ≡ raws
none_changed Holds [] [] all none = refl
none_changed Holds [] (made ∷ mades) all none = absurd all
none_changed Holds (raw ∷ raws) [] all none = absurd all
none_changed Holds (raw ∷ raws) (made ∷ mades) all none = elim (cases_Bool (bytes_eq raw made)) [
  | inl same ↦
      let first : raw ≡ made = (bytes_eq-Decides raw made).0 same in
      let later : changed raws mades ≡ 0 = (let counts : (if true then 0 else 1) + changed raws mades ≡ 0 = rw same at none in omega (arith, counts)) in
      rw (← first, none_changed Holds raws mades all.1 later) refl
  | inr other ↦ let some : (if false then 0 else 1) + changed raws mades ≡ 0 = rw other at none in absurd (omega (arith, some))
]

inner_counts : (IsMade : FieldRelation) (octets : List ℕ) (from : ℕ) (inner : List Entity) (count : ℕ) → AllByRecursion (IsEmptyAfter from) inner → CountsChanged IsMade octets inner count → count ≡ 0
inner_counts IsMade octets from [] count empty is = is
inner_counts IsMade octets from (entity ∷ inner) count empty is =
    let none : changed (raws_of octets entity.block) is.0 ≡ 0 = ap (λ fields. changed (map (raw_of octets) fields) is.0) empty.0.0 in
    let rest = inner_counts IsMade octets from inner is.1 empty.1 is.4 in
    let all = is.3 in
    omega arith

-- so many fields of the block are others
pub whole_counts : (IsMade : FieldRelation) (octets : List ℕ) (fields : List Field) (whole : HasWholeTree octets fields) (count : ℕ)
    → (is : CountsChanged IsMade octets (whole.entity ∷ whole.inner) count) → count ≡ changed (raws_of octets whole.entity.block) is.0
whole_counts IsMade octets fields whole count is =
    let rest = inner_counts IsMade octets (length octets) whole.inner is.1 whole.empty is.4 in
    let all = is.3 in
    omega arith
