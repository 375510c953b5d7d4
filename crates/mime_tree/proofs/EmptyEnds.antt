-- An empty line at the end of an entity says nothing.
use Rattle.std.proofs.Common.{◌≡◌, ℕ, suc, zero, ◌+◌, ◌⊎◌, inl, inr, List, [], ◌∷◌, ◌++◌, Bool, true, false, length, take, drop, Option, Some, refl, sym, ap, ◌∙◌, arith, subst, length-append}
use Rattle.std.specs.List.{All}
use Rattle.std.proofs.lemmas.List.Elements.{All-head, All-tail}
use Rattle.mail_wire.specs.Lines.{crlf}
use Rattle.utf8_fields.specs.declared.block.Field.{Field}
use Rattle.utf8_fields.specs.Lines.{BeginsField, BeginsWhite}
use Rattle.utf8_fields.specs.Block.{AreFields, EndsBlock, HasBlockIn}
use Rattle.mime_tree.specs.declared.entity.Entity.{Entity}
use Rattle.mime_tree.specs.declared.entity.Shape.{Shape}
use Rattle.mime_tree.specs.declared.openings.Opening.{Opening}
use Rattle.mime_tree.specs.declared.openings.Opening.TheVariants.{Nothing, Message, Parts}
use Rattle.mime_tree.specs.Marks.{text_of, is_delimiter, is_close}
use Rattle.mime_tree.specs.Parts.{Part, parts_on, parts_of, size}
use Rattle.mime_tree.specs.Tree.{IsWithInner, EntityRelation, AreParts, IsDivided, IsOpened, IsEntity}
use Rattle.mime_tree.proofs.Regions.{size-append}
use Rattle.mime_tree.proofs.PartLemmas.{parts_of-delimiter, parts_of-on, parts_on-close, parts_on-delimiter, parts_on-on}

-- the lines, and an empty one after them
abbrev pub with_empty : List (List ℕ) → List (List ℕ)
with_empty lines = lines ++ [] ∷ []

-- what is put last is the last of what lines are divided into
last_of : (lines front back : List (List ℕ)) (last : List ℕ) → lines ++ last ∷ [] ≡ front ++ back
    → ((front ≡ lines ++ last ∷ []) × (back ≡ [])) ⊎ ((less : List (List ℕ)) × (back ≡ less ++ last ∷ []) × (lines ≡ front ++ less))
last_of lines [] back last e = inr (lines, sym e, refl)
last_of [] (x ∷ front) back last e = go front back (cc e) (cc e)
  where
    go : (front back : List (List ℕ)) → last ≡ x → front ++ back ≡ [] → ((x ∷ front ≡ last ∷ []) × (back ≡ [])) ⊎ ((less : List (List ℕ)) × (back ≡ less ++ last ∷ []) × ([] ≡ x ∷ front ++ less))
    go [] [] same none = inl (ap (λ y. y ∷ []) (sym same), refl)
    go [] (y ∷ back) same none = cc none
    go (y ∷ front) back same none = cc none
last_of (y ∷ lines) (x ∷ front) back last e =
    let same : y ≡ x = cc e in
    let rest : lines ++ last ∷ [] ≡ front ++ back = cc e in
    elim (last_of lines front back last rest) [
      | inl all ↦ inl (ap (λ first. first ∷ front) (sym same) ∙ ap (λ more. y ∷ more) all.0, all.1)
      | inr some ↦ inr (some.0, some.1, ap (λ first. first ∷ lines) same ∙ ap (λ more. x ∷ more) some.2)
    ]

-- no line of a field is empty
first_some : (name first : List ℕ) → BeginsField name first → first ≡ [] → ⊥
first_some name first begins none =
    let some = begins.some in
    let sizes = ap length (sym none ∙ begins.colon.3) in
    let all = length-append name (begins.colon.0 ++ 58 ∷ begins.colon.1) in
    absurd (omega arith)

more_some : (more less : List (List ℕ)) → All BeginsWhite more → more ≡ with_empty less → ⊥
more_some [] [] white e = cc e
more_some [] (x ∷ less) white e = cc e
more_some (line ∷ more) [] white e = let none : line ≡ [] = cc e in subst BeginsWhite none (All-head BeginsWhite line more white)
more_some (line ∷ more) (x ∷ less) white e = let rest : more ≡ with_empty less = cc e in more_some more less (All-tail BeginsWhite line more white) rest

field_some : (name first : List ℕ) (more less : List (List ℕ)) → BeginsField name first → All BeginsWhite more → first ∷ more ≡ with_empty less → ⊥
field_some name first more [] begins white e = let none : first ≡ [] = cc e in first_some name first begins none
field_some name first more (x ∷ less) begins white e = let rest : more ≡ with_empty less = cc e in more_some more less white rest

fields_some : (lines less : List (List ℕ)) (at : ℕ) (fields : List Field) (end : ℕ) → AreFields lines at fields end → lines ≡ with_empty less → ⊥
fields_some lines less at [] end are e = none less (sym are.0 ∙ e)
  where
    none : (less : List (List ℕ)) → [] ≡ with_empty less → ⊥
    none [] e = cc e
    none (x ∷ less) e = cc e
fields_some lines less at (field ∷ fields) end are e = elim (last_of less (are.0 ∷ are.1) are.2 [] (sym e ∙ are.3)) [
  | inl all ↦ field_some _ are.0 are.1 less are.4.begins are.4.further all.0
  | inr some ↦ fields_some are.2 some.0 (at + field.raw.len) fields end are.5 some.1
]

-- the entity without the empty line
pub record HasLess (parent : Option ℕ) (depth at : ℕ) (lines : List (List ℕ)) (entities : List Entity) (old : IsWithInner parent depth at (with_empty lines) entities) : Type 0 where
  pub is : IsWithInner parent depth at lines entities
  pub entity_same : is.entity ≡ old.entity
  pub content_same : old.content ≡ with_empty is.content
  pub inner_same : is.inner ≡ old.inner

-- the rest of a block that an empty line ends
record HasRest (lines header rest : List (List ℕ)) : Type 0 where
  less : List (List ℕ)
  rest_is : rest ≡ crlf ∷ with_empty less
  lines_are : lines ≡ header ++ crlf ∷ less

rest_by : (lines header rest less : List (List ℕ)) → EndsBlock rest → rest ≡ with_empty less → lines ≡ header ++ less → HasRest lines header rest
rest_by lines header [] [] ends e f = cc e
rest_by lines header [] (x ∷ less) ends e f = cc e
rest_by lines header (line ∷ rest) [] ends e f = let clash : [] ≡ crlf = (let none : line ≡ [] = cc e in sym none ∙ ends) in cc clash
rest_by lines header (line ∷ rest) (x ∷ less) ends e f =
    let first : line ≡ x = cc e in
    let more : rest ≡ with_empty less = cc e in
    record { less = less; rest_is = ap (λ one. one ∷ rest) ends ∙ ap (λ all. crlf ∷ all) more; lines_are = f ∙ ap (λ one. header ++ one ∷ less) (sym first ∙ ends) }

rest_of : (lines : List (List ℕ)) (at : ℕ) (fields : List Field) (end : ℕ) (block : HasBlockIn (with_empty lines) at fields end) → HasRest lines block.header block.rest
rest_of lines at fields end block = elim (last_of lines block.header block.rest [] block.lines) [
  | inl all ↦ absurd (fields_some block.header lines at fields end block.fields_are all.0)
  | inr some ↦ rest_by lines block.header block.rest some.0 block.ends some.1 some.2
]

less_with : (parent : Option ℕ) (depth at : ℕ) (lines : List (List ℕ)) (entities : List Entity) (old : IsWithInner parent depth at (with_empty lines) entities) → HasLess parent depth at lines entities old
less_with parent depth at lines entities old =
    let head = old.head in
    let block = head.has_block in
    let rest = rest_of lines at old.entity.block.fields old.entity.block.end block in
    let same : size (with_empty lines) ≡ size lines = size-append lines ([] ∷ []) ∙ (let none : size ([] ∷ []) ≡ 0 = refl in omega arith) in
    record {
      is = record {
        entity = old.entity;
        content = rest.less;
        inner = old.inner;
        entities_are = old.entities_are;
        head = record {
          has_block = record { header = block.header; rest = crlf ∷ rest.less; lines = rest.lines_are; fields_are = block.fields_are; ends = refl };
          content_is = refl;
          body_is = head.body_is ∙ ap (λ all. old.entity.block.end + size (take 1 all)) rest.rest_is;
        };
        parent_is = old.parent_is;
        depth_is = old.depth_is;
        at_is = old.at_is;
        end_is = old.end_is ∙ ap (λ n. at + n) same;
      };
      entity_same = refl;
      content_same = head.content_is ∙ ap (drop 1) rest.rest_is;
      inner_same = refl;
    }

-- parts, of which a line that is empty may be the last
pub AreLessParts : List Part → List Part → Type 0
AreLessParts [] [] = Unit {0}
AreLessParts [] (other ∷ others) = ⊥
AreLessParts (part ∷ parts) [] = ⊥
AreLessParts (part ∷ parts) (other ∷ others) = (part.at ≡ other.at) × ((part.lines ≡ other.lines) ⊎ (part.lines ≡ with_empty other.lines)) × AreLessParts parts others

less_on_by : (b : List ℕ) (at : ℕ) (passed : List (List ℕ)) (line : List ℕ) (rest : List (List ℕ)) (close delimiter : Bool) → is_close b line ≡ close → is_delimiter b line ≡ delimiter
    → AreLessParts (parts_on b (at + size passed + length line) [] (with_empty rest)) (parts_on b (at + size passed + length line) [] rest)
    → AreLessParts (parts_on b at (passed ++ line ∷ []) (with_empty rest)) (parts_on b at (passed ++ line ∷ []) rest)
    → AreLessParts (parts_on b at passed (line ∷ with_empty rest)) (parts_on b at passed (line ∷ rest))
unfolding AreLessParts
less_on_by b at passed line rest true delimiter h i next on = rw (parts_on-close b at passed line rest h, parts_on-close b at passed line (with_empty rest) h) (refl, inl refl, tt)
less_on_by b at passed line rest false true h i next on = rw (parts_on-delimiter b at passed line rest h i, parts_on-delimiter b at passed line (with_empty rest) h i) (refl, inl refl, next)
less_on_by b at passed line rest false false h i next on = rw (parts_on-on b at passed line rest h i, parts_on-on b at passed line (with_empty rest) h i) on

pub empty_no_close : (b : List ℕ) → is_close b [] ≡ false
unfolding is_close text_of
empty_no_close b = refl

pub empty_no_delimiter : (b : List ℕ) → is_delimiter b [] ≡ false
unfolding is_delimiter text_of
empty_no_delimiter b = refl

less_on : (b : List ℕ) (at : ℕ) (passed lines : List (List ℕ)) → AreLessParts (parts_on b at passed (with_empty lines)) (parts_on b at passed lines)
unfolding AreLessParts parts_on
less_on b at passed [] = rw (parts_on-on b at passed [] [] (empty_no_close b) (empty_no_delimiter b)) (refl, inr refl, tt)
less_on b at passed (line ∷ rest) =
    less_on_by b at passed line rest (is_close b line) (is_delimiter b line) refl refl (less_on b (at + size passed + length line) [] rest) (less_on b at (passed ++ line ∷ []) rest)

less_of_by : (b : List ℕ) (at : ℕ) (line : List ℕ) (rest : List (List ℕ)) (delimiter : Bool) → is_delimiter b line ≡ delimiter
    → AreLessParts (parts_of b (at + length line) (with_empty rest)) (parts_of b (at + length line) rest) → AreLessParts (parts_of b at (line ∷ with_empty rest)) (parts_of b at (line ∷ rest))
less_of_by b at line rest true h next = rw (parts_of-delimiter b at line rest h, parts_of-delimiter b at line (with_empty rest) h) (less_on b (at + length line) [] rest)
less_of_by b at line rest false h next = rw (parts_of-on b at line rest h, parts_of-on b at line (with_empty rest) h) next

less_of : (b : List ℕ) (at : ℕ) (lines : List (List ℕ)) → AreLessParts (parts_of b at (with_empty lines)) (parts_of b at lines)
unfolding AreLessParts parts_of
less_of b at [] = rw (parts_of-on b at [] [] (empty_no_delimiter b)) tt
less_of b at (line ∷ rest) = less_of_by b at line rest (is_delimiter b line) refl (less_of b (at + length line) rest)

-- an entity is the same without the empty line
unfoldable pub MayLoseEmpty : EntityRelation → Type 0
MayLoseEmpty IsOne = (parent : Option ℕ) (digest : Bool) (number at : ℕ) (lines : List (List ℕ)) (entities : List Entity) → IsOne parent digest number at (with_empty lines) entities → IsOne parent digest number at lines entities

less_parts : (IsOne : EntityRelation) → MayLoseEmpty IsOne → (parent : Option ℕ) (digest : Bool) (number : ℕ) (parts others : List Part) (entities : List Entity) → AreLessParts parts others
    → AreParts IsOne parent digest number parts entities → AreParts IsOne parent digest number others entities
unfolding MayLoseEmpty AreLessParts
less_parts IsOne lose parent digest number [] [] entities less are = are
less_parts IsOne lose parent digest number [] (other ∷ others) entities less are = absurd less
less_parts IsOne lose parent digest number (part ∷ parts) [] entities less are = absurd less
less_parts IsOne lose parent digest number (part ∷ parts) (other ∷ others) entities less are =
    let moved : IsOne parent digest number other.at part.lines are.0 = rw less.0 at are.3 in
    let first : IsOne parent digest number other.at other.lines are.0 = elim less.1 [
      | inl same ↦ rw same at moved
      | inr empty ↦ lose parent digest number other.at other.lines are.0 (rw empty at moved)
    ] in
    (are.0, are.1, are.2, first, less_parts IsOne lose parent digest (number + length are.0) parts others are.1 less.2 are.4)

opened_by : (IsOne : EntityRelation) → MayLoseEmpty IsOne → (opening : Opening) (number at : ℕ) (content : List (List ℕ)) (shape : Shape) (inner : List Entity)
    → IsOpened IsOne opening number at (with_empty content) shape inner → IsOpened IsOne opening number at content shape inner
unfolding MayLoseEmpty AreLessParts
opened_by IsOne lose Nothing number at content shape inner is = is
opened_by IsOne lose Message number at content shape inner is = (is.0, lose (Some number) false (number + 1) at content inner is.1)
opened_by IsOne lose (Parts boundary digest) number at content shape inner is = go (parts_of boundary at (with_empty content)) (parts_of boundary at content) (less_of boundary at content) is
  where
    go : (parts others : List Part) → AreLessParts parts others → IsDivided IsOne digest number parts shape inner → IsDivided IsOne digest number others shape inner
    go [] [] less is = is
    go [] (other ∷ others) less is = absurd less
    go (part ∷ parts) [] less is = absurd less
    go (part ∷ parts) (other ∷ others) less is = (is.0, less_parts IsOne lose (Some number) digest (number + 1) (part ∷ parts) (other ∷ others) inner less is.1)

pub entity_less : (levels : ℕ) (octets : List ℕ) → MayLoseEmpty (IsEntity levels octets)
unfolding MayLoseEmpty IsEntity
entity_less zero octets = λ parent digest number at lines entities is. let less = less_with parent _ at lines entities is.0 in (less.is, rw less.entity_same is.1, less.inner_same ∙ is.2)
entity_less (suc levels) octets = λ parent digest number at lines entities is.
    let less = less_with parent _ at lines entities is.0 in
    let moved = rw less.content_same at is.3 in
    let opened = opened_by (IsEntity levels octets) (entity_less levels octets) is.1 number is.0.entity.body less.is.content is.0.entity.shape is.0.inner moved in
    (less.is, is.1, rw less.entity_same is.2, rw (less.entity_same, less.inner_same) opened)

pub opened_less : (levels : ℕ) (octets : List ℕ) (opening : Opening) (number at : ℕ) (content : List (List ℕ)) (shape : Shape) (inner : List Entity)
    → IsOpened (IsEntity levels octets) opening number at (with_empty content) shape inner → IsOpened (IsEntity levels octets) opening number at content shape inner
opened_less levels octets = opened_by (IsEntity levels octets) (entity_less levels octets)
