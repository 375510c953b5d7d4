-- The same lines at another place, and after further fields, have a tree of the same number of entities. A header block in it is high exactly
-- where one was, or where one of the further fields is.
use Rattle.std.proofs.Common.{◌≡◌, ℕ, suc, zero, ◌+◌, List, [], ◌∷◌, ◌++◌, Bool, true, false, ◌||◌, length, take, drop, map, Option, Some, inl, inr, refl, sym, ap, ◌∙◌, subst, append_assoc, append-nil, length-append}
use Rattle.std.specs.Prelude.{codes}
use Rattle.std.specs.List.{AllByRecursion, concat, list_any}
use Rattle.std.proofs.lemmas.List.{map-append}
use Rattle.std.proofs.lemmas.List.Folds.{concat-append}
use Rattle.mail_wire.specs.Lines.{is_crlf}
use Rattle.mail_wire.specs.Octets.{is_high, same_name}
use Rattle.utf8_fields.specs.declared.block.Field.{Field}
use Rattle.utf8_fields.specs.Parts.{FieldParts, HasParts}
use Rattle.utf8_fields.specs.Block.{IsFieldAt, AreFields, raw_of}
use Rattle.utf8_fields.proofs.FirstField.{field_of}
use Rattle.utf8_fields.proofs.Raws.{raw_of-lines}
use Rattle.utf8_fields.proofs.Fields.{AreFields-append}
use Rattle.mime_tree.specs.declared.entity.Entity.{Entity}
use Rattle.mime_tree.specs.declared.entity.Shape.{Shape}
use Rattle.mime_tree.specs.declared.openings.Opening.{Opening}
use Rattle.mime_tree.specs.declared.openings.Opening.TheVariants.{Nothing, Message, Parts}
use Rattle.mime_tree.specs.Marks.{text_of, is_delimiter, is_close}
use Rattle.mime_tree.specs.Openings.{IsFirstValue, IsValueWhere, OpensByFields, Opens, IsOtherField}
use Rattle.mime_tree.specs.Parts.{Part, shortened, cut_last, parts_on, parts_of, size}
use Rattle.mime_tree.specs.Tree.{IsWithInner, EntityRelation, AreParts, IsDivided, IsOpened, IsEntity, has_high_block, raws_of}
use Rattle.mime_tree.proofs.Heads.{fields_size}
use Rattle.mime_tree.proofs.PartLemmas.{parts_of-delimiter, parts_of-on, parts_on-close, parts_on-delimiter, parts_on-on}
use Rattle.mime_tree.proofs.Standing.{Stands}
use Rattle.mime_tree.proofs.LinesAgain.{Stands-front, Stands-back}
use Rattle.mime_tree.proofs.NewEntities.{rest-split, IsAlone, leaf_entity, open_entity}

-- the fields of the same lines at another place
record HasMovedFields (octets new : List ℕ) (lines : List (List ℕ)) (fields : List Field) (new_at : ℕ) : Type 0 where
  others : List Field
  end : ℕ
  are : AreFields lines new_at others end
  raws : map (raw_of new) others ≡ map (raw_of octets) fields

moved_field : (at new_at : ℕ) (field : Field) (first : List ℕ) (more : List (List ℕ)) → IsFieldAt at field first more → IsFieldAt new_at (field_of new_at field.name.len field.raw.len) first more
moved_field at new_at field first more is = record { name_at = refl; raw_at = refl; raw_len = is.raw_len; begins = is.begins; further = is.further; sound = is.sound; utf8 = is.utf8 }

raw_stands : (octets : List ℕ) (at : ℕ) (field : Field) (lines : List ℕ) → Stands octets at lines → field.raw.at ≡ at → field.raw.len ≡ length lines → raw_of octets field ≡ lines
raw_stands octets at field lines stands at_is len_is = raw_of-lines octets stands.before lines stands.after at field stands.whole stands.place at_is len_is

moved_fields : (octets new : List ℕ) (lines : List (List ℕ)) (at : ℕ) (fields : List Field) (end new_at : ℕ) → AreFields lines at fields end → Stands octets at (concat lines) → Stands new new_at (concat lines)
    → HasMovedFields octets new lines fields new_at
moved_fields octets new lines at [] end new_at are old stands = record { others = []; end = new_at; are = (are.0, refl); raws = refl }
moved_fields octets new lines at (field ∷ fields) end new_at are old stands =
    let text : List ℕ = concat (are.0 ∷ are.1) in
    let joined : concat lines ≡ text ++ concat are.2 = ap concat are.3 ∙ concat-append (are.0 ∷ are.1) are.2 in
    let old_all : Stands octets at (text ++ concat are.2) = subst (Stands octets at) joined old in
    let new_all : Stands new new_at (text ++ concat are.2) = subst (Stands new new_at) joined stands in
    let len : field.raw.len ≡ length text = are.4.raw_len in
    let old_rest : Stands octets (at + field.raw.len) (concat are.2) = subst (λ n. Stands octets (at + n) (concat are.2)) (sym len) (Stands-back octets at text (concat are.2) old_all) in
    let new_rest : Stands new (new_at + field.raw.len) (concat are.2) = subst (λ n. Stands new (new_at + n) (concat are.2)) (sym len) (Stands-back new new_at text (concat are.2) new_all) in
    let later = moved_fields octets new are.2 (at + field.raw.len) fields end (new_at + field.raw.len) are.5 old_rest new_rest in
    let other : Field = field_of new_at field.name.len field.raw.len in
    let old_raw = raw_stands octets at field text (Stands-front octets at text (concat are.2) old_all) are.4.raw_at len in
    let new_raw = raw_stands new new_at other text (Stands-front new new_at text (concat are.2) new_all) refl len in
    record {
      others = other ∷ later.others;
      end = later.end;
      are = (are.0, are.1, are.2, are.3, moved_field at new_at field are.0 are.1 are.4, later.are);
      raws = ap (λ raw. raw ∷ map (raw_of new) later.others) (new_raw ∙ sym old_raw) ∙ ap (λ raws. raw_of octets field ∷ raws) later.raws;
    }

-- a line begins with its text, and lines with what is left of them without the last CRLF
record BeginsWith (text front : List ℕ) : Type 0 where
  back : List ℕ
  whole : text ≡ front ++ back

text_by : (x y : ℕ) (rest : List ℕ) (b : Bool) → is_crlf x y ≡ b → BeginsWith (y ∷ rest) (text_of (y ∷ rest)) → BeginsWith (x ∷ y ∷ rest) (text_of (x ∷ y ∷ rest))
unfolding text_of
text_by x y rest true h later = rw h (record { back = x ∷ y ∷ rest; whole = refl })
text_by x y rest false h later = rw h (record { back = later.back; whole = ap (λ all. x ∷ all) later.whole })

text_front : (line : List ℕ) → BeginsWith line (text_of line)
unfolding text_of
text_front [] = record { back = []; whole = refl }
text_front (x ∷ []) = record { back = []; whole = refl }
text_front (x ∷ y ∷ rest) = text_by x y rest (is_crlf x y) refl (text_front (y ∷ rest))

cut_front : (lines : List (List ℕ)) → BeginsWith (concat lines) (concat (cut_last lines))
unfolding cut_last
cut_front [] = record { back = []; whole = refl }
cut_front (line ∷ []) = go (text_of line) (text_front line)
  where
    go : (text : List ℕ) → BeginsWith line text → BeginsWith (line ++ []) (concat (shortened text))
    go [] begins = record { back = line; whole = append-nil line }
    go (x ∷ text) begins = record { back = begins.back; whole = append-nil line ∙ begins.whole ∙ ap (λ all. all ++ begins.back) (sym (append-nil (x ∷ text))) }
cut_front (line ∷ next ∷ rest) =
    let later = cut_front (next ∷ rest) in
    record { back = later.back; whole = ap (λ all. line ++ all) later.whole ∙ sym (append_assoc line (concat (cut_last (next ∷ rest))) later.back) }

-- parts with the same lines
pub AreMovedParts : List ℕ → List ℕ → List Part → List Part → Type 0
AreMovedParts octets new [] [] = Unit {0}
AreMovedParts octets new [] (other ∷ others) = ⊥
AreMovedParts octets new (part ∷ parts) [] = ⊥
AreMovedParts octets new (part ∷ parts) (other ∷ others) =
    (other.lines ≡ part.lines) × Stands octets part.at (concat part.lines) × Stands new other.at (concat part.lines) × AreMovedParts octets new parts others

cut_stands : (octets : List ℕ) (at : ℕ) (passed : List (List ℕ)) (more : List ℕ) → Stands octets at (concat passed ++ more) → Stands octets at (concat (cut_last passed))
cut_stands octets at passed more stands =
    let front = cut_front passed in
    Stands-front octets at (concat (cut_last passed)) front.back (subst (Stands octets at) front.whole (Stands-front octets at (concat passed) more stands))

on_stands : (octets : List ℕ) (at : ℕ) (passed : List (List ℕ)) (line : List ℕ) (rest : List (List ℕ)) → Stands octets at (concat passed ++ (line ++ concat rest))
    → Stands octets at (concat (passed ++ line ∷ []) ++ concat rest)
on_stands octets at passed line rest stands =
    let same : concat passed ++ (line ++ concat rest) ≡ concat (passed ++ line ∷ []) ++ concat rest =
    sym (append_assoc (concat passed) line (concat rest)) ∙ ap (λ all. all ++ concat rest) (ap (λ all. concat passed ++ all) (sym (append-nil line)) ∙ sym (concat-append passed (line ∷ []))) in
    subst (Stands octets at) same stands

next_stands : (octets : List ℕ) (at : ℕ) (passed : List (List ℕ)) (line : List ℕ) (rest : List (List ℕ)) → Stands octets at (concat passed ++ (line ++ concat rest)) → Stands octets (at + size passed + length line) (concat rest)
next_stands octets at passed line rest stands = Stands-back octets (at + size passed) line (concat rest) (Stands-back octets at (concat passed) (line ++ concat rest) stands)

moved_on_by : (octets new b : List ℕ) (at new_at : ℕ) (passed : List (List ℕ)) (line : List ℕ) (rest : List (List ℕ)) → Stands octets at (concat passed ++ (line ++ concat rest))
    → Stands new new_at (concat passed ++ (line ++ concat rest)) → (close delimiter : Bool) → is_close b line ≡ close → is_delimiter b line ≡ delimiter
    → AreMovedParts octets new (parts_on b (at + size passed + length line) [] rest) (parts_on b (new_at + size passed + length line) [] rest)
    → AreMovedParts octets new (parts_on b at (passed ++ line ∷ []) rest) (parts_on b new_at (passed ++ line ∷ []) rest)
    → AreMovedParts octets new (parts_on b at passed (line ∷ rest)) (parts_on b new_at passed (line ∷ rest))
unfolding AreMovedParts
moved_on_by octets new b at new_at passed line rest old stands true delimiter h i next on =
    rw (parts_on-close b at passed line rest h, parts_on-close b new_at passed line rest h)
    (refl, cut_stands octets at passed (line ++ concat rest) old, cut_stands new new_at passed (line ++ concat rest) stands, tt)
moved_on_by octets new b at new_at passed line rest old stands false true h i next on =
    rw (parts_on-delimiter b at passed line rest h i, parts_on-delimiter b new_at passed line rest h i)
    (refl, cut_stands octets at passed (line ++ concat rest) old, cut_stands new new_at passed (line ++ concat rest) stands, next)
moved_on_by octets new b at new_at passed line rest old stands false false h i next on = rw (parts_on-on b at passed line rest h i, parts_on-on b new_at passed line rest h i) on

moved_on : (octets new b : List ℕ) (at new_at : ℕ) (passed lines : List (List ℕ)) → Stands octets at (concat passed ++ concat lines) → Stands new new_at (concat passed ++ concat lines)
    → AreMovedParts octets new (parts_on b at passed lines) (parts_on b new_at passed lines)
unfolding AreMovedParts parts_on
moved_on octets new b at new_at passed [] old stands = (refl, Stands-front octets at (concat passed) [] old, Stands-front new new_at (concat passed) [] stands, tt)
moved_on octets new b at new_at passed (line ∷ rest) old stands =
    moved_on_by octets new b at new_at passed line rest old stands (is_close b line) (is_delimiter b line) refl refl
    (moved_on octets new b (at + size passed + length line) (new_at + size passed + length line) [] rest (next_stands octets at passed line rest old) (next_stands new new_at passed line rest stands))
    (moved_on octets new b at new_at (passed ++ line ∷ []) rest (on_stands octets at passed line rest old) (on_stands new new_at passed line rest stands))

moved_of_by : (octets new b : List ℕ) (at new_at : ℕ) (line : List ℕ) (rest : List (List ℕ)) → Stands octets (at + length line) (concat rest) → Stands new (new_at + length line) (concat rest)
    → (delimiter : Bool) → is_delimiter b line ≡ delimiter → AreMovedParts octets new (parts_of b (at + length line) rest) (parts_of b (new_at + length line) rest)
    → AreMovedParts octets new (parts_of b at (line ∷ rest)) (parts_of b new_at (line ∷ rest))
moved_of_by octets new b at new_at line rest old stands true h next =
    rw (parts_of-delimiter b at line rest h, parts_of-delimiter b new_at line rest h) (moved_on octets new b (at + length line) (new_at + length line) [] rest old stands)
moved_of_by octets new b at new_at line rest old stands false h next = rw (parts_of-on b at line rest h, parts_of-on b new_at line rest h) next

moved_of : (octets new b : List ℕ) (at new_at : ℕ) (lines : List (List ℕ)) → Stands octets at (concat lines) → Stands new new_at (concat lines) → AreMovedParts octets new (parts_of b at lines) (parts_of b new_at lines)
unfolding AreMovedParts parts_of
moved_of octets new b at new_at [] old stands = tt
moved_of octets new b at new_at (line ∷ rest) old stands =
    let later = Stands-back octets at line (concat rest) old in
    let new_later = Stands-back new new_at line (concat rest) stands in
    moved_of_by octets new b at new_at line rest later new_later (is_delimiter b line) refl (moved_of octets new b (at + length line) (new_at + length line) rest later new_later)

or_assoc : (a b c : Bool) → ((a || b) || c) ≡ (a || (b || c))
or_assoc true b c = refl
or_assoc false b c = refl

-- one of some and further ones passes
any_append : {X : Type 0} (test : X → Bool) (xs ys : List X) → list_any test (xs ++ ys) ≡ (list_any test xs || list_any test ys)
any_append test [] ys = refl
any_append test (x ∷ xs) ys = ap (λ b. test x || b) (any_append test xs ys) ∙ sym (or_assoc (test x) (list_any test xs) (list_any test ys))

-- an entity with further fields, and what is in it
high_with : (octets new : List ℕ) (front : List (List ℕ)) (entity other : Entity) (inner others entities : List Entity) → raws_of new other.block ≡ front ++ raws_of octets entity.block
    → has_high_block new others ≡ has_high_block octets inner → entities ≡ entity ∷ inner → has_high_block new (other ∷ others) ≡ (list_any is_high front || has_high_block octets entities)
high_with octets new front entity other inner others entities raws rest are =
    rw (are, rest, raws, any_append is_high front (raws_of octets entity.block)) (or_assoc (list_any is_high front) (list_any is_high (raws_of octets entity.block)) (has_high_block octets inner))

-- as many entities of the other relation, and whether a header block of theirs is high
pub record HasMoved (new : List ℕ) (high : Bool) (IsOther : EntityRelation) (parent : Option ℕ) (digest : Bool) (number new_at : ℕ) (lines : List (List ℕ)) (entities : List Entity) : Type 0 where
  pub others : List Entity
  pub is : IsOther parent digest number new_at lines others
  pub count : length others ≡ length entities
  pub high_is : has_high_block new others ≡ high

unfoldable pub Moves : List ℕ → List ℕ → EntityRelation → EntityRelation → Type 0
Moves octets new IsOne IsOther = (parent : Option ℕ) (digest : Bool) (number at new_at : ℕ) (lines : List (List ℕ)) (entities : List Entity) → IsOne parent digest number at lines entities → Stands octets at (concat lines)
    → Stands new new_at (concat lines) → HasMoved new (has_high_block octets entities) IsOther parent digest number new_at lines entities

record HaveMovedParts (octets new : List ℕ) (IsOther : EntityRelation) (parent : Option ℕ) (digest : Bool) (number : ℕ) (parts : List Part) (entities : List Entity) : Type 0 where
  others : List Entity
  are : AreParts IsOther parent digest number parts others
  count : length others ≡ length entities
  high_is : has_high_block new others ≡ has_high_block octets entities

moved_parts : (octets new : List ℕ) (IsOne IsOther : EntityRelation) → Moves octets new IsOne IsOther → (parent : Option ℕ) (digest : Bool) (number : ℕ) (parts others : List Part) (entities : List Entity)
    → AreMovedParts octets new parts others → AreParts IsOne parent digest number parts entities → HaveMovedParts octets new IsOther parent digest number others entities
unfolding Moves AreMovedParts
moved_parts octets new IsOne IsOther moves parent digest number [] [] entities moved are = record { others = []; are = refl; count = ap length (sym are); high_is = rw are refl }
moved_parts octets new IsOne IsOther moves parent digest number [] (other ∷ others) entities moved are = absurd moved
moved_parts octets new IsOne IsOther moves parent digest number (part ∷ parts) [] entities moved are = absurd moved
moved_parts octets new IsOne IsOther moves parent digest number (part ∷ parts) (other ∷ others) entities moved are =
    let first = moves parent digest number part.at other.at part.lines are.0 are.3 moved.1 moved.2 in
    let rest = moved_parts octets new IsOne IsOther moves parent digest (number + length are.0) parts others are.1 moved.3 are.4 in
    record {
      others = first.others ++ rest.others;
      are = (
        first.others,
        rest.others,
        refl,
        subst (λ lines. IsOther parent digest number other.at lines first.others) (sym moved.0) first.is,
        subst (λ n. AreParts IsOther parent digest (number + n) others rest.others) (sym first.count) rest.are,
      );
      count = count first.others rest.others are.0 are.1 entities first.count rest.count are.2;
      high_is = high first.others rest.others are.0 are.1 entities first.high_is rest.high_is are.2;
    }
  where
    count : (xs ys as_first as_rest all : List Entity) → length xs ≡ length as_first → length ys ≡ length as_rest → all ≡ as_first ++ as_rest → length (xs ++ ys) ≡ length all
    count xs ys as_first as_rest all first rest is = rw (is, length-append xs ys, length-append as_first as_rest, first, rest) refl

    high : (xs ys as_first as_rest all : List Entity) → has_high_block new xs ≡ has_high_block octets as_first → has_high_block new ys ≡ has_high_block octets as_rest → all ≡ as_first ++ as_rest
        → has_high_block new (xs ++ ys) ≡ has_high_block octets all
    high xs ys as_first as_rest all first rest is =
        rw (is, any_append (λ (entity : Entity). list_any is_high (raws_of new entity.block)) xs ys, any_append (λ (entity : Entity). list_any is_high (raws_of octets entity.block)) as_first as_rest, first, rest) refl

record HasMovedInside (octets new : List ℕ) (IsOther : EntityRelation) (opening : Opening) (number new_body : ℕ) (content : List (List ℕ)) (shape : Shape) (inner : List Entity) : Type 0 where
  others : List Entity
  opened : IsOpened IsOther opening number new_body content shape others
  count : length others ≡ length inner
  high_is : has_high_block new others ≡ has_high_block octets inner

moved_opened : (octets new : List ℕ) (IsOne IsOther : EntityRelation) → Moves octets new IsOne IsOther → (opening : Opening) (number body new_body : ℕ) (content : List (List ℕ)) (shape : Shape) (inner : List Entity)
    → IsOpened IsOne opening number body content shape inner → Stands octets body (concat content) → Stands new new_body (concat content) → HasMovedInside octets new IsOther opening number new_body content shape inner
unfolding Moves AreMovedParts
moved_opened octets new IsOne IsOther moves Nothing number body new_body content shape inner is old stands = record { others = []; opened = (is.0, refl); count = ap length (sym is.1); high_is = rw is.1 refl }
moved_opened octets new IsOne IsOther moves Message number body new_body content shape inner is old stands =
    let one = moves (Some number) false (number + 1) body new_body content inner is.1 old stands in record { others = one.others; opened = (is.0, one.is); count = one.count; high_is = one.high_is }
moved_opened octets new IsOne IsOther moves (Parts boundary digest) number body new_body content shape inner is old stands =
    go (parts_of boundary body content) (parts_of boundary new_body content) refl (moved_of octets new boundary body new_body content old stands) is
  where
    go : (parts others : List Part) → others ≡ parts_of boundary new_body content → AreMovedParts octets new parts others → IsDivided IsOne digest number parts shape inner
        → HasMovedInside octets new IsOther (Parts boundary digest) number new_body content shape inner
    go [] [] others_are moved is = record { others = []; opened = rw (← others_are) (is.0, refl); count = ap length (sym is.1); high_is = rw is.1 refl }
    go [] (other ∷ others) others_are moved is = absurd moved
    go (part ∷ parts) [] others_are moved is = absurd moved
    go (part ∷ parts) (other ∷ others) others_are moved is =
        let both = moved_parts octets new IsOne IsOther moves (Some number) digest (number + 1) (part ∷ parts) (other ∷ others) inner moved is.1 in
        record { others = both.others; opened = rw (← others_are) (is.0, both.are); count = both.count; high_is = both.high_is }

-- where the content stands
content_stands : (octets : List ℕ) (at : ℕ) (header rest : List (List ℕ)) → Stands octets at (concat header ++ concat rest) → Stands octets (at + size header + size (take 1 rest)) (concat (drop 1 rest))
content_stands octets at header rest stands =
    let back = subst (Stands octets (at + size header)) (rest-split rest) (Stands-back octets at (concat header) (concat rest) stands) in
    Stands-back octets (at + size header) (concat (take 1 rest)) (concat (drop 1 rest)) back

-- an entity at another place, after further fields
record HasMovedEntity (octets new : List ℕ) (parent : Option ℕ) (depth new_at : ℕ) (lines : List (List ℕ)) (fields : List Field) (entity : Entity) (content : List (List ℕ)) : Type 0 where
  other : Entity
  alone : IsAlone parent depth new_at lines other content
  shape_is : other.shape ≡ entity.shape
  raws : raws_of new other.block ≡ map (raw_of new) fields ++ raws_of octets entity.block
  old_stands : Stands octets entity.body (concat content)
  new_stands : Stands new other.body (concat content)

moved_with : (octets new : List ℕ) (parent : Option ℕ) (depth at : ℕ) (lines : List (List ℕ)) (entities : List Entity) (is : IsWithInner parent depth at lines entities) (front : List (List ℕ)) (fields : List Field) (middle new_at : ℕ)
    → AreFields front new_at fields middle → Stands octets at (concat lines) → Stands new middle (concat lines) → HasMovedEntity octets new parent depth new_at (front ++ lines) fields is.entity is.content
moved_with octets new parent depth at lines entities is front fields middle new_at are old stands =
    let head = is.head in
    let block = head.has_block in
    let header : List (List ℕ) = block.header in
    let rest : List (List ℕ) = block.rest in
    let joined : concat lines ≡ concat header ++ concat rest = ap concat block.lines ∙ concat-append header rest in
    let old_all : Stands octets at (concat header ++ concat rest) = subst (Stands octets at) joined old in
    let new_all : Stands new middle (concat header ++ concat rest) = subst (Stands new middle) joined stands in
    let moved = moved_fields octets new header at is.entity.block.fields is.entity.block.end middle block.fields_are (Stands-front octets at (concat header) (concat rest) old_all) (Stands-front new middle (concat header) (concat rest) new_all) in
    let all_fields = AreFields-append front header new_at middle moved.end fields moved.others are moved.are in
    let old_end : is.entity.block.end ≡ at + size header = fields_size header at is.entity.block.fields is.entity.block.end block.fields_are in
    let new_end : moved.end ≡ middle + size header = fields_size header middle moved.others moved.end moved.are in
    let old_body : at + size header + size (take 1 rest) ≡ is.entity.body = ap (λ n. n + size (take 1 rest)) (sym old_end) ∙ sym head.body_is in
    let new_body : middle + size header + size (take 1 rest) ≡ moved.end + size (take 1 rest) = ap (λ n. n + size (take 1 rest)) (sym new_end) in
    let old_content : Stands octets is.entity.body (concat (drop 1 rest)) = subst (λ n. Stands octets n (concat (drop 1 rest))) old_body (content_stands octets at header rest old_all) in
    let new_content : Stands new (moved.end + size (take 1 rest)) (concat (drop 1 rest)) = subst (λ n. Stands new n (concat (drop 1 rest))) new_body (content_stands new middle header rest new_all) in
    record {
      other = record {
        parent = parent;
        depth = depth;
        at = new_at;
        body = moved.end + size (take 1 rest);
        end = new_at + size (front ++ lines);
        shape = is.entity.shape;
        block = record { fields = fields ++ moved.others; end = moved.end };
      };
      alone = record {
        head = record {
          has_block = record { header = front ++ header; rest = rest; lines = ap (λ all. front ++ all) block.lines ∙ sym (append_assoc front header rest); fields_are = all_fields; ends = block.ends };
          content_is = head.content_is;
          body_is = refl;
        };
        parent_is = refl;
        depth_is = refl;
        at_is = refl;
        end_is = refl;
      };
      shape_is = refl;
      raws = map-append (raw_of new) fields moved.others ∙ ap (λ raws. map (raw_of new) fields ++ raws) moved.raws;
      old_stands = subst (λ content. Stands octets is.entity.body (concat content)) (sym head.content_is) old_content;
      new_stands = subst (λ content. Stands new (moved.end + size (take 1 rest)) (concat content)) (sym head.content_is) new_content;
    }

-- a value is looked for after fields of other names
IsNamedOther : List ℕ → List ℕ → Type 0
IsNamedOther name raw = (f : FieldParts) × HasParts raw f × (same_name f.name name ≡ false)

value_after : (name : List ℕ) (front raws : List (List ℕ)) (value : Option (List ℕ)) → AllByRecursion (IsNamedOther name) front → IsFirstValue name raws value → IsFirstValue name (front ++ raws) value
unfolding IsNamedOther
value_after name [] raws value others is = is
value_after name (raw ∷ front) raws value others is =
    let later = value_after name front raws value others.1 is in
    let f : FieldParts = others.0.0 in
    (f, others.0.1, subst (λ b. IsValueWhere b f.body (IsFirstValue name (front ++ raws)) value) (sym others.0.2) later)

all_named : (name : List ℕ) → ((raw : List ℕ) → IsOtherField raw → IsNamedOther name raw) → (front : List (List ℕ)) → AllByRecursion IsOtherField front → AllByRecursion (IsNamedOther name) front
all_named name named [] all = tt
all_named name named (raw ∷ front) all = (named raw all.0, all_named name named front all.1)

no_type_named : (raw : List ℕ) → IsOtherField raw → IsNamedOther (codes "Content-Type") raw
unfolding IsNamedOther
no_type_named raw is = (is.f, is.is_field, is.no_type)

no_encoding_named : (raw : List ℕ) → IsOtherField raw → IsNamedOther (codes "Content-Transfer-Encoding") raw
unfolding IsNamedOther
no_encoding_named raw is = (is.f, is.is_field, is.no_encoding)

by_fields_after : (digest : Bool) (front raws : List (List ℕ)) (opening : Opening) → AllByRecursion IsOtherField front → OpensByFields digest raws opening → OpensByFields digest (front ++ raws) opening
by_fields_after digest front raws opening others is = (is.0, value_after (codes "Content-Type") front raws is.0 (all_named (codes "Content-Type") no_type_named front others) is.1, is.2)

-- an entity is opened so after fields of other names too
opens_after : (digest : Bool) (front raws : List (List ℕ)) (opening : Opening) → AllByRecursion IsOtherField front → Opens digest raws opening → Opens digest (front ++ raws) opening
opens_after digest front raws opening others is = record {
  encoding = is.encoding;
  is_encoding = value_after (codes "Content-Transfer-Encoding") front raws is.encoding (all_named (codes "Content-Transfer-Encoding") no_encoding_named front others) is.is_encoding;
  opened = elim is.opened [
    | inl identity ↦ inl (identity.0, by_fields_after digest front raws opening others identity.1)
    | inr encoded ↦ inr encoded
  ];
}

opened_there : (levels : ℕ) (new : List ℕ) (opening : Opening) (number body : ℕ) (content : List (List ℕ)) (shape same : Shape) (inner : List Entity) → same ≡ shape
    → IsOpened (IsEntity levels new) opening number body content shape inner → IsOpened (IsEntity levels new) opening number body content same inner
opened_there levels new opening number body content shape same inner shape_is is = rw shape_is is

-- an entity, after further fields at another place
pub front_entity : (levels : ℕ) (octets new : List ℕ) (front : List (List ℕ)) (fields : List Field) (middle : ℕ) (parent : Option ℕ) (digest : Bool) (number at new_at : ℕ) (lines : List (List ℕ)) (entities : List Entity)
    → AreFields front new_at fields middle → AllByRecursion IsOtherField (map (raw_of new) fields) → IsEntity levels octets parent digest number at lines entities → Stands octets at (concat lines) → Stands new middle (concat lines)
    → HasMoved new (list_any is_high (map (raw_of new) fields) || has_high_block octets entities) (IsEntity levels new) parent digest number new_at (front ++ lines) entities
unfolding IsEntity Moves
front_entity zero octets new front fields middle parent digest number at new_at lines entities are others is old stands =
    let moved = moved_with octets new parent _ at lines entities is.0 front fields middle new_at are old stands in
    let count : length entities ≡ 1 = ap length (is.0.entities_are ∙ ap (λ inner. is.0.entity ∷ inner) is.2) in
    record {
      others = moved.other ∷ [];
      is = leaf_entity new parent digest number new_at (front ++ lines) moved.other is.0.content moved.alone (moved.shape_is ∙ is.1);
      count = sym count;
      high_is = high_with octets new (map (raw_of new) fields) is.0.entity moved.other [] [] entities moved.raws refl (is.0.entities_are ∙ ap (λ inner. is.0.entity ∷ inner) is.2);
    }
front_entity (suc levels) octets new front fields middle parent digest number at new_at lines entities are others is old stands =
    let moved = moved_with octets new parent _ at lines entities is.0 front fields middle new_at are old stands in
    let step : Moves octets new (IsEntity levels octets) (IsEntity levels new) =
    λ p d n a new_a ls es e o s. front_entity levels octets new [] [] new_a p d n a new_a ls es (refl, refl) tt e o s in
    let inside = moved_opened octets new (IsEntity levels octets) (IsEntity levels new) step is.1 number is.0.entity.body moved.other.body is.0.content is.0.entity.shape is.0.inner is.3 moved.old_stands moved.new_stands in
    let opens = opens_after digest (map (raw_of new) fields) (raws_of octets is.0.entity.block) is.1 others is.2 in
    let count : length entities ≡ suc (length is.0.inner) = ap length is.0.entities_are in
    record {
      others = moved.other ∷ inside.others;
      is = open_entity levels new parent digest number new_at (front ++ lines) moved.other is.0.content inside.others is.1 moved.alone (subst (λ raws. Opens digest raws is.1) (sym moved.raws) opens)
          (opened_there levels new is.1 number moved.other.body is.0.content is.0.entity.shape moved.other.shape inside.others moved.shape_is inside.opened);
      count = ap suc inside.count ∙ sym count;
      high_is = high_with octets new (map (raw_of new) fields) is.0.entity moved.other is.0.inner inside.others entities moved.raws inside.high_is is.0.entities_are;
    }
