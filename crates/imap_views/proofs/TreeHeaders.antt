-- The header of each entity of a tree: its raw fields, and the empty line after them.
use Rattle.std.proofs.Common.{◌≡◌, ℕ, zero, suc, ◌+◌, List, [], ◌∷◌, ◌++◌, Bool, false, length, take, drop, Option, Some, None, arith, refl, sym, ap, ◌∙◌, subst, append_assoc}
use Rattle.std.specs.Prelude.{slice_range}
use Rattle.std.specs.List.{AllByRecursion, concat, flat_map}
use Rattle.std.proofs.lemmas.List.{take-append-drop}
use Rattle.std.proofs.lemmas.List.Folds.{concat-append}
use Rattle.mail_wire.specs.Lines.{lines_of}
use Rattle.mail_wire.specs.Octets.{is_ascii}
use Rattle.mail_wire.proofs.AllLemmas.{all-append, pass-append}
use Rattle.utf8_fields.specs.declared.block.Block.{Block}
use Rattle.utf8_fields.specs.declared.block.Field.{Field}
use Rattle.utf8_fields.specs.Block.{EndsBlock, raw_of}
use Rattle.utf8_fields.proofs.Raws.{AreFields-join}
use Rattle.mime_tree.specs.declared.entity.Entity.{Entity}
use Rattle.mime_tree.specs.declared.entity.Shape.{Shape}
use Rattle.mime_tree.specs.declared.openings.Opening.{Opening}
use Rattle.mime_tree.specs.declared.openings.Opening.TheVariants.{Nothing, Message, Parts}
use Rattle.mime_tree.specs.Parts.{Part, parts_of, size}
use Rattle.mime_tree.specs.Tree.{HasHead, IsWithInner, EntityRelation, AreParts, IsDivided, IsOpened, IsEntity, HasTree, depth_max}
use Rattle.mime_tree.proofs.Heads.{fields_size}
use Rattle.mime_tree.proofs.InPlace.{stands_slice}
use Rattle.mime_tree.proofs.FieldsWithin.{head_within}
use Rattle.mime_tree.proofs.LinesWithin.{AreLinesAt, ArePartsAt, lines_front, all_lines, parts_of_at}
use Rattle.mime_tree.proofs.Regions.{size-append}
use Rattle.imap_views.proofs.AsciiTexts.{AreAscii}

-- the octets between these places are the raw fields, and then an ASCII end
pub record IsHeaderOf (octets : List ℕ) (at body : ℕ) (fields : List Field) : Type 0 where
  pub end : List ℕ
  pub end_ascii : AreAscii end
  pub whole : slice_range octets at body ≡ flat_map (raw_of octets) fields ++ end

empty_line : (rest : List (List ℕ)) → EndsBlock rest → AreAscii (concat (take 1 rest))
empty_line [] ends = refl
empty_line (line ∷ rest) ends = pass-append is_ascii line (concat (take 0 rest)) (rw (ends) refl) refl

head_header : (octets : List ℕ) (at : ℕ) (lines : List (List ℕ)) (block : Block) (body : ℕ) (content : List (List ℕ)) → AreLinesAt octets at lines → HasHead at lines block body content
    → IsHeaderOf octets at body block.fields
head_header octets at lines block body content is head =
    let has = head.has_block in
    let front : List (List ℕ) = has.header ++ take 1 has.rest in
    let whole : lines ≡ front ++ drop 1 has.rest =
    has.lines ∙ ap (λ rest. has.header ++ rest) (sym (take-append-drop 1 has.rest)) ∙ sym (append_assoc has.header (take 1 has.rest) (drop 1 has.rest)) in
    let stand = lines_front octets at front (drop 1 has.rest) (subst (AreLinesAt octets at) whole is) in
    let end = fields_size has.header at block.fields block.end has.fields_are in
    let body_is = head.body_is in
    let sizes = size-append has.header (take 1 has.rest) in
    let place : at + size front ≡ body = omega arith in
    let slice : slice_range octets at body ≡ concat front = stands_slice octets at body (concat front) place stand.stand in
    let header = (lines_front octets at has.header has.rest (subst (AreLinesAt octets at) has.lines is)).stand in
    let joins = AreFields-join octets header.before header.after has.header at block.fields block.end header.whole header.place has.fields_are in
    record {
      end = concat (take 1 has.rest);
      end_ascii = empty_line has.rest has.ends;
      whole = slice ∙ concat-append has.header (take 1 has.rest) ∙ ap (λ text. text ++ concat (take 1 has.rest)) (sym joins.raws);
    }

-- ---- all entities

abbrev pub HasHeader : List ℕ → Entity → Type 0
HasHeader octets entity = IsHeaderOf octets entity.at entity.body entity.block.fields

-- of lines that stand in the octets the entities have their headers
abbrev HaveHeaders : List ℕ → EntityRelation → Type 0
HaveHeaders octets IsOne = (parent : Option ℕ) (digest : Bool) (number at : ℕ) (lines : List (List ℕ)) (entities : List Entity) → IsOne parent digest number at lines entities → AreLinesAt octets at lines
    → AllByRecursion (HasHeader octets) entities

parts_headers : (octets : List ℕ) (IsOne : EntityRelation) → HaveHeaders octets IsOne → (parent : Option ℕ) (digest : Bool) (number : ℕ) (parts : List Part) (entities : List Entity)
    → AreParts IsOne parent digest number parts entities → ArePartsAt octets parts → AllByRecursion (HasHeader octets) entities
parts_headers octets IsOne have parent digest number [] entities are at = rw are tt
parts_headers octets IsOne have parent digest number (part ∷ parts) entities are at =
    rw are.2 (all-append (HasHeader octets) are.0 are.1 (have parent digest number part.at part.lines are.0 are.3 at.0)
    (parts_headers octets IsOne have parent digest (number + length are.0) parts are.1 are.4 at.1))

divided_headers : (octets : List ℕ) (IsOne : EntityRelation) → HaveHeaders octets IsOne → (digest : Bool) (number : ℕ) (parts : List Part) (shape : Shape) (inner : List Entity)
    → IsDivided IsOne digest number parts shape inner → ArePartsAt octets parts → AllByRecursion (HasHeader octets) inner
divided_headers octets IsOne have digest number [] shape inner is at = rw is.1 tt
divided_headers octets IsOne have digest number (part ∷ parts) shape inner is at = parts_headers octets IsOne have (Some number) digest (number + 1) (part ∷ parts) inner is.1 at

opened_headers : (octets : List ℕ) (IsOne : EntityRelation) → HaveHeaders octets IsOne → (opening : Opening) (number body : ℕ) (content : List (List ℕ)) (shape : Shape) (inner : List Entity)
    → IsOpened IsOne opening number body content shape inner → AreLinesAt octets body content → AllByRecursion (HasHeader octets) inner
opened_headers octets IsOne have Nothing number body content shape inner is lines = rw is.1 tt
opened_headers octets IsOne have Message number body content shape inner is lines = have (Some number) false (number + 1) body content inner is.1 lines
opened_headers octets IsOne have (Parts boundary digest) number body content shape inner is lines =
    divided_headers octets IsOne have digest number (parts_of boundary body content) shape inner is (parts_of_at octets boundary body content lines)

with_headers : (octets : List ℕ) (parent : Option ℕ) (depth at : ℕ) (lines : List (List ℕ)) (entities : List Entity) (is : IsWithInner parent depth at lines entities) → AreLinesAt octets at lines
    → (AreLinesAt octets is.entity.body is.content → AllByRecursion (HasHeader octets) is.inner) → AllByRecursion (HasHeader octets) entities
with_headers octets parent depth at lines entities is stand inner =
    let head = head_within octets at lines is.entity.block is.entity.body is.content stand is.head in
    let header = head_header octets at lines is.entity.block is.entity.body is.content stand is.head in
    rw is.entities_are (subst (λ from. IsHeaderOf octets from is.entity.body is.entity.block.fields) (sym is.at_is) header, inner head.content_lines)

entity_headers : (levels : ℕ) (octets : List ℕ) → HaveHeaders octets (IsEntity levels octets)
unfolding IsEntity
entity_headers zero octets = λ parent digest number at lines entities is stand. with_headers octets parent (depth_max + 1) at lines entities is.0 stand (λ content. rw is.2 tt)
entity_headers (suc levels) octets = λ parent digest number at lines entities is stand.
    with_headers octets parent _ at lines entities is.0 stand
    (λ content. opened_headers octets (IsEntity levels octets) (entity_headers levels octets) is.1 number is.0.entity.body is.0.content is.0.entity.shape is.0.inner is.3 content)

pub tree_headers : (octets : List ℕ) (entities : List Entity) → HasTree octets entities → AllByRecursion (HasHeader octets) entities
tree_headers octets entities tree = entity_headers depth_max octets None false 0 0 (lines_of octets) entities tree.root (all_lines octets)
