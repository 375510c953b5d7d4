-- The tree of a report from its parts.
use Rattle.std.proofs.Common.{◌≡◌, ℕ, suc, ◌+◌, ◌-◌, false, true, inl, List, [], ◌∷◌, ◌++◌, length, take, drop, Option, Some, None, refl, sym, ap, ◌∙◌, subst, arith, append-nil, append_assoc, length-append}
use Rattle.std.specs.Prelude.{codes}
use Rattle.std.specs.List.{All, AllByRecursion, concat}
use Rattle.std.specs.Str.{IsUtf8}
use Rattle.std.proofs.lemmas.List.Elements.{All-from_recursion}
use Rattle.std.proofs.lemmas.List.Folds.{concat-append}
use Rattle.mail_wire.specs.Lines.{crlf, lines_of}
use Rattle.mail_wire.specs.Message.{IsSound}
use Rattle.mail_wire.proofs.AllLemmas.{all-append}
use Rattle.utf8_fields.specs.declared.block.Field.{Field}
use Rattle.utf8_fields.specs.Block.{EndsBlock, IsFieldAt}
use Rattle.utf8_fields.specs.Lines.{BeginsWhite}
use Rattle.utf8_fields.proofs.FirstField.{field_of}
use Rattle.mime_tree.specs.declared.entity.Entity.{Entity}
use Rattle.mime_tree.specs.declared.entity.Shape.{Shape}
use Rattle.mime_tree.specs.declared.entity.Shape.TheVariants.{Leaf, Multipart}
use Rattle.mime_tree.specs.declared.openings.Opening.{Opening}
use Rattle.mime_tree.specs.declared.openings.Opening.TheVariants.{Nothing, Parts}
use Rattle.mime_tree.specs.Marks.{text_of, is_delimiter, is_close}
use Rattle.mime_tree.specs.Openings.{Opens}
use Rattle.mime_tree.specs.Parts.{Part, size, cut_last, parts_of, parts_on}
use Rattle.mime_tree.specs.Tree.{EntityRelation, AreParts, IsOpened, IsEntity, HasTree, HasHead, depth_max, raws_of}
use Rattle.mime_tree.proofs.LinesAgain.{lines_of-front, Stands-front, Stands-back, Stands-whole, Stands-slice, sound_concat}
use Rattle.mime_tree.proofs.NewEntities.{open_entity}
use Rattle.mime_tree.proofs.PartLemmas.{parts_of-delimiter, parts_on-close, parts_on-delimiter, parts_on-on}
use Rattle.mime_tree.proofs.Standing.{Stands, AreEnded, AreUnmarked}
use Rattle.utf8_reports.specs.Reports.{delimiter, close}
use Rattle.utf8_reports.proofs.WholeLines.{boundary, crlf_sound, crlf_unmarked}
use Rattle.utf8_reports.proofs.ReportTypes.{IsTypeLine}

-- ---- an entity with one field

-- in an entity of these lines, the further ones of which end its block
pub record IsTyped (octets : List ℕ) (at : ℕ) (line : List ℕ) (rest : List (List ℕ)) (opening : Opening) : Type 0 where
  pub type : IsTypeLine line opening
  pub ends : EndsBlock rest
  pub stands : Stands octets at line

one_field : (at : ℕ) (line : List ℕ) (opening : Opening) (type : IsTypeLine line opening) → IsFieldAt at (field_of at type.name (length line)) line []
one_field at line opening type = record {
  name_at = refl;
  raw_at = refl;
  raw_len = ap length (sym (append-nil line));
  begins = type.begins;
  further = All-from_recursion BeginsWhite [] tt;
  sound = All-from_recursion IsSound (line ∷ []) (type.sound, tt);
  utf8 = All-from_recursion IsUtf8 (line ∷ []) (type.utf8, tt);
}

-- such an entity, with what is in it
pub typed_entity : (levels : ℕ) (octets : List ℕ) (parent : Option ℕ) (number at : ℕ) (line : List ℕ) (rest : List (List ℕ)) (opening : Opening) (shape : Shape) (inner : List Entity)
    → IsTyped octets at line rest opening → IsOpened (IsEntity levels octets) opening number (at + length line + size (take 1 rest)) (drop 1 rest) shape inner
    → (entities : List Entity) × IsEntity (suc levels) octets parent false number at (line ∷ rest) entities
typed_entity levels octets parent number at line rest opening shape inner is opened =
    let field : Field = field_of at is.type.name (length line) in
    let entity : Entity = record {
      parent = parent;
      depth = depth_max - levels;
      at = at;
      body = at + length line + size (take 1 rest);
      end = at + size (line ∷ rest);
      shape = shape;
      block = record { fields = field ∷ []; end = at + length line };
    } in
    let head : HasHead at (line ∷ rest) entity.block entity.body (drop 1 rest) = record {
      has_block = record { header = line ∷ []; rest = rest; lines = refl; fields_are = (line, [], [], refl, one_field at line opening is.type, (refl, refl)); ends = is.ends };
      content_is = refl;
      body_is = refl;
    } in
    let raws : raws_of octets entity.block ≡ line ∷ [] = ap (λ raw. raw ∷ []) (Stands-slice octets at line is.stands) in (
      entity ∷ inner,
      open_entity levels octets parent false number at (line ∷ rest) entity (drop 1 rest) inner opening
          (record { head = head; parent_is = refl; depth_is = refl; at_is = refl; end_is = refl }) (rw raws is.type.opens) opened,
    )

-- one without fields
pub plain_entity : (levels : ℕ) (octets : List ℕ) (parent : Option ℕ) (number at : ℕ) (lines : List (List ℕ)) → EndsBlock lines
    → (entities : List Entity) × IsEntity (suc levels) octets parent false number at lines entities
plain_entity levels octets parent number at lines ends =
    let entity : Entity = record {
      parent = parent;
      depth = depth_max - levels;
      at = at;
      body = at + size (take 1 lines);
      end = at + size lines;
      shape = Leaf;
      block = record { fields = []; end = at };
    } in
    let head : HasHead at lines entity.block entity.body (drop 1 lines) = record {
      has_block = record { header = []; rest = lines; lines = refl; fields_are = (refl, refl); ends = ends };
      content_is = refl;
      body_is = refl;
    } in
    let opens : Opens false [] Nothing = record { encoding = None; is_encoding = refl; opened = inl (tt, (None, refl, refl)) } in (
      entity ∷ [],
      open_entity levels octets parent false number at lines entity (drop 1 lines) [] Nothing
          (record { head = head; parent_is = refl; depth_is = refl; at_is = refl; end_is = refl }) opens (refl, refl),
    )

-- ---- parts

-- lines that are a part: they stand somewhere, and their last CRLF isn't the part's
abbrev pub IsPart : ℕ → List ℕ → ℕ → List (List ℕ) → Type 0
IsPart levels octets at lines = (parent : Option ℕ) (number : ℕ) → (entities : List Entity) × IsEntity (suc levels) octets parent false number at (cut_last lines) entities

ended_last : (lines : List (List ℕ)) → EndsBlock (cut_last (crlf ∷ lines))
unfolding cut_last text_of
ended_last [] = tt
ended_last (line ∷ lines) = refl

-- an empty line and more
plain_part : (levels : ℕ) (octets : List ℕ) (at : ℕ) (lines : List (List ℕ)) → IsPart levels octets at (crlf ∷ lines)
plain_part levels octets at lines = λ parent number. plain_entity levels octets parent number at (cut_last (crlf ∷ lines)) (ended_last lines)

-- one field, an empty line and more
typed_part : (levels : ℕ) (octets : List ℕ) (at : ℕ) (line : List ℕ) (lines : List (List ℕ)) → IsTypeLine line Nothing → Stands octets at line → IsPart levels octets at (line ∷ crlf ∷ lines)
unfolding cut_last
typed_part levels octets at line lines type stands = λ parent number.
    typed_entity levels octets parent number at line (cut_last (crlf ∷ lines)) Nothing Leaf [] (record { type = type; ends = ended_last lines; stands = stands }) (refl, refl)

-- the parts are entities, whatever their numbers are
abbrev pub MakeParts : ℕ → List ℕ → List Part → Type 0
MakeParts levels octets parts = (number : ℕ) → (entities : List Entity) × AreParts (IsEntity (suc levels) octets) (Some 0) false number parts entities

no_parts : (levels : ℕ) (octets : List ℕ) → MakeParts levels octets []
no_parts levels octets = λ number. ([], refl)

more_parts : (levels : ℕ) (octets : List ℕ) (at : ℕ) (lines : List (List ℕ)) (others : List Part) → IsPart levels octets at lines → MakeParts levels octets others
    → MakeParts levels octets (record { at = at; lines = cut_last lines } ∷ others)
more_parts levels octets at lines others part more = λ number.
    let first = part (Some 0) number in
    let rest = more (number + length first.0) in
    (first.0 ++ rest.0, (first.0, rest.0, refl, first.1, rest.1))

delimits : is_delimiter boundary delimiter ≡ true
unfolding is_delimiter text_of
delimits = refl

closes_none : is_close boundary delimiter ≡ false
unfolding is_close text_of
closes_none = refl

closes : is_close boundary close ≡ true
unfolding is_close text_of
closes = refl

-- lines that aren't the boundary's are passed over
passed_over : (at : ℕ) (passed lines rest : List (List ℕ)) → AreUnmarked boundary lines → parts_on boundary at passed (lines ++ rest) ≡ parts_on boundary at (passed ++ lines) rest
passed_over at passed [] rest unmarked = ap (λ l. parts_on boundary at l rest) (sym (append-nil passed))
passed_over at passed (line ∷ lines) rest unmarked =
    parts_on-on boundary at passed line (lines ++ rest) unmarked.0.close unmarked.0.delimiter
    ∙ (passed_over at (passed ++ line ∷ []) lines rest unmarked.1 ∙ ap (λ l. parts_on boundary at l rest) (append_assoc passed (line ∷ []) lines))

part_before : (at : ℕ) (lines rest : List (List ℕ)) → AreUnmarked boundary lines
    → parts_on boundary at [] (lines ++ delimiter ∷ rest) ≡ record { at = at; lines = cut_last lines } ∷ parts_on boundary (at + size lines + length delimiter) [] rest
part_before at lines rest unmarked = passed_over at [] lines (delimiter ∷ rest) unmarked ∙ parts_on-delimiter boundary at lines delimiter rest closes_none delimits

last_part : (at : ℕ) (lines : List (List ℕ)) → AreUnmarked boundary lines → parts_on boundary at [] (lines ++ close ∷ []) ≡ record { at = at; lines = cut_last lines } ∷ []
last_part at lines unmarked = passed_over at [] lines (close ∷ []) unmarked ∙ parts_on-close boundary at lines close [] closes

-- ---- the three parts of a report

-- what stands after the first delimiter line
stands_after : (octets : List ℕ) (at : ℕ) (lines rest : List (List ℕ)) → Stands octets at (concat (lines ++ delimiter ∷ rest)) → Stands octets (at + size lines + length delimiter) (concat rest)
stands_after octets at lines rest stands =
    let whole : Stands octets at (concat lines ++ (delimiter ++ concat rest)) = subst (Stands octets at) (concat-append lines (delimiter ∷ rest)) stands in
    Stands-back octets (at + size lines) delimiter (concat rest) (Stands-back octets at (concat lines) (delimiter ++ concat rest) whole)

-- the lines after the type of the report
pub record HasThreeParts (content : List (List ℕ)) : Type 0 where
  pub status : List ℕ
  pub header : List ℕ
  pub person : List (List ℕ)
  pub told : List (List ℕ)
  pub shown : List (List ℕ)
  pub is_status : IsTypeLine status Nothing
  pub is_header : IsTypeLine header Nothing
  pub person_unmarked : AreUnmarked boundary person
  pub told_unmarked : AreUnmarked boundary told
  pub shown_unmarked : AreUnmarked boundary shown
  pub whole : content ≡ delimiter ∷ ((crlf ∷ person) ++ delimiter ∷ ((status ∷ crlf ∷ told) ++ delimiter ∷ ((header ∷ crlf ∷ shown) ++ close ∷ [])))

third_part : (levels : ℕ) (octets : List ℕ) (at : ℕ) (content : List (List ℕ)) (has : HasThreeParts content) → Stands octets at (concat ((has.header ∷ crlf ∷ has.shown) ++ close ∷ []))
    → MakeParts levels octets (parts_on boundary at [] ((has.header ∷ crlf ∷ has.shown) ++ close ∷ []))
third_part levels octets at content has stands =
    let line = Stands-front octets at has.header _ stands in
    rw (last_part at (has.header ∷ crlf ∷ has.shown) (has.is_header.unmarked, (crlf_unmarked, has.shown_unmarked)))
    (more_parts levels octets at (has.header ∷ crlf ∷ has.shown) [] (typed_part levels octets at has.header has.shown has.is_header line) (no_parts levels octets))

second_part : (levels : ℕ) (octets : List ℕ) (at : ℕ) (content : List (List ℕ)) (has : HasThreeParts content)
    → Stands octets at (concat ((has.status ∷ crlf ∷ has.told) ++ delimiter ∷ ((has.header ∷ crlf ∷ has.shown) ++ close ∷ [])))
    → MakeParts levels octets (parts_on boundary at [] ((has.status ∷ crlf ∷ has.told) ++ delimiter ∷ ((has.header ∷ crlf ∷ has.shown) ++ close ∷ [])))
second_part levels octets at content has stands =
    let lines : List (List ℕ) = has.status ∷ crlf ∷ has.told in
    let rest : List (List ℕ) = (has.header ∷ crlf ∷ has.shown) ++ close ∷ [] in
    let line = Stands-front octets at has.status _ stands in
    rw (part_before at lines rest (has.is_status.unmarked, (crlf_unmarked, has.told_unmarked)))
    (more_parts levels octets at lines _ (typed_part levels octets at has.status has.told has.is_status line)
    (third_part levels octets (at + size lines + length delimiter) content has (stands_after octets at lines rest stands)))

pub all_parts : (levels : ℕ) (octets : List ℕ) (at : ℕ) (content : List (List ℕ)) → HasThreeParts content → Stands octets at (concat content)
    → (shape : Shape) × (inner : List Entity) × IsOpened (IsEntity (suc levels) octets) (Parts boundary false) 0 at content shape inner
all_parts levels octets at content has stands =
    let lines : List (List ℕ) = crlf ∷ has.person in
    let others : List (List ℕ) = (has.status ∷ crlf ∷ has.told) ++ delimiter ∷ ((has.header ∷ crlf ∷ has.shown) ++ close ∷ []) in
    let body : ℕ = at + length delimiter in
    let all : Stands octets body (concat (lines ++ delimiter ∷ others)) = Stands-back octets at delimiter _ (subst (λ l. Stands octets at (concat l)) has.whole stands) in
    let parts : parts_of boundary at content ≡ record { at = body; lines = cut_last lines } ∷ parts_on boundary (body + size lines + length delimiter) [] others =
    ap (parts_of boundary at) has.whole ∙ (parts_of-delimiter boundary at delimiter (lines ++ delimiter ∷ others) delimits ∙ part_before body lines others (crlf_unmarked, has.person_unmarked)) in
    let made = more_parts levels octets body lines _ (plain_part levels octets body has.person)
    (second_part levels octets (body + size lines + length delimiter) content has (stands_after octets body lines others all)) 1 in
    (Multipart, made.0, rw parts (refl, made.1))

-- ---- the whole

pub record IsBuilt (line : List ℕ) (content : List (List ℕ)) : Type 0 where
  pub type : IsTypeLine line (Parts boundary false)
  pub parts : HasThreeParts content
  pub ended : AreEnded content
  pub sound : AllByRecursion IsSound content

no_octets : lines_of [] ≡ []
unfolding lines_of
no_octets = refl

pub built_tree : (line : List ℕ) (content : List (List ℕ)) → IsBuilt line content → (entities : List Entity) × HasTree (concat (line ∷ crlf ∷ content)) entities
built_tree line content is =
    let lines : List (List ℕ) = line ∷ crlf ∷ content in
    let octets : List ℕ = concat lines in
    let own : lines_of octets ≡ lines =
    ap lines_of (sym (append-nil octets)) ∙ (lines_of-front lines [] (is.type.ended, (refl, is.ended)) ∙ (ap (λ l. lines ++ l) no_octets ∙ append-nil lines)) in
    let whole : Stands octets 0 octets = Stands-whole octets in
    let following = Stands-back octets (0 + length line) crlf (concat content) (Stands-back octets 0 line (crlf ++ concat content) whole) in
    let inside = all_parts 30 octets (0 + length line + size (take 1 (crlf ∷ content))) content is.parts following in
    let root = typed_entity 31 octets None 0 0 line (crlf ∷ content) (Parts boundary false) inside.0 inside.1 (record { type = is.type; ends = refl; stands = Stands-front octets 0 line _ whole }) inside.2 in
    (root.0, record { is_message = sound_concat lines (is.type.sound, (crlf_sound, is.sound)); root = rw own root.1 })
