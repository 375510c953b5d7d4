-- The fields of lines that stand in the octets.
use Rattle.std.proofs.Common.{◌≡◌, ℕ, ◌+◌, ◌≤◌, List, [], ◌∷◌, ◌++◌, length, take, drop, arith, sym, ap, subst, length-append}
use Rattle.std.specs.List.{concat}
use Rattle.std.proofs.lemmas.List.{take-append-drop}
use Rattle.std.proofs.lemmas.List.Elements.{All-nil, All-cons}
use Rattle.utf8_fields.specs.declared.block.Field.{Field}
use Rattle.utf8_fields.specs.declared.block.Block.{Block}
use Rattle.utf8_fields.specs.Parts.{HasParts, IsField}
use Rattle.utf8_fields.specs.Block.{IsFieldAt, AreFields, raw_of}
use Rattle.utf8_fields.proofs.HaveParts.{LinesHaveParts-from}
use Rattle.utf8_fields.proofs.Raws.{raw_of-lines, AreFields-join}
use Rattle.mime_tree.specs.Openings.{AreFieldsWithin, AreFieldsJoined}
use Rattle.mime_tree.specs.Parts.{size}
use Rattle.mime_tree.specs.Tree.{HasHead}
use Rattle.mime_tree.proofs.Standing.{Stands}
use Rattle.mime_tree.proofs.LinesWithin.{AreLinesAt, lines_front, lines_back}

-- the raw octets of the field stand in the octets and are a field
abbrev pub IsFieldWithin : List ℕ → Field → Type 0
IsFieldWithin octets field = (field.raw.at + field.raw.len ≤ length octets) × IsField (raw_of octets field)

-- what stands at a place ends in the octets
pub stands_within : (octets : List ℕ) (at : ℕ) (text : List ℕ) → Stands octets at text → at + length text ≤ length octets
stands_within octets at text is =
    let whole = ap length is.whole in
    let place = is.place in
    omega (arith, length-append is.before (text ++ is.after), length-append text is.after)

-- the field of such lines
field_within : (octets : List ℕ) (at : ℕ) (field : Field) (first : List ℕ) (more : List (List ℕ)) → AreLinesAt octets at (first ∷ more) → IsFieldAt at field first more → IsFieldWithin octets field
field_within octets at field first more lines is =
    let have = LinesHaveParts-from (take field.name.len first) first more is.begins is.further lines.are is.sound is.utf8 in
    let stand : Stands octets at (concat (first ∷ more)) = lines.stand in
    let raw : raw_of octets field ≡ concat (first ∷ more) = raw_of-lines octets stand.before (concat (first ∷ more)) stand.after at field stand.whole stand.place is.raw_at is.raw_len in
    let within = stands_within octets at (concat (first ∷ more)) stand in
    let raw_at = is.raw_at in
    let raw_len = is.raw_len in
    (omega arith, record { parts = have.parts; has_parts = subst (λ text. HasParts text have.parts) (sym raw) have.has_parts })

-- the fields of lines that stand in the octets
pub fields_within : (octets : List ℕ) (lines : List (List ℕ)) (at : ℕ) (fields : List Field) (end : ℕ) → AreLinesAt octets at lines → AreFields lines at fields end → AreFieldsWithin octets fields
fields_within octets lines at [] end is are = All-nil (IsFieldWithin octets)
fields_within octets lines at (field ∷ fields) end is are =
    let all : AreLinesAt octets at ((are.0 ∷ are.1) ++ are.2) = subst (AreLinesAt octets at) are.3 is in
    let place : at + size (are.0 ∷ are.1) ≡ at + field.raw.len = ap (λ n. at + n) (sym are.4.raw_len) in
    let following : AreLinesAt octets (at + field.raw.len) are.2 = subst (λ n. AreLinesAt octets n are.2) place (lines_back octets at (are.0 ∷ are.1) are.2 all) in
    All-cons (IsFieldWithin octets) field fields (field_within octets at field are.0 are.1 (lines_front octets at (are.0 ∷ are.1) are.2 all) are.4)
    (fields_within octets are.2 (at + field.raw.len) fields end following are.5)

-- the fields of lines stand one after another
fields_joined : (lines : List (List ℕ)) (at : ℕ) (fields : List Field) (end : ℕ) → AreFields lines at fields end → AreFieldsJoined at fields end
fields_joined lines at [] end are = are.1
fields_joined lines at (field ∷ fields) end are = (are.4.raw_at, fields_joined are.2 (at + field.raw.len) fields end are.5)

-- the lines after the first one of these, if there is one
after_one : (octets : List ℕ) (at : ℕ) (lines : List (List ℕ)) → AreLinesAt octets at lines → AreLinesAt octets (at + size (take 1 lines)) (drop 1 lines)
after_one octets at lines is = lines_back octets at (take 1 lines) (drop 1 lines) (subst (AreLinesAt octets at) (sym (take-append-drop 1 lines)) is)

-- of lines with a head the fields and the content stand in the octets
pub record IsHeadWithin (octets : List ℕ) (at : ℕ) (block : Block) (body : ℕ) (content : List (List ℕ)) : Type 0 where
  pub fields : AreFieldsWithin octets block.fields
  pub joined : AreFieldsJoined at block.fields block.end
  pub content_lines : AreLinesAt octets body content

-- a head of lines that stand in the octets
pub head_within : (octets : List ℕ) (at : ℕ) (lines : List (List ℕ)) (block : Block) (body : ℕ) (content : List (List ℕ)) → AreLinesAt octets at lines → HasHead at lines block body content
    → IsHeadWithin octets at block body content
head_within octets at lines block body content is head =
    let has = head.has_block in
    let all : AreLinesAt octets at (has.header ++ has.rest) = subst (AreLinesAt octets at) has.lines is in
    let header : AreLinesAt octets at has.header = lines_front octets at has.header has.rest all in
    let stand : Stands octets at (concat has.header) = header.stand in
    let joins = AreFields-join octets stand.before stand.after has.header at block.fields block.end stand.whole stand.place has.fields_are in
    let rest : AreLinesAt octets block.end has.rest = subst (λ n. AreLinesAt octets n has.rest) (sym joins.end_is) (lines_back octets at has.header has.rest all) in
    record {
      fields = fields_within octets has.header at block.fields block.end header has.fields_are;
      joined = fields_joined has.header at block.fields block.end has.fields_are;
      content_lines = rw (head.body_is, head.content_is) (after_one octets block.end has.rest rest);
    }
