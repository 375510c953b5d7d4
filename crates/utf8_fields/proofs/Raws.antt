-- The raw fields of a block, joined.
use Rattle.std.proofs.Common.{◌≡◌, ℕ, ◌+◌, ◌-◌, ◌≤◌, List, [], ◌∷◌, ◌++◌, length, take, drop, arith, refl, sym, ap, ◌∙◌, append_assoc, length-append, add-zero}
use Rattle.std.specs.List.{All, concat, flat_map}
use Rattle.std.proofs.lemmas.List.{take_at, drop_at}
use Rattle.std.proofs.lemmas.List.Folds.{concat-append}
use Rattle.std.proofs.lemmas.List.Elements.{All-cons, All-nil}
use Rattle.mail_wire.proofs.LineLemmas.{concat_lines_of}
use Rattle.utf8_fields.specs.declared.block.Field.{Field}
use Rattle.utf8_fields.specs.Block.{IsFieldAt, AreFields, HasBlock, raw_of}

-- octets that stand after others
pub slice_range-following : (octets before part after : List ℕ) (at len : ℕ) → octets ≡ before ++ (part ++ after) → length before ≡ at → len ≡ length part
    → take (at + len - at) (drop at octets) ≡ part
slice_range-following octets before part after at len is at_is len_is =
    let diff : at + len - at ≡ len = omega arith in
    rw (diff, is, drop_at before (part ++ after) at at_is) (take_at part after len (sym len_is))

-- the raw octets are those of the field's lines
pub raw_of-lines : (octets before lines after : List ℕ) (at : ℕ) (field : Field) → octets ≡ before ++ (lines ++ after) → length before ≡ at → field.raw.at ≡ at
    → field.raw.len ≡ length lines → raw_of octets field ≡ lines
raw_of-lines octets before lines after at field is len at_is len_is =
    slice_range-following octets before lines after field.raw.at field.raw.len is (len ∙ sym at_is) len_is

-- the fields, from the octets before their lines to those after them
pub record Joins (octets : List ℕ) (lines : List (List ℕ)) (start : ℕ) (fields : List Field) (end : ℕ) : Type 0 where
  pub raws : flat_map (raw_of octets) fields ≡ concat lines
  pub end_is : end ≡ start + length (concat lines)
  pub within : All (λ field. field.raw.at + field.raw.len ≤ end) fields

pub AreFields-join : (octets before after : List ℕ) (lines : List (List ℕ)) (start : ℕ) (fields : List Field) (end : ℕ) → octets ≡ before ++ (concat lines ++ after) → length before ≡ start
    → AreFields lines start fields end → Joins octets lines start fields end
AreFields-join octets before after lines start [] end is len done =
    record { raws = rw done.0 refl; end_is = rw done.0 (sym done.1 ∙ sym (add-zero start)); within = All-nil (λ field. field.raw.at + field.raw.len ≤ end) }
AreFields-join octets before after lines start (field ∷ fields) end is len done =
    let field_lines : List (List ℕ) = done.0 ∷ done.1 in
    let rest : List (List ℕ) = done.2 in
    let is_field : IsFieldAt start field done.0 done.1 = done.4 in
    let all : concat lines ≡ concat (done.0 ∷ done.1) ++ concat done.2 = ap concat done.3 ∙ concat-append (done.0 ∷ done.1) done.2 in
    let split : octets ≡ before ++ (concat (done.0 ∷ done.1) ++ (concat done.2 ++ after)) = is ∙ rw (all, append_assoc (concat (done.0 ∷ done.1)) (concat done.2) after) refl in
    let raw_len = is_field.raw_len in
    let later : Joins octets done.2 (start + field.raw.len) fields end =
    AreFields-join octets (before ++ concat (done.0 ∷ done.1)) after done.2 (start + field.raw.len) fields end (split ∙ sym (append_assoc before (concat (done.0 ∷ done.1)) (concat done.2 ++ after)))
    (omega (arith, length-append before (concat (done.0 ∷ done.1)))) done.5 in
    let end_is = later.end_is in
    let at_is = is_field.raw_at in
    record {
      raws = rw (raw_of-lines octets before (concat (done.0 ∷ done.1)) (concat done.2 ++ after) start field split len is_field.raw_at is_field.raw_len, later.raws) (sym all);
      end_is = rw all (omega (arith, length-append (concat (done.0 ∷ done.1)) (concat done.2)));
      within = All-cons (λ field. field.raw.at + field.raw.len ≤ end) field fields (omega arith) later.within;
    }

-- of a block
pub record IsWhole (octets : List ℕ) (fields : List Field) (end : ℕ) : Type 0 where
  pub raws : flat_map (raw_of octets) fields ≡ take end octets
  pub fits : end ≤ length octets
  pub within : All (λ field. field.raw.at + field.raw.len ≤ end) fields

pub HasBlock-whole : (octets : List ℕ) (fields : List Field) (end : ℕ) → HasBlock octets fields end → IsWhole octets fields end
HasBlock-whole octets fields end block =
    let split : octets ≡ concat block.header ++ concat block.rest = sym (concat_lines_of octets) ∙ ap concat block.lines ∙ concat-append block.header block.rest in
    let joins = AreFields-join octets [] (concat block.rest) block.header 0 fields end split refl block.fields_are in
    let end_is = joins.end_is in
    record {
      raws = joins.raws ∙ rw split (rw end_is (sym (take_at (concat block.header) (concat block.rest) (0 + length (concat block.header)) (omega arith))));
      fits = rw split (omega (arith, length-append (concat block.header) (concat block.rest)));
      within = joins.within;
    }
