-- Fields of a header that was read.
use Rattle.std.proofs.Common.{ℕ, ◌+◌, ◌≤◌, List, [], ◌∷◌, length, arith}
use Rattle.std.specs.List.{All}
use Rattle.std.proofs.lemmas.List.Elements.{All-head, All-tail, All-nil, All-cons}
use Rattle.utf8_fields.specs.declared.block.Field.{Field}
use Rattle.utf8_fields.specs.Parts.{IsField}
use Rattle.utf8_fields.specs.Block.{HasBlock, raw_of}
use Rattle.utf8_fields.specs.Named.{HasFieldName}
use Rattle.utf8_fields.proofs.HaveParts.{block_fields, have_parts, have_names}
use Rattle.utf8_fields.proofs.Raws.{HasBlock-whole}
use Rattle.mime_tree.specs.Openings.{AreFieldsWithin}

-- the raw octets of the field stand in the octets, and so does its name
pub record IsPlaced (octets : List ℕ) (field : Field) : Type 0 where
  pub raw : field.raw.at + field.raw.len ≤ length octets
  pub name : field.name.at + field.name.len ≤ length octets
  pub is_field : IsField (raw_of octets field)

are_placed : (octets : List ℕ) (end : ℕ) (fields : List Field) → end ≤ length octets → All (λ (field : Field). field.raw.at + field.raw.len ≤ end) fields
    → All (λ field. IsField (raw_of octets field)) fields → All (HasFieldName octets) fields → All (IsPlaced octets) fields
are_placed octets end [] fits raws are names = All-nil (IsPlaced octets)
are_placed octets end (field ∷ fields) fits raws are names =
    let raw : field.raw.at + field.raw.len ≤ end = All-head (λ (f : Field). f.raw.at + f.raw.len ≤ end) field fields raws in
    let name = All-head (HasFieldName octets) field fields names in
    let name_at = name.at in
    let name_len = name.within in
    let first : IsPlaced octets field = record {
      raw = omega arith;
      name = omega arith;
      is_field = All-head (λ f. IsField (raw_of octets f)) field fields are;
    } in
    All-cons (IsPlaced octets) field fields first
    (are_placed octets end fields fits (All-tail (λ (f : Field). f.raw.at + f.raw.len ≤ end) field fields raws) (All-tail (λ f. IsField (raw_of octets f)) field fields are)
    (All-tail (HasFieldName octets) field fields names))

pub block_placed : (octets : List ℕ) (fields : List Field) (end : ℕ) → HasBlock octets fields end → All (IsPlaced octets) fields
block_placed octets fields end block =
    let whole = HasBlock-whole octets fields end block in
    let all = block_fields octets 0 fields end (omega arith) block in
    are_placed octets end fields whole.fits whole.within (have_parts octets fields all) (have_names octets fields all)

placed_within : (octets : List ℕ) (fields : List Field) → All (IsPlaced octets) fields → AreFieldsWithin octets fields
placed_within octets [] all = All-nil (λ (field : Field). (field.raw.at + field.raw.len ≤ length octets) × IsField (raw_of octets field))
placed_within octets (field ∷ fields) all =
    let first = All-head (IsPlaced octets) field fields all in
    All-cons (λ (field : Field). (field.raw.at + field.raw.len ≤ length octets) × IsField (raw_of octets field)) field fields (first.raw, first.is_field)
    (placed_within octets fields (All-tail (IsPlaced octets) field fields all))

pub block_within : (octets : List ℕ) (fields : List Field) (end : ℕ) → HasBlock octets fields end → AreFieldsWithin octets fields
block_within octets fields end block = placed_within octets fields (block_placed octets fields end block)
