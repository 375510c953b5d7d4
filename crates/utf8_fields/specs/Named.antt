-- Where the name of a block's field stands.
use Rattle.std.specs.Prelude.{◌≡◌, ℕ, ◌<◌, List}
use Rattle.utf8_fields.specs.declared.block.Field.{Field}
use Rattle.utf8_fields.specs.Parts.{FieldParts, HasParts}
use Rattle.utf8_fields.specs.Block.{raw_of, name_of}

-- The field's name span is a front of its raw octets, and holds the name of their parts.
pub record HasFieldName (octets : List ℕ) (field : Field) : Type 0 where
  pub at : field.name.at ≡ field.raw.at
  pub within : field.name.len < field.raw.len
  pub named : (f : FieldParts) → HasParts (raw_of octets field) f → name_of octets field ≡ f.name
