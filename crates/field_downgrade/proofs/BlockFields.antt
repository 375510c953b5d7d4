-- The fields of a block.
use Rattle.utf8_fields.specs.declared.block.Field.{Field}

-- what stands where a loop over the fields has no element
abbrev pub no_field : Field
no_field = record { name = record { at = 0; len = 0 }; raw = record { at = 0; len = 0 } }
