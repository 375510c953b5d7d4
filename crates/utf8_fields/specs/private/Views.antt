-- What contracts see of the code's parts of a field.
use Rattle.utf8_fields.specs.declared.parts.Parts.{Parts}
use Rattle.utf8_fields.specs.Parts.{FieldParts}

abbrev pub parts_value : Parts → FieldParts
parts_value p = record { name = p.name.now; white = p.white.now; body = p.body.now; ending = p.ending.now }
