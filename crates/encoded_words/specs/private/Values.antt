-- What a unit of the code says.
use Rattle.encoded_words.specs.declared.Unit.{Unit}
use Rattle.encoded_words.specs.declared.Unit.TheVariants.{Text, Opaque}
use Rattle.encoded_words.specs.Words.{UnitValue, Text as TextValue, Opaque as OpaqueValue}

abbrev pub value_of : Unit → UnitValue
value_of (Text octets) = TextValue octets
value_of (Opaque charset octets source) = OpaqueValue charset octets source
