use Rattle.utf8_fields.proofs.OneLine.{copied_value}
use Rattle.utf8_fields.proofs.values.value_of.Goals as goal

pub returns-in-Some : goal.returns-in-Some
returns-in-Some c = copied_value c.args.body.now c.in-Some.value.now c.from_slice.result c.in-Some.ensures c.from_slice.ensures
