use Rattle.utf8_fields.proofs.OneLine.{line_value}
use Rattle.utf8_fields.proofs.values.line_value.Goals as goal

pub returns-then-line_len-body : goal.returns-then-line_len-body
returns-then-line_len-body c = line_value c.args.body.now c.trim.result.now c.line_len.result c.if-line_len-body.true c.line_len.ensures.line c.trim.ensures
