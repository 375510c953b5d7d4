use Rattle.std.proofs.Common.{Err, ap}
use Rattle.field_downgrade.proofs.structured.write_params.Goals as goal

pub returns-in-Err-Malformed : goal.returns-in-Err-Malformed
returns-in-Err-Malformed c = (
  λ pieces p. c.in-Err-Malformed.ensures.malformed (ap Err c.in-Err-Malformed.field-0-is) p.main p.params p.body,
  c.in-Err-Malformed.ensures.unchanged (ap Err c.in-Err-Malformed.field-0-is),
)
