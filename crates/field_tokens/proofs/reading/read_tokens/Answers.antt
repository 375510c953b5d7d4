use Rattle.std.proofs.Common.{Err, ap}
use Rattle.field_tokens.proofs.reading.read_tokens.Goals as goal

pub returns-in-Err-Malformed-clause-none : goal.returns-in-Err-Malformed-clause-none
returns-in-Err-Malformed-clause-none c = c.in-Err-Malformed.ensures.malformed (ap Err c.in-Err-Malformed.field-0-is)
