use Rattle.std.proofs.Common.{Some}
use Rattle.utf8_reports.proofs.addresses.path_address.Goals as goal

pub returns-in-Ok-clause-exact : goal.returns-in-Ok-clause-exact
returns-in-Ok-clause-exact c address path = c.in-Ok.ensures.exact (Some address) path

pub returns-in-Err-Malformed-clause-exact : goal.returns-in-Err-Malformed-clause-exact
returns-in-Err-Malformed-clause-exact c address path =
    let memory = c.in-Err-Malformed.ensures.exact (Some address) path in
    let is = c.in-Err-Malformed.field-0-is in
    cc
