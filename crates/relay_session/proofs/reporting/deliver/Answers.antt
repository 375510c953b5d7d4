use Rattle.std.proofs.Common.{Err, refl}
use Rattle.std.proofs.lemmas.Result.{err_from_is_err_and}
use Rattle.relay_session.proofs.DeliveredReports.{no_wire}
use Rattle.relay_session.proofs.reporting.deliver.Goals as goal

pub returns-in_err-deliver-clause-makes : goal.returns-in_err-deliver-clause-makes
returns-in_err-deliver-clause-makes g c =
    let failed = err_from_is_err_and c.from_residual.result c.from_residual.ensures.1 in
    rw (failed.1, failed.2) c.in_err-deliver.ensures.makes

pub returns-in_err-deliver-clause-wire : goal.returns-in_err-deliver-clause-wire
returns-in_err-deliver-clause-wire g c =
    let failed = err_from_is_err_and c.from_residual.result c.from_residual.ensures.1 in
    let met = c.in_err-deliver.field-0.0 in
    rw (failed.1, failed.2) (no_wire met (Err met) (Err met) refl refl c.in_err-deliver.ensures.wire)

pub returns-in_err-deliver-clause-keeps : goal.returns-in_err-deliver-clause-keeps
returns-in_err-deliver-clause-keeps g c =
    let failed = err_from_is_err_and c.from_residual.result c.from_residual.ensures.1 in
    rw (failed.1, failed.2) c.in_err-deliver.ensures.keeps
