use Rattle.session_core.proofs.FramedSteps.{none_kept}
use Rattle.session_core.proofs.rows.FramedMachine.begin.Goals as goal

pub returns-clause-ready : goal.returns-clause-ready
returns-clause-ready g c = (none_kept (g.R.Rows.wanted c.in_ok-rows.rows), c.in_ok-rows.ensures.known)
