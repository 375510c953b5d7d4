use Rattle.std.proofs.Common.{◌≡◌, ◌++◌, drop, length}
use Rattle.relay_session.specs.Reporting.{failed_of}
use Rattle.relay_session.proofs.reporting.failed_of.Given as goal

abbrev pub invariant-loop-one : goal.invariant-loop-one
invariant-loop-one l = failed_of l.queued.unsettled l.outcomes ≡ l.failed ++ failed_of (drop (length l.yielded) l.queued.unsettled) (drop (length l.yielded) l.outcomes)
