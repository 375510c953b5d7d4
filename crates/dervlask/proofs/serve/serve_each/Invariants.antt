use Rattle.std.proofs.Common.{IfSome}
use Rattle.session_core.specs.Desks.{WorksWithin}
use Rattle.session_core.specs.declared.desk.TheConstants.{LIMITS}
use Rattle.dervlask.proofs.serve.serve_each.Given as goal

-- the desk that is kept can be served from
abbrev pub invariant-loop-number : goal.invariant-loop-number
invariant-loop-number g l = IfSome l.kept (WorksWithin LIMITS)
