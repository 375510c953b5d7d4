use Rattle.std.proofs.Common.{◌≡◌, ◌≤◌, ◌-◌, None, Ok}
use Rattle.session_core.specs.Around.{Around}
use Rattle.session_core.specs.Keeps.{Keeps}
use Rattle.session_core.specs.Sessions.{BeginsSession, HasEnded, IsReady}
use Rattle.session_core.proofs.ServingLemmas.{AreLaws, Goes}
use Rattle.session_core.proofs.serving.serve_begun.Given as goal

abbrev pub invariant-loop-taken : goal.invariant-loop-taken
invariant-loop-taken g l = record {
  laws : AreLaws g.M.Machine.protocol g.M.Machine.stands;
  goes : (start : Around) → BeginsSession g.M.Machine.protocol g.M.Machine.stands start l.fn.outside (Ok l.fn.session) → l.fn.outside.clock ≡ start.clock → Goes g.M.Machine.protocol g.M.Machine.stands start l.outside l.session l.taken;
  ready : IsReady g.M.Machine.is_ready l.session l.outside.desk;
  goes_on : ¬ HasEnded l.session;
  on : Keeps l.fn.outside l.outside None;
  low : l.taken ≤ l.max;
}

abbrev pub decreases-loop-taken : goal.decreases-loop-taken
decreases-loop-taken g l = l.max - l.taken
