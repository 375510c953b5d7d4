use Rattle.std.proofs.Common.{length, None}
use Rattle.session_core.specs.Keeps.{Keeps}
use Rattle.session_core.proofs.GoingLemmas.{Going}
use Rattle.session_core.proofs.feeding.feed_open.Given as goal

abbrev pub invariant-loop-rest : goal.invariant-loop-rest
invariant-loop-rest g l = record {
  going : Going g.M.Machine.protocol g.M.Machine.stands l.initial.outside l.outside l.initial.machine l.initial.kept l.initial.rest l.machine l.kept l.rest;
  ready : g.M.Machine.is_ready l.machine l.kept l.outside.desk;
  on : Keeps l.initial.outside l.outside None;
}

abbrev pub decreases-loop-rest : goal.decreases-loop-rest
decreases-loop-rest g l = length l.rest
