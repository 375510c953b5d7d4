use Rattle.relay_session.specs.private.Running.{octets_left}
use Rattle.relay_session.proofs.RunPieces.{RunsOn}
use Rattle.relay_session.proofs.relaying.run_to_end.Given as goal

abbrev pub invariant-loop-count : goal.invariant-loop-count
invariant-loop-count g l = RunsOn l.initial.outside l.outside l.queue l.initial.run l.run

abbrev pub decreases-loop-count : goal.decreases-loop-count
decreases-loop-count g l = octets_left l.run
