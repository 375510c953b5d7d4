use Rattle.std.proofs.Common.{length}
use Rattle.field_tokens.proofs.Runs.{RunsTo}
use Rattle.field_tokens.proofs.trees.split_run.Given as goal

abbrev pub invariant-loop-after : goal.invariant-loop-after
invariant-loop-after l = RunsTo l.octets l.run l.rest

abbrev pub decreases-loop-after : goal.decreases-loop-after
decreases-loop-after l = length l.rest
