use Rattle.std.proofs.Common.{refl}
use Rattle.field_tokens.proofs.Runs.{RunsTo-turn, RunsTo-end}
use Rattle.field_tokens.proofs.trees.split_run.Goals as goal

pub returns-in_default : goal.returns-in_default
returns-in_default c =
    RunsTo-end c.args.octets.now c.loop-after.rest.now c.split_white.result.0.now c.split_white.result.1.now c.loop-after.run c.requires c.loop-after.invariant c.split_white.ensures c.in_default.ensures.none

pub loop-after-preserved : goal.loop-after-preserved
loop-after-preserved c =
    RunsTo-turn c.args.octets.now c.loop-after.rest.now c.split_white.result.0.now c.split_white.result.1.now c.in-Some.after.now c.loop-after.run _ c.loop-after.invariant c.split_white.ensures c.in-Some.ensures.found refl
