use Rattle.std.proofs.Common.{◌≡◌, suc, ◌+◌, ◌-◌, ap, sym, ◌∙◌, arith}
use Rattle.block_pool.specs.private.Chains.{block_after}
use Rattle.block_pool.proofs.chains.following.Goals as goal

pub loop-step-preserved : goal.loop-step-preserved
loop-step-preserved c =
    let more : c.args.steps - c.loop-step._step ≡ suc (c.args.steps - (c.loop-step._step + 1)) = omega arith in
    (c.requires.goes_on _ c.loop-step.invariant.0, sym (ap (block_after c.args.next.now c.loop-step.block) more) ∙ c.loop-step.invariant.1)
