use Rattle.std.proofs.Common.{◌≡◌, ◌-◌, ◌<◌, length}
use Rattle.block_pool.specs.private.Chains.{block_after}
use Rattle.block_pool.proofs.chains.following.Given as goal

abbrev pub invariant-loop-step : goal.invariant-loop-step
invariant-loop-step l = (l.block < length l.next) × (block_after l.next l.block (l.steps - l._step) ≡ block_after l.next l.fn.first l.steps)
