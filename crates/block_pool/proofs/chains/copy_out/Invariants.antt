use Rattle.std.proofs.Common.{length, ◌-◌}
use Rattle.block_pool.proofs.Copies.{IsCopying}
use Rattle.block_pool.proofs.chains.copy_out.Given as goal

abbrev pub invariant-loop-done : goal.invariant-loop-done
invariant-loop-done l = IsCopying l.region l.next l.fn.first l.fn.start l.block l.start l.done (length l.initial.into) l.into

abbrev pub decreases-loop-done : goal.decreases-loop-done
decreases-loop-done l = length l.initial.into - l.done
