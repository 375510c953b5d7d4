use Rattle.std.proofs.Common.{◌≡◌, ℕ, ◌+◌, ◌<◌, length, slice_index}
use Rattle.block_pool.proofs.chains.in_order.Given as goal

abbrev pub invariant-loop-block : goal.invariant-loop-block
invariant-loop-block l = (length l.next.items + 1 ≡ l.block) × ((block : ℕ) → block < length l.next.items → slice_index l.next.items block ≡ block + 1)
