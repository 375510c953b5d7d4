use Rattle.std.proofs.Common.{◌≡◌, ◌-◌, length}
use Rattle.surrogate_cache.specs.Caching.{entries_within}
use Rattle.surrogate_cache.specs.private.Kept.{IsKept, entries_at}
use Rattle.surrogate_cache.proofs.keeping.make_room.Given as goal

abbrev pub invariant-loop-pool : goal.invariant-loop-pool
invariant-loop-pool l = record {
  kept : IsKept l.pool l.order.entries;
  entries : entries_within (l.initial.pool.blocks - l.blocks) (l.initial.order.cap - 1) (entries_at l.pool.held l.order.entries)
      ≡ entries_within (l.initial.pool.blocks - l.blocks) (l.initial.order.cap - 1) (entries_at l.initial.pool.held l.initial.order.entries);
  blocks_same : l.pool.blocks ≡ l.initial.pool.blocks;
  cap_same : l.order.cap ≡ l.initial.order.cap;
}

abbrev pub decreases-loop-pool : goal.decreases-loop-pool
decreases-loop-pool l = length l.order.entries
