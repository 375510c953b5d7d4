use Rattle.surrogate_cache.proofs.CacheLemmas.{kept_none}
use Rattle.surrogate_cache.proofs.caching.Cache.open.Goals as goal

pub invariant_of-result : goal.invariant_of-result
invariant_of-result c =
    (kept_none c.in_ok-pool.pool c.in_ok-order.order c.args.entries c.in_ok-pool.ensures.held c.in_ok-order.ensures, c.in_ok-pool.ensures.blocks)
