use Rattle.std.proofs.Common.{ℕ, [], slice_index_or}
use Rattle.surrogate_cache.specs.Caching.{HoldsEach, IsStoredOf}
use Rattle.message_tests.proofs.test_surrogate_cache.fetches.holds_after.Given as goal

abbrev pub invariant-loop-id : goal.invariant-loop-id
invariant-loop-id l = HoldsEach (λ (id : ℕ). IsStoredOf (slice_index_or l.messages id [])) l.cache
