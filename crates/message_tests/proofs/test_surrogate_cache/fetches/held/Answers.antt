use Rattle.std.proofs.Common.{ℕ, [], slice_index_or}
use Rattle.surrogate_cache.specs.Caching.{IsStoredOf}
use Rattle.message_tests.proofs.FetchedLemmas.{looked_holds}
use Rattle.message_tests.proofs.test_surrogate_cache.fetches.held.Goals as goal

pub returns : goal.returns
returns c =
    looked_holds (λ (id : ℕ). IsStoredOf (slice_index_or c.args.messages.now id [])) (slice_index_or c.args.messages.now c.args.id []) c.args.cache.now c.held.new.self c.args.id c.held.result
    (λ stored is. is) c.requires c.held.ensures.finds
