use Rattle.std.proofs.Common.{◌≡◌, rules, ℕ, List, [], slice_index_or, subst}
use Rattle.surrogate_cache.specs.Caching.{IsStoredOf}
use Rattle.message_tests.proofs.FetchedLemmas.{tried_holds}
use Rattle.message_tests.proofs.test_surrogate_cache.fetches.try_fetch.Goals as goal

pub returns : goal.returns
returns c =
    let same : c.as_slice-2.result.now ≡ slice_index_or c.args.messages.now c.args.id [] = search rules in
    tried_holds (λ (id : ℕ). IsStoredOf (slice_index_or c.args.messages.now id [])) c.as_slice-2.result.now c.args.cache.now c.fetch.new.self c.args.id c.fetch.result
    (λ stored is. subst (λ (msg : List ℕ). IsStoredOf msg stored) same is) c.requires c.fetch.ensures.fetches c.fetch.ensures.loses
