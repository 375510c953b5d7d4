use Rattle.std.proofs.Common.{◌≡◌, map, ap, sym, ◌∙◌}
use Rattle.std.proofs.lemmas.Result.{IfOk-weaker}
use Rattle.std.specs.Map.{keys_of}
use Rattle.surrogate_cache.specs.Caching.{Entry, CacheState}
use Rattle.surrogate_cache.proofs.CacheLemmas.{ids_at, cache_sound}
use Rattle.surrogate_cache.proofs.caching.Cache.entries.Goals as goal

pub returns-clause-ids : goal.returns-clause-ids
returns-clause-ids c =
    IfOk-weaker c.ids_of.result (λ ids. ids.items ≡ keys_of c.self.inside.order.entries) (λ ids. ids.items ≡ map (λ (entry : Entry). entry.id) c.args.self.now.entries)
    (λ ids is. is ∙ sym (ids_at c.self.inside.pool.held c.self.inside.order.entries) ∙ ap (λ (state : CacheState). map (λ (entry : Entry). entry.id) state.entries) c.self.view_is)
    c.ids_of.ensures.ids

pub returns-clause-sound : goal.returns-clause-sound
returns-clause-sound c =
    cache_sound c.self.inside.pool c.self.inside.blocks c.self.inside.order c.self.inside.counts c.args.self.now c.self.view_is c.self.invariant.0 c.self.invariant.1 c.ids_of.ensures.few
