-- A cache by its fields, as it is opened, as an entry is found and as one is made.
use Rattle.std.proofs.Common.{◌≡◌, ℕ, List, [], ◌∷◌, length, Option, Some, None, nat_eq, option_map, ◌+◌, ◌-◌, ◌^◌, ◌≤◌, min, map, IfSome, arith, refl, sym, ap, subst, ◌∙◌}
use Rattle.std.proofs.lemmas.List.{length-map}
use Rattle.std.proofs.lemmas.List.Sorted.{IsPermutation-sym}
use Rattle.std.specs.List.{AllByRecursion, IsDistinct}
use Rattle.std.specs.Map.{keys_of, lookup, remove_entry}
use Rattle.lru.specs.LruCache.{LruCache, lru_cache, promoted}
use Rattle.block_pool.specs.Pool.{Held, PoolState, HoldsUnder, blocks_in_use}
use Rattle.surrogate_cache.specs.Caching.{Entry, CacheState, IsStoredForm, IsStoredOf, IsCacheState, stored_under, entries_without, after_hit}
use Rattle.surrogate_cache.specs.declared.caching.Counts.{Counts}
use Rattle.surrogate_cache.specs.private.Kept.{octets_at, entry_at, entries_at, IsKeptAt, IsKept}
use Rattle.surrogate_cache.proofs.OrderLemmas.{stored_under-entries, entries_without-entries, promoted-missed, promoted-found, IsPermutation-found}
use Rattle.surrogate_cache.proofs.KeptEntries.{kept_ordered}

kept_empty : (pool : PoolState) → pool.held ≡ [] → IsKept pool []
unfolding IsDistinct
kept_empty pool none = record { distinct = tt; own = tt; each = tt; only = ap (λ (held : List Held). length held) none; in_use = ap blocks_in_use none; within = let zero_used : blocks_in_use pool.held ≡ 0 = ap blocks_in_use none in omega arith }

-- nothing is kept in an empty pool
pub kept_none : (pool : PoolState) (order : LruCache ℕ ℕ) (places : ℕ) → pool.held ≡ [] → order ≡ lru_cache [] places → IsKept pool order.entries
kept_none pool order places none is = subst (λ (o : LruCache ℕ ℕ). IsKept pool o.entries) (sym is) (kept_empty pool none)

-- a number that isn't found has no entry, and nothing moves
pub record IsMissed (pool : PoolState) (order after : LruCache ℕ ℕ) (id : ℕ) : Type 0 where
  pub missed : stored_under (entries_at pool.held order.entries) id ≡ None
  pub same : after ≡ order

pub is_missed : (pool : PoolState) (order after : LruCache ℕ ℕ) (id : ℕ) → lookup (nat_eq id) order.entries ≡ None
    → after ≡ lru_cache (promoted (nat_eq id) order.entries) order.cap → IsMissed pool order after id
is_missed pool order after id none is =
    record {
      missed = stored_under-entries pool.held order.entries id ∙ ap (option_map (octets_at pool.held)) none;
      same = is ∙ ap (λ (entries : List (ℕ × ℕ)). lru_cache entries order.cap) (promoted-missed order.entries id none);
    }

-- a number that is found has an entry, which goes before all others
pub record IsFound (pool : PoolState) (order after : LruCache ℕ ℕ) (id place : ℕ) : Type 0 where
  pub kept : IsKept pool after.entries
  pub found : stored_under (entries_at pool.held order.entries) id ≡ Some (octets_at pool.held place)
  pub holds : HoldsUnder pool place (octets_at pool.held place)
  pub stored : IsStoredForm (octets_at pool.held place)
  pub entries : entries_at pool.held after.entries ≡ (record { id = id; stored = octets_at pool.held place }) ∷ entries_without (entries_at pool.held order.entries) id
  pub cap : after.cap ≡ order.cap

pub is_found : (pool : PoolState) (order after : LruCache ℕ ℕ) (id place : ℕ) → IsKept pool order.entries → lookup (nat_eq id) order.entries ≡ Some place
    → after ≡ lru_cache (promoted (nat_eq id) order.entries) order.cap → IsFound pool order after id place
is_found pool order after id place kept found is =
    let first = (id, place) ∷ remove_entry (nat_eq id) order.entries in
    let entries : after.entries ≡ first = ap (λ (o : LruCache ℕ ℕ). o.entries) is ∙ promoted-found order.entries id place found in
    let moved : IsKept pool first = kept_ordered pool order.entries first (IsPermutation-sym first order.entries (IsPermutation-found order.entries id place found)) kept in
    record {
      kept = subst (IsKept pool) (sym entries) moved;
      found = stored_under-entries pool.held order.entries id ∙ ap (option_map (octets_at pool.held)) found;
      holds = moved.each.0.live;
      stored = moved.each.0.stored;
      entries = ap (entries_at pool.held) entries
          ∙ ap (λ (more : List Entry). (record { id = id; stored = octets_at pool.held place }) ∷ more) (sym (entries_without-entries pool.held order.entries id));
      cap = ap (λ (o : LruCache ℕ ℕ). o.cap) is;
    }

-- a cache by its fields
abbrev pub seen : PoolState → ℕ → LruCache ℕ ℕ → Counts → CacheState
seen pool blocks order counts = record { entries = entries_at pool.held order.entries; counts = counts; blocks = blocks; places = order.cap }

pub missed_state : (pool : PoolState) (blocks : ℕ) (order after : LruCache ℕ ℕ) (counts : Counts) (id : ℕ) (state : CacheState) → seen pool blocks order counts ≡ state
    → IsMissed pool order after id → (stored_under state.entries id ≡ None) × (seen pool blocks after counts ≡ state)
missed_state pool blocks order after counts id state is missed =
    (ap (λ (s : CacheState). stored_under s.entries id) (sym is) ∙ missed.missed, ap (λ (o : LruCache ℕ ℕ). seen pool blocks o counts) missed.same ∙ is)

-- an entry that was found, and the state after it
pub record IsHit (state new : CacheState) (id : ℕ) (stored : List ℕ) : Type 0 where
  pub found : stored_under state.entries id ≡ Some stored
  pub becomes : new ≡ after_hit state id stored

pub hit_state : (pool : PoolState) (blocks : ℕ) (order after : LruCache ℕ ℕ) (counts : Counts) (id place hits : ℕ) (state : CacheState) → seen pool blocks order counts ≡ state
    → IsFound pool order after id place → hits ≡ min (counts.hits + 1) (2 ^ 64 - 1)
    → IsHit state (seen pool blocks after (record { built = counts.built; hits = hits })) id (octets_at pool.held place)
hit_state pool blocks order after counts id place hits state is found counted =
    let stored = octets_at pool.held place in
    let made : seen pool blocks after (record { built = counts.built; hits = hits }) ≡ after_hit (seen pool blocks order counts) id stored =
    ap (λ (entries : List Entry). with_all entries (record { built = counts.built; hits = hits }) blocks after.cap) found.entries
    ∙ ap (λ (n : ℕ). with_all ((record { id = id; stored = stored }) ∷ entries_without (entries_at pool.held order.entries) id) (record { built = counts.built; hits = n }) blocks after.cap) counted
    ∙ ap (λ (cap : ℕ). with_all ((record { id = id; stored = stored }) ∷ entries_without (entries_at pool.held order.entries) id) (record { built = counts.built; hits = min (counts.hits + 1) (2 ^ 64 - 1) }) blocks cap) found.cap in
    record {
      found = ap (λ (s : CacheState). stored_under s.entries id) (sym is) ∙ found.found;
      becomes = made ∙ ap (λ (s : CacheState). after_hit s id stored) is;
    }
  where
    with_all : List Entry → Counts → ℕ → ℕ → CacheState
    with_all entries counts blocks places = record { entries = entries; counts = counts; blocks = blocks; places = places }

pub of_held : (found : Option (List ℕ)) (msg stored : List ℕ) → found ≡ Some stored → IfSome found (IsStoredOf msg) → IsStoredOf msg stored
of_held found msg stored is held = subst (λ (o : Option (List ℕ)). IfSome o (IsStoredOf msg)) is held

-- the numbers of the entries
pub ids_at : (held : List Held) (pairs : List (ℕ × ℕ)) → map (λ (entry : Entry). entry.id) (entries_at held pairs) ≡ keys_of pairs
ids_at held [] = refl
ids_at held (pair ∷ pairs) = ap (λ (ids : List ℕ). pair.0 ∷ ids) (ids_at held pairs)

stored_at : (pool : PoolState) (pairs : List (ℕ × ℕ)) → AllByRecursion (IsKeptAt pool) pairs → AllByRecursion (λ (entry : Entry). IsStoredForm entry.stored) (entries_at pool.held pairs)
stored_at pool [] each = tt
stored_at pool (pair ∷ pairs) each = (each.0.stored, stored_at pool pairs each.1)

pub cache_sound : (pool : PoolState) (blocks : ℕ) (order : LruCache ℕ ℕ) (counts : Counts) (state : CacheState) → seen pool blocks order counts ≡ state → IsKept pool order.entries
    → pool.blocks ≡ blocks → length order.entries ≤ order.cap → IsCacheState state
cache_sound pool blocks order counts state is kept same few =
    subst IsCacheState is
    (record {
      distinct = subst (IsDistinct nat_eq) (sym (ids_at pool.held order.entries)) kept.distinct;
      stored = stored_at pool order.entries kept.each;
      blocks = let used = kept.in_use in let all = kept.within in omega arith;
      places = omega (arith, length-map order.entries (entry_at pool.held));
    })
