-- How the entries of a cache are kept: their stored ropes in a pool, and each one's place there in the order of their use.
use Rattle.std.specs.Prelude.{◌≡◌, ℕ, ◌≤◌, List, [], ◌∷◌, map, length, sum_by, if◌then◌else◌, nat_eq}
use Rattle.std.specs.List.{AllByRecursion, IsDistinct}
use Rattle.std.specs.Map.{keys_of, values_of}
use Rattle.block_pool.specs.Pool.{Held, PoolState, HoldsUnder, blocks_in_use}
use Rattle.surrogate_cache.specs.Caching.{Entry, IsStoredForm, entry_blocks}

-- the octets that are held at a place, or none
abbrev pub octets_at : List Held → ℕ → List ℕ
octets_at [] place = []
octets_at (one ∷ held) place = if nat_eq place one.id then one.octets else octets_at held place

-- the entry of a message's number and a place
abbrev pub entry_at : List Held → ℕ × ℕ → Entry
entry_at held pair = record { id = pair.0; stored = octets_at held pair.1 }

-- the entries of numbers and places
abbrev pub entries_at : List Held → List (ℕ × ℕ) → List Entry
entries_at held pairs = map (entry_at held) pairs

-- A stored rope is held at the entry's place.
pub record IsKeptAt (pool : PoolState) (pair : ℕ × ℕ) : Type 0 where
  pub live : HoldsUnder pool pair.1 (octets_at pool.held pair.1)
  pub stored : IsStoredForm (octets_at pool.held pair.1)

-- No message has two entries. Each entry has a place of its own, where its stored rope is held, and the pool holds nothing else: the blocks
-- in use are those of the entries, and no more than the pool has.
pub record IsKept (pool : PoolState) (pairs : List (ℕ × ℕ)) : Type 0 where
  pub distinct : IsDistinct nat_eq (keys_of pairs)
  pub own : IsDistinct nat_eq (values_of pairs)
  pub each : AllByRecursion (IsKeptAt pool) pairs
  pub only : length pool.held ≡ length pairs
  pub in_use : blocks_in_use pool.held ≡ sum_by entry_blocks (entries_at pool.held pairs)
  pub within : blocks_in_use pool.held ≤ pool.blocks
