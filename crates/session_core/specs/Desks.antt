-- What sessions are served from, and when it serves them.
use Rattle.std.specs.Prelude.{◌≡◌, ◌⊎◌, ℕ, ◌<◌, ◌≤◌, List, [], length, codes, false, slice_get, Option, None, Some, IfSome}
use Rattle.std.specs.Option.{option_map_or}
use Rattle.kept_mail.specs.declared.limits.TheConstants.{MESSAGE_MAX}
use Rattle.journal_records.specs.Addresses.{IsDomainText}
use Rattle.journal_records.specs.declared.records.Record.{Record}
use Rattle.kept_mail.specs.Kept.{Kept, name_of}
use Rattle.mail_store.specs.Answers.{OpensTo}
use Rattle.mail_store.specs.Catching.{CatchesUp, HasReadFirst, IsBadFrom}
use Rattle.mail_store.specs.StoreState.{StoreState, AreStored}
use Rattle.kept_mail.specs.declared.kept.Message.{Message}
use Rattle.surrogate_cache.specs.Caching.{CacheState, HoldsEach, IsStoredOf}
use Rattle.session_core.specs.declared.desk.Desk.{Desk}
use Rattle.session_core.specs.declared.desk.Limits.{Limits}

-- the limits under which a desk works
pub record AreLimits (limits : Limits) : Type 0 where
  pub message_bound : limits.message_max ≤ MESSAGE_MAX
  pub session_longer : limits.message_max < limits.session_max
  pub some_blocks : 0 < limits.pool_blocks
  pub few_blocks : limits.pool_blocks ≤ 65536
  pub some_entries : 0 < limits.cache_entries

-- a store's name is ASCII: a normal form, or `localhost`
abbrev pub IsStoreName : List ℕ → Type 0
IsStoreName name = IsDomainText name ⊎ (name ≡ codes "localhost")

-- the octets of a message that is kept
abbrev pub kept_octets : Kept → ℕ → List ℕ
kept_octets kept id = option_map_or (λ (message : Message). message.octets) (slice_get kept.messages id) []

-- the stored form is that of a rope of the message of this number
pub record IsRopeOfKept (kept : Kept) (id : ℕ) (stored : List ℕ) : Type 0 where
  pub known : id < length kept.messages
  pub rope : IsStoredOf (kept_octets kept id) stored

-- each rope that the cache holds is one of the message of its number, also where that is expunged
abbrev pub IsCacheOf : CacheState → Kept → Type 0
IsCacheOf cache kept = HoldsEach (IsRopeOfKept kept) cache

-- the cache has as many blocks and places as these limits say
pub record IsCacheWithin (limits : Limits) (cache : CacheState) : Type 0 where
  pub blocks : cache.blocks ≡ limits.pool_blocks
  pub places : cache.places ≡ limits.cache_entries

-- a cache of these limits that holds nothing, and of which nothing was asked
abbrev pub new_cache : Limits → CacheState
new_cache limits = record { entries = []; counts = record { built = 0; hits = 0 }; blocks = limits.pool_blocks; places = limits.cache_entries }

-- A desk that serves sessions: its store hasn't failed and has a name, each of its messages has a tree, its limits are the store's, and
-- its cache is that of the store.
pub record IsOpen (desk : Desk) : Type 0 where
  pub limits : AreLimits desk.limits
  pub agrees : desk.store.message_max ≡ desk.limits.message_max
  pub works : desk.store.failed ≡ false
  pub named : IsStoreName (name_of desk.store.kept)
  pub stored : AreStored desk.store.kept.messages
  pub cached : IsCacheOf desk.cache desk.store.kept
  pub places : IsCacheWithin desk.limits desk.cache

-- A desk that serves sessions within these limits, or will once its store has caught up.
pub record WorksWithin (limits : Limits) (desk : Desk) : Type 0 where
  pub are_limits : AreLimits limits
  pub own : desk.limits ≡ limits
  pub agrees : desk.store.message_max ≡ limits.message_max
  pub named : IsStoreName (name_of desk.store.kept)
  pub stored : AreStored desk.store.kept.messages
  pub cached : IsCacheOf desk.cache desk.store.kept
  pub places : IsCacheWithin limits desk.cache

-- a desk that is kept has what the octets begin with
abbrev pub HasFirst : Option Desk → List ℕ → Type 0
HasFirst kept octets = IfSome kept (λ desk. (all : List Record) × HasReadFirst desk.store octets all)

-- the octets of a message of the store
abbrev pub stored_octets : StoreState → ℕ → List ℕ
stored_octets store id = kept_octets store.kept id

-- the date of a message of the store
abbrev pub stored_date : StoreState → ℕ → List ℕ
stored_date store id = option_map_or (λ (message : Message). message.date) (slice_get store.kept.messages id) []

-- The store of the desk for the next session: a journal is opened, or the store of the desk that was kept catches up with it.
abbrev pub OpensOrCatchesUp : Option Desk → List ℕ → Option (List ℕ) → Kept → Type 0
OpensOrCatchesUp None old new kept = OpensTo old new kept
OpensOrCatchesUp (Some desk) old new kept = OpensTo old new kept ⊎ CatchesUp desk.store old new kept

-- The cache of the desk for the next session is that of the desk that was kept. It is new where none was, or where the store that was
-- kept can't go on with the octets.
abbrev pub IsNextCache : Limits → Option Desk → List ℕ → CacheState → Type 0
IsNextCache limits None octets cache = cache ≡ new_cache limits
IsNextCache limits (Some desk) octets cache = (cache ≡ desk.cache) ⊎ ((cache ≡ new_cache limits) × ((at : ℕ) × IsBadFrom desk.store octets at))
