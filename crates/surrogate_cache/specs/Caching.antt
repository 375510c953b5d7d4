-- The cache of surrogates: what it holds, and what a fetch makes of it.
use Rattle.std.specs.Prelude.{◌≡◌, ℕ, ◌+◌, ◌-◌, ◌^◌, ◌<◌, ◌≤◌, ◌⊎◌, min, ◌&&◌, List, [], ◌∷◌, map, length, sum_by, if◌then◌else◌, nat_eq, nat_le, nat_lt, Option, Some, None, IfSome}
use Rattle.std.specs.List.{AllByRecursion, Contains, IsDistinct}
use Rattle.block_pool.specs.Pool.{needed_blocks}
use Rattle.surrogate_rope.specs.Ropes.{RopeValue, IsRopeOf}
use Rattle.surrogate_rope.specs.Stored.{IsStoredRope}
use Rattle.surrogate_rope.specs.declared.shown.Shown.{Shown}
use Rattle.surrogate_rope.specs.declared.shown.Shown.TheVariants.{Whole, Rope}
use Rattle.surrogate_cache.specs.Served.{Mode, legacy, enabled}
use Rattle.surrogate_cache.specs.declared.caching.Counts.{Counts}

-- the number of a message, and the stored form of a rope of it
pub record Entry : Type 0 where
  pub id : ℕ
  pub stored : List ℕ

-- The entries, the one that was fetched last before all others; how often a rope was built, and how often one was held; how many blocks
-- and how many entries there are at most.
pub record CacheState : Type 0 where
  pub entries : List Entry
  pub counts : Counts
  pub blocks : ℕ
  pub places : ℕ

-- the octets are the stored form of some rope
abbrev pub IsStoredForm : List ℕ → Type 0
IsStoredForm octets = (rope : RopeValue) × IsStoredRope octets rope

-- the octets are the stored form of a rope of the message
pub record IsStoredOf (msg octets : List ℕ) : Type 0 where
  pub rope : RopeValue
  pub stored : IsStoredRope octets rope
  pub of_message : IsRopeOf msg rope

-- the blocks that an entry takes
abbrev pub entry_blocks : Entry → ℕ
entry_blocks entry = needed_blocks (length entry.stored)

-- the stored form that is held under a message's number
abbrev pub stored_under : List Entry → ℕ → Option (List ℕ)
stored_under [] id = None
stored_under (entry ∷ entries) id = if nat_eq id entry.id then Some entry.stored else stored_under entries id

-- the entries but for that of a message's number
abbrev pub entries_without : List Entry → ℕ → List Entry
entries_without [] id = []
entries_without (entry ∷ entries) id = if nat_eq id entry.id then entries else entry ∷ entries_without entries id

-- If the cache holds a rope under the number, it is one of this message.
abbrev pub IsHeldOf : CacheState → ℕ → List ℕ → Type 0
IsHeldOf state id msg = IfSome (stored_under state.entries id) (IsStoredOf msg)

-- what is held under each number is so
abbrev pub HoldsEach : (ℕ → List ℕ → Type 0) → CacheState → Type 0
HoldsEach Holds state = (id : ℕ) → IfSome (stored_under state.entries id) (Holds id)

-- The first entries, as long as there are blocks and places for them: these stay, and the last ones go.
abbrev pub entries_within : ℕ → ℕ → List Entry → List Entry
entries_within blocks places [] = []
entries_within blocks places (entry ∷ entries) =
    if nat_le (entry_blocks entry) blocks && nat_lt 0 places then entry ∷ entries_within (blocks - entry_blocks entry) (places - 1) entries else []

-- the entries that stay where these octets are kept before them
abbrev pub entries_beside : ℕ → ℕ → List Entry → List ℕ → List Entry
entries_beside blocks places entries stored = entries_within (blocks - needed_blocks (length stored)) (places - 1) entries

-- The entries once a rope was built: one whose stored form needs more blocks than there are isn't kept, and none goes for it.
abbrev pub entries_built : ℕ → ℕ → List Entry → ℕ → List ℕ → List Entry
entries_built blocks places entries id stored =
    if nat_le (needed_blocks (length stored)) blocks then (record { id = id; stored = stored }) ∷ entries_beside blocks places entries stored else entries

-- one more, up to the greatest value of a count
abbrev pub one_more : ℕ → ℕ
one_more count = min (count + 1) (2 ^ 64 - 1)

-- A hit is counted, and the entry goes before all others.
abbrev pub after_hit : CacheState → ℕ → List ℕ → CacheState
after_hit state id stored =
    record {
      entries = (record { id = id; stored = stored }) ∷ entries_without state.entries id;
      counts = record { built = state.counts.built; hits = one_more state.counts.hits };
      blocks = state.blocks;
      places = state.places;
    }

-- with these entries
abbrev pub with_entries : CacheState → List Entry → CacheState
with_entries state entries = record { entries = entries; counts = state.counts; blocks = state.blocks; places = state.places }

-- That a rope was built is counted.
abbrev pub after_build : CacheState → ℕ → List ℕ → CacheState
after_build state id stored =
    record {
      entries = entries_built state.blocks state.places state.entries id stored;
      counts = record { built = one_more state.counts.built; hits = state.counts.hits };
      blocks = state.blocks;
      places = state.places;
    }

-- A look-up finds no rope and changes nothing, or it is a hit and finds the rope whose stored form is held.
abbrev pub FindsHeld : CacheState → CacheState → ℕ → Option RopeValue → Type 0
FindsHeld old new id None = (stored_under old.entries id ≡ None) × (new ≡ old)
FindsHeld old new id (Some rope) = (stored : List ℕ) × (stored_under old.entries id ≡ Some stored) × IsStoredRope stored rope × (new ≡ after_hit old id stored)

-- Without memory for the rope that is held it is a hit all the same.
abbrev pub LosesHit : CacheState → CacheState → ℕ → Type 0
LosesHit old new id = (stored : List ℕ) × (stored_under old.entries id ≡ Some stored) × (new ≡ after_hit old id stored)

-- A rope of the message was built, and its stored form is kept if it can be.
pub record Builds (msg : List ℕ) (old new : CacheState) (id : ℕ) (rope : RopeValue) : Type 0 where
  pub missed : stored_under old.entries id ≡ None
  pub stored : List ℕ
  pub stored_is : IsStoredRope stored rope
  pub of_message : IsRopeOf msg rope
  pub becomes : new ≡ after_build old id stored

-- Without memory for a rope of the message none is counted, and no entry went but those that had to go for it.
pub record LosesBuild (msg : List ℕ) (old new : CacheState) (id : ℕ) : Type 0 where
  pub missed : stored_under old.entries id ≡ None
  pub stays : (new ≡ old) ⊎ ((stored : List ℕ) × IsStoredOf msg stored × (new ≡ with_entries old (entries_beside old.blocks old.places old.entries stored)))

-- What a fetch of a message does: it finds the rope that is held, or it builds one.
abbrev pub Fetches : List ℕ → CacheState → CacheState → ℕ → RopeValue → Type 0
Fetches msg old new id rope = FindsHeld old new id (Some rope) ⊎ Builds msg old new id rope

-- What a fetch does that is refused for want of memory.
abbrev pub LosesFetch : List ℕ → CacheState → CacheState → ℕ → Type 0
LosesFetch msg old new id = LosesHit old new id ⊎ LosesBuild msg old new id

-- No message has two entries, each entry is a stored rope, and there are no more blocks and entries than there may be.
pub record IsCacheState (state : CacheState) : Type 0 where
  pub distinct : IsDistinct nat_eq (map (λ (entry : Entry). entry.id) state.entries)
  pub stored : AllByRecursion (λ (entry : Entry). IsStoredForm entry.stored) state.entries
  pub blocks : sum_by entry_blocks state.entries ≤ state.blocks
  pub places : length state.entries ≤ state.places

-- ---- what sessions ask for

-- a message that a session asks the cache for: its number, and its octets
pub record Asked : Type 0 where
  pub id : ℕ
  pub octets : List ℕ

-- Fetches of these messages, in order and none refused, lead from one state to the other. A rope that is built is some rope of its message; all else is determined.
abbrev pub Fetched : CacheState → List Asked → CacheState → Type 0
Fetched old [] new = new ≡ old
Fetched old (one ∷ asked) new = (mid : CacheState) × (rope : RopeValue) × Fetches one.octets old mid one.id rope × Fetched mid asked new

-- a legacy session asks for what it is shown of a message; an enabled one asks for nothing
abbrev pub asked_by : Mode → (id : ℕ) → (octets : List ℕ) → List Asked
asked_by legacy id octets = (record { id = id; octets = octets }) ∷ []
asked_by enabled id octets = []

-- A legacy session is shown the very rope that a fetch of the message gave. An enabled one leaves the cache alone.
abbrev pub IsFetchedShown : Mode → List ℕ → CacheState → CacheState → ℕ → Shown → Type 0
IsFetchedShown legacy msg old new id (Rope rope) = Fetches msg old new id rope
IsFetchedShown legacy msg old new id (Whole tree) = ⊥
IsFetchedShown enabled msg old new id shown = new ≡ old

-- what the cache loses where a session wasn't shown a message for want of memory
abbrev pub LosesShown : Mode → List ℕ → CacheState → CacheState → ℕ → Type 0
LosesShown legacy msg old new id = LosesFetch msg old new id
LosesShown enabled msg old new id = new ≡ old

-- ---- what fetches leave

-- So many fetches were counted, each as a build or as a hit, up to the greatest value of a count.
pub record HasCounted (fetches : ℕ) (old new : Counts) : Type 0 where
  pub built : ℕ
  pub hits : ℕ
  pub all : built + hits ≡ fetches
  pub built_is : new.built ≡ min (old.built + built) (2 ^ 64 - 1)
  pub hits_is : new.hits ≡ min (old.hits + hits) (2 ^ 64 - 1)

-- the counts can be had
abbrev pub AreCounts : Counts → Type 0
AreCounts counts = (counts.built < 2 ^ 64) × (counts.hits < 2 ^ 64)

-- The stored form was held under this number before, or it is that of a rope of a message of this number that was asked for.
abbrev pub WasHeldOrAsked : CacheState → List Asked → ℕ → List ℕ → Type 0
WasHeldOrAsked old asked id stored =
    (stored_under old.entries id ≡ Some stored) ⊎ ((one : Asked) × Contains asked one × (one.id ≡ id) × IsStoredOf one.octets stored)
