-- What a pool holds: things of octets, each under its id, in whole blocks of its own.
use Rattle.std.specs.Prelude.{◌≡◌, ◌≢◌, ℕ, ◌+◌, ◌-◌, ◌/◌, ◌≤◌, max, List, ◌∷◌, ◌++◌, length, sum_by, Contains, AllPairs}

-- a thing that is held: its id and its octets
pub record Held : Type 0 where
  pub id : ℕ
  pub octets : List ℕ

-- the things that are held, and how many blocks there are
pub record PoolState : Type 0 where
  pub held : List Held
  pub blocks : ℕ

-- the blocks of 4,096 octets that so many octets take, at least one
unfoldable pub needed_blocks : ℕ → ℕ
needed_blocks count = max 1 ((count + 4095) / 4096)

-- the blocks that belong to a thing
abbrev pub blocks_of : Held → ℕ
blocks_of one = needed_blocks (length one.octets)

-- the blocks that belong to all of them
abbrev pub blocks_in_use : List Held → ℕ
blocks_in_use held = sum_by blocks_of held

-- the blocks that belong to none
abbrev pub free_blocks : PoolState → ℕ
free_blocks state = state.blocks - blocks_in_use state.held

-- these octets are held under this id
abbrev pub HoldsUnder : PoolState → ℕ → List ℕ → Type 0
HoldsUnder state id octets = Contains state.held (record { id = id; octets = octets })

-- an id is live where something is held under it
abbrev pub IsHeldUnder : PoolState → ℕ → Type 0
IsHeldUnder state id = (octets : List ℕ) × HoldsUnder state id octets

-- what was held is held still, and these octets under this id
pub record Puts (old new : PoolState) (id : ℕ) (octets : List ℕ) : Type 0 where
  pub front : List Held
  pub back : List Held
  pub was : old.held ≡ front ++ back
  pub becomes : new.held ≡ front ++ (record { id = id; octets = octets }) ∷ back
  pub same_blocks : new.blocks ≡ old.blocks

-- what was held is held still, but for what was held under this id
abbrev pub TakesBack : PoolState → PoolState → ℕ → Type 0
TakesBack old new id = (octets : List ℕ) × Puts new old id octets

-- no two things have one id, and no more blocks are in use than there are
pub record IsAccounted (state : PoolState) : Type 0 where
  pub distinct : AllPairs (λ one other. one.id ≢ other.id) state.held
  pub within : blocks_in_use state.held ≤ state.blocks
