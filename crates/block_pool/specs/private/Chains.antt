-- Chains of blocks: the links from block to block, and the octets along them.
use Rattle.std.specs.Prelude.{◌≡◌, ℕ, zero, suc, ◌+◌, ◌*◌, ◌<◌, List, [], ◌++◌, length, take, drop, slice_index, Option}

-- a first block, and the block after each block, are blocks
pub record StaysInside (next : List ℕ) (first : ℕ) : Type 0 where
  pub begins : first < length next
  pub goes_on : (block : ℕ) → block < length next → slice_index next block < length next

-- each block but the last goes on to the next one
abbrev pub GoesInOrder : List ℕ → Type 0
GoesInOrder next = (block : ℕ) → block + 1 < length next → slice_index next block ≡ block + 1

-- the block so many steps after a block
abbrev pub block_after : List ℕ → ℕ → ℕ → ℕ
block_after next block zero = block
block_after next block (suc steps) = block_after next (slice_index next block) steps

-- From this block on, the blocks of a chain of so many have this owner (None: they are free), and the rank of each is the number
-- of those after it. So no block stands in the chains of two owners, nor twice in one.
abbrev pub IsChain : (ℕ → Option ℕ) → (ℕ → ℕ) → Option ℕ → List ℕ → ℕ → ℕ → Type 0
IsChain owner rank whose next block zero = Unit {0}
IsChain owner rank whose next block (suc count) =
    (block < length next) × (owner block ≡ whose) × (rank block ≡ count) × IsChain owner rank whose next (slice_index next block) count

-- the octets of a block
unfoldable pub block_at : List ℕ → ℕ → List ℕ
block_at region block = take 4096 (drop (4096 * block) region)

-- the octets of a chain of so many blocks
abbrev pub along : List ℕ → List ℕ → ℕ → ℕ → List ℕ
along region next block zero = []
along region next block (suc count) = block_at region block ++ along region next (slice_index next block) count

-- the region with these octets from the beginning of a block on
unfoldable pub written : List ℕ → ℕ → List ℕ → List ℕ
written region block piece = take (4096 * block) region ++ (piece ++ drop (length piece) (drop (4096 * block) region))

-- the region with these octets along a chain of so many blocks
abbrev pub filled : List ℕ → List ℕ → ℕ → List ℕ → ℕ → List ℕ
filled region next block octets zero = region
filled region next block octets (suc count) =
    filled (written region block (take 4096 octets)) next (slice_index next block) (drop 4096 octets) count
