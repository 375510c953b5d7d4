-- What the fields of a pool hold, and what is true of them.
use Rattle.std.specs.Prelude.{◌≡◌, ℕ, suc, ◌+◌, ◌*◌, ◌≤◌, List, [], ◌∷◌, length, take, Option, Some, None, slice_index_or}
use Rattle.block_pool.specs.Pool.{Held, needed_blocks, blocks_in_use}
use Rattle.block_pool.specs.private.Chains.{StaysInside, IsChain, along}

-- the octets of a thing, by its first block and its length
abbrev pub octets_at : List ℕ → List ℕ → ℕ → ℕ → List ℕ
octets_at region next id len = take len (along region next id (needed_blocks len))

-- what is held, by the length of what begins at each block from this one on
abbrev pub held_from : (ℕ → ℕ → List ℕ) → ℕ → List (Option ℕ) → List Held
held_from octets_of id [] = []
held_from octets_of id (None ∷ lens) = held_from octets_of (suc id) lens
held_from octets_of id (Some len ∷ lens) = (record { id = id; octets = octets_of id len }) ∷ held_from octets_of (suc id) lens

-- what a pool of these fields holds
abbrev pub held_by : List ℕ → List ℕ → List (Option ℕ) → List Held
held_by region next lens = held_from (octets_at region next) 0 lens

-- the length of what begins at this block, or None
abbrev pub len_at : List (Option ℕ) → ℕ → Option ℕ
len_at lens id = slice_index_or lens id None

-- Each block belongs to one thing, whose id is its first block, or is free.
pub record IsPool (region next : List ℕ) (lens : List (Option ℕ)) (first_free free : ℕ) : Type 0 where
  pub few : length lens ≤ 65536
  pub links : length next ≡ length lens
  pub octets : length region ≡ 4096 * length lens
  pub inside : StaysInside next first_free
  pub owner : ℕ → Option ℕ
  pub rank : ℕ → ℕ
  pub things : (id len : ℕ) → len_at lens id ≡ Some len → IsChain owner rank (Some id) next id (needed_blocks len)
  pub free_chain : IsChain owner rank None next first_free free
  pub counted : free + blocks_in_use (held_by region next lens) ≡ length lens
