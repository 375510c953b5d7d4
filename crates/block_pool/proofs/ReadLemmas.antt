-- What is read of a pool.
use Rattle.std.proofs.Common.{◌≡◌, ℕ, ◌+◌, ◌-◌, ◌*◌, ◌/◌, ◌%◌, ◌<◌, ◌≤◌, min, List, length, take, drop, arith, sym, ap, subst, ◌∙◌, Option, Some, None, slice_index_or}
use Rattle.std.proofs.lemmas.List.{take-take, drop-take, get_or_read}
use Rattle.block_pool.specs.Pool.{PoolState, HoldsUnder, IsHeldUnder, IsAccounted, needed_blocks}
use Rattle.block_pool.specs.private.Chains.{StaysInside, block_after, along}
use Rattle.block_pool.specs.private.Kept.{IsPool, octets_at, len_at}
use Rattle.block_pool.proofs.Sizes.{needed_blocks-room}
use Rattle.block_pool.proofs.Copies.{drop-along}
use Rattle.block_pool.proofs.HeldLemmas.{found, held_from-distinct}
use Rattle.block_pool.proofs.PutLemmas.{seen}
use Rattle.block_pool.proofs.GiveLemmas.{len_inside, length-octets_at}

-- where the octets of an id are kept
pub record IsKeptUnder (region next : List ℕ) (lens : List (Option ℕ)) (id : ℕ) (octets : List ℕ) : Type 0 where
  pub len : ℕ
  pub len_is : len_at lens id ≡ Some len
  pub said : octets ≡ octets_at region next id len
  pub size_is : length octets ≡ len
  pub within : id < length lens
  pub inside : StaysInside next id

pub kept_under : (region next : List ℕ) (lens : List (Option ℕ)) (first free : ℕ) → IsPool region next lens first free
    → (state : PoolState) → seen region next lens ≡ state → (id : ℕ) (octets : List ℕ) → HoldsUnder state id octets
    → IsKeptUnder region next lens id octets
kept_under region next lens first free pool state is id octets holds =
    let one = found (octets_at region next) 0 lens id octets (subst (λ (s : PoolState). HoldsUnder s id octets) (sym is) holds) in
    let at : one.at ≡ id = omega (arith, one.place) in
    let len_is : len_at lens id ≡ Some one.len = ap (len_at lens) (sym at) ∙ one.len_is in
    let within : id < length lens = len_inside lens id one.len len_is in
    let links : length next ≡ length lens = pool.links in
    let inside : StaysInside next id = record { begins = omega arith; goes_on = pool.inside.goes_on } in
    record {
      len = one.len;
      len_is = len_is;
      said = one.said;
      size_is = ap length one.said ∙ length-octets_at region next id one.len (omega (arith, pool.octets)) inside;
      within = within;
      inside = inside;
    }

-- the same where something is held under the id
pub kept_live : (region next : List ℕ) (lens : List (Option ℕ)) (first free : ℕ) → IsPool region next lens first free
    → (state : PoolState) → seen region next lens ≡ state → (id : ℕ) (live : IsHeldUnder state id)
    → IsKeptUnder region next lens id live.0
kept_live region next lens first free pool state is id live = kept_under region next lens first free pool state is id live.0 live.1

-- octets that are copied out of a chain are those of the id
pub read_is : (region next : List ℕ) (id len at count : ℕ) → length region ≡ 4096 * length next → StaysInside next id → at < len → count ≤ len - at
    → (copied : List ℕ)
    → ((blocks : ℕ) → at % 4096 + count ≤ 4096 * blocks → copied ≡ take count (drop (at % 4096) (along region next (block_after next id (at / 4096)) blocks)))
    → copied ≡ take count (drop at (octets_at region next id len))
read_is region next id len at count whole inside before within copied said =
    let room = needed_blocks-room len in
    let parts : at ≡ 4096 * (at / 4096) + at % 4096 = omega arith in
    let rest = needed_blocks len - at / 4096 in
    let blocks : needed_blocks len ≡ at / 4096 + (needed_blocks len - at / 4096) = omega arith in
    let enough : at % 4096 + count ≤ 4096 * (needed_blocks len - at / 4096) = omega arith in
    let all = along region next id (needed_blocks len) in
    let cut : drop at (take len all) ≡ take (len - at) (drop at all) =
    let e : len ≡ at + (len - at) = omega arith in
    ap (λ (k : ℕ). drop at (take k all)) e ∙ drop-take at (len - at) all in
    let moved : drop at all ≡ drop (at % 4096) (along region next (block_after next id (at / 4096)) (needed_blocks len - at / 4096)) =
    ap (λ (k : ℕ). drop k all) parts
    ∙ ap (λ (n : ℕ). drop (4096 * (at / 4096) + at % 4096) (along region next id n)) blocks
    ∙ drop-along region next id (at / 4096) (needed_blocks len - at / 4096) (at % 4096) whole inside in
    said (needed_blocks len - at / 4096) enough
    ∙ sym (ap (take count) cut ∙ take-take count (len - at) (drop at all) within ∙ ap (take count) moved)

pub read_done : (region next : List ℕ) (lens : List (Option ℕ)) (first free : ℕ) → IsPool region next lens first free
    → (state : PoolState) → seen region next lens ≡ state → (id : ℕ) (octets : List ℕ) → HoldsUnder state id octets
    → (at room count : ℕ) → at < length octets → count ≡ min room (length octets - at)
    → (into copied : List ℕ) → length into ≡ count
    → ((blocks : ℕ) → at % 4096 + length into ≤ 4096 * blocks
    → copied ≡ take (length into) (drop (at % 4096) (along region next (block_after next id (at / 4096)) blocks)))
    → copied ≡ take count (drop at octets)
read_done region next lens first free pool state is id octets holds at room count before count_is into copied size said =
    let kept = kept_under region next lens first free pool state is id octets holds in
    let len : length octets ≡ kept.len = kept.size_is in
    read_is region next id kept.len at count (omega (arith, pool.octets, pool.links)) kept.inside (omega arith) (omega arith) copied
    (λ blocks enough. said blocks (omega arith) ∙ ap (λ (n : ℕ). take n (drop (at % 4096) (along region next (block_after next id (at / 4096)) blocks))) size)
    ∙ ap (λ (zs : List ℕ). take count (drop at zs)) (sym kept.said)

-- what stands at a place, by a read of it
pub read_len : (lens : List (Option ℕ)) (id : ℕ) (one other : Option ℕ) → id < length lens → one ≡ slice_index_or lens id one → one ≡ other → len_at lens id ≡ other
read_len lens id one other within read is = sym (get_or_read lens id one within read None) ∙ is

-- no two things have one id, and the free blocks are counted
pub accounted : (region next : List ℕ) (lens : List (Option ℕ)) (first free : ℕ) → IsPool region next lens first free
    → (state : PoolState) → seen region next lens ≡ state → IsAccounted state
accounted region next lens first free pool state is =
    rw (← is) (record { distinct = held_from-distinct (octets_at region next) 0 lens; within = omega (arith, pool.counted) })
