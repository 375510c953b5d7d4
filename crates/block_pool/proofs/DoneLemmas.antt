-- What a call of `give_back` did.
use Rattle.std.proofs.Common.{◌≡◌, ℕ, ◌+◌, ◌-◌, ◌≤◌, List, length, set, arith, sym, ap, ◌∙◌, Option, None}
use Rattle.std.proofs.lemmas.List.{length-set}
use Rattle.block_pool.specs.Pool.{PoolState, HoldsUnder, needed_blocks, Puts}
use Rattle.block_pool.specs.private.Chains.{block_after}
use Rattle.block_pool.specs.private.Kept.{IsPool, octets_at}
use Rattle.block_pool.proofs.PutLemmas.{seen}
use Rattle.block_pool.proofs.GiveLemmas.{give_tells, pool_after_give}
use Rattle.block_pool.proofs.ReadLemmas.{IsKeptUnder, kept_under}

pub record HasGiven (state : PoolState) (region next : List ℕ) (lens : List (Option ℕ)) (id free : ℕ) (octets : List ℕ) : Type 0 where
  pub sound : IsPool region next (set lens id None) id free
  pub gives : Puts (seen region next (set lens id None)) state id octets
  pub few : free ≤ 65536

given_under : (region next : List ℕ) (lens : List (Option ℕ)) (first free : ℕ) → IsPool region next lens first free
    → (id : ℕ) (octets : List ℕ) (kept : IsKeptUnder region next lens id octets)
    → HasGiven (seen region next lens) region (set next (block_after next id (needed_blocks kept.len - 1)) first) lens id (free + needed_blocks kept.len) octets
given_under region next lens first free pool id octets kept =
    let sound = pool_after_give region next lens first free pool id kept.len kept.len_is in
    let same : octets_at region next id kept.len ≡ octets = sym kept.said in
    record {
      sound = sound;
      gives = rw same at (give_tells region next lens first free pool id kept.len kept.len_is);
      few = omega (arith, sound.counted, pool.few, length-set lens id None);
    }

pub give_done : (region next : List ℕ) (lens : List (Option ℕ)) (first free : ℕ) → IsPool region next lens first free
    → (state : PoolState) → seen region next lens ≡ state → (id : ℕ) (octets : List ℕ) → HoldsUnder state id octets
    → (count : ℕ) → count ≡ needed_blocks (length octets) → (last : ℕ) → last ≡ block_after next id (count - 1)
    → HasGiven state region (set next last first) lens id (free + count) octets
give_done region next lens first free pool state is id octets holds count count_is last last_is =
    let kept = kept_under region next lens first free pool state is id octets holds in
    let blocks : count ≡ needed_blocks kept.len = count_is ∙ ap needed_blocks kept.size_is in
    let at : last ≡ block_after next id (needed_blocks kept.len - 1) = last_is ∙ ap (λ (n : ℕ). block_after next id (n - 1)) blocks in
    moved region next lens first free state is id octets count last (needed_blocks kept.len) blocks at
    (given_under region next lens first free pool id octets kept)
  where
    moved : (region next : List ℕ) (lens : List (Option ℕ)) (first free : ℕ) (state : PoolState) → seen region next lens ≡ state → (id : ℕ) (octets : List ℕ)
        (count last blocks : ℕ) → count ≡ blocks → last ≡ block_after next id (blocks - 1)
        → HasGiven (seen region next lens) region (set next (block_after next id (blocks - 1)) first) lens id (free + blocks) octets
        → HasGiven state region (set next last first) lens id (free + count) octets
    moved region next lens first free state is id octets count last blocks count_is last_is given = rw (← is, last_is, count_is) given
