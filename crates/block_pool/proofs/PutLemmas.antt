-- A pool in which a thing is put.
use Rattle.std.proofs.Common.{◌≡◌, ℕ, zero, suc, ◌+◌, ◌-◌, ◌*◌, ◌<◌, ◌≤◌, inl, inr, cond, List, ◌∷◌, ◌++◌, length, take, drop, set, slice_index, arith, refl, sym, ap, ◌∙◌, Option, Some, None}
use Rattle.std.specs.Prelude.{nat_le}
use Rattle.std.proofs.lemmas.Bool.{cases_eq}
use Rattle.std.proofs.lemmas.Bool.Decides.{leb_tells}
use Rattle.std.proofs.lemmas.List.{length-set, get_or-set_same, get_or-set_other, set-get_or}
use Rattle.std.proofs.lemmas.List.Sums.{sum_by-append, sum_by-cons}
use Rattle.block_pool.specs.Pool.{Held, PoolState, needed_blocks, blocks_of, blocks_in_use, IsHeldUnder, Puts}
use Rattle.block_pool.specs.private.Chains.{StaysInside, IsChain, block_after, filled}
use Rattle.block_pool.specs.private.Kept.{IsPool, octets_at, held_from, held_by, len_at}
use Rattle.block_pool.proofs.Sizes.{needed_blocks-some, needed_blocks-room}
use Rattle.block_pool.proofs.Copies.{stays}
use Rattle.block_pool.proofs.ChainLemmas.{chain_first, chain_stays, along_stays, chain_taken, chain_rest}
use Rattle.block_pool.proofs.FillLemmas.{length-filled, block_at-filled, along_filled}
use Rattle.block_pool.proofs.HeldLemmas.{found, held_from-set, held_from-same}

pub stays_after : (next : List ℕ) (block steps : ℕ) → StaysInside next block → StaysInside next (block_after next block steps)
stays_after next block zero inside = inside
stays_after next block (suc steps) inside = stays_after next (slice_index next block) steps (stays next block inside)

-- a thing more takes its blocks
pub puts_blocks : (old new : PoolState) (id : ℕ) (octets : List ℕ) → Puts old new id octets → blocks_in_use new.held ≡ blocks_in_use old.held + needed_blocks (length octets)
puts_blocks old new id octets puts =
    let one : Held = record { id = id; octets = octets } in
    let a = sum_by-append blocks_of puts.front (one ∷ puts.back) in
    let b = sum_by-cons blocks_of one puts.back in
    let d = sum_by-append blocks_of puts.front puts.back in
    rw (puts.becomes, puts.was) (omega (arith, a, b, d))

pub none_unless : (one : Option ℕ) → ((len : ℕ) → one ≡ Some len → ⊥) → one ≡ None
none_unless None not = refl
none_unless (Some len) not = absurd (not len refl)

-- the one for a free block of at least this rank, else the other
abbrev taken : {X : Type 0} → Option ℕ → ℕ → ℕ → X → X → X
taken None low rank new old = cond (nat_le low rank) new old
taken (Some id) low rank new old = old

taken-yes : {X : Type 0} (one : Option ℕ) (low rank : ℕ) (new old : X) → one ≡ None → low ≤ rank → taken one low rank new old ≡ new
taken-yes None low rank new old is above = elim (leb_tells low rank) [
  | inl holds ↦ rw holds.0
  | inr fails ↦ absurd (omega (arith, fails.1))
]
taken-yes (Some id) low rank new old is above = absurd (cc)

taken-owned : {X : Type 0} (one : Option ℕ) (low rank id : ℕ) (new old : X) → one ≡ Some id → taken one low rank new old ≡ old
taken-owned None low rank id new old is = absurd (cc)
taken-owned (Some other) low rank id new old is = refl

taken-low : {X : Type 0} (one : Option ℕ) (low rank : ℕ) (new old : X) → rank < low → taken one low rank new old ≡ old
taken-low None low rank new old below = elim (leb_tells low rank) [
  | inl holds ↦ absurd (omega (arith, holds.1))
  | inr fails ↦ rw fails.0
]
taken-low (Some other) low rank new old below = refl

-- the pool as it is seen
abbrev pub seen : List ℕ → List ℕ → List (Option ℕ) → PoolState
seen region next lens = record { held = held_by region next lens; blocks = length lens }

module _ (region next : List ℕ) (lens : List (Option ℕ)) (first free : ℕ) (pool : IsPool region next lens first free) (octets : List ℕ) where
  begins : needed_blocks (length octets) ≤ free → (first < length next) × (pool.owner first ≡ None)
  begins room = chain_first pool.owner pool.rank None next first free (omega (arith, needed_blocks-some (length octets))) pool.free_chain

  not_held : needed_blocks (length octets) ≤ free → len_at lens first ≡ None
  not_held room =
      none_unless (len_at lens first) (λ len is.
      let owned : pool.owner first ≡ Some first =
      (chain_first pool.owner pool.rank (Some first) next first (needed_blocks len) (needed_blocks-some len) (pool.things first len is)).1 in
      let free_is : pool.owner first ≡ None = (begins room).1 in
      cc)

  pub put_fresh : needed_blocks (length octets) ≤ free → ¬ IsHeldUnder (seen region next lens) first
  put_fresh room live =
      let one = found (octets_at region next) 0 lens first live.0 live.1 in
      let at : first ≡ one.at = omega (arith, one.place) in
      let is : len_at lens one.at ≡ Some one.len = one.len_is in
      let none : len_at lens one.at ≡ None = ap (len_at lens) (sym at) ∙ not_held room in
      cc

  abbrev owner' : ℕ → Option ℕ
  owner' at = taken (pool.owner at) (free - needed_blocks (length octets)) (pool.rank at) (Some first) (pool.owner at)

  abbrev rank' : ℕ → ℕ
  rank' at = taken (pool.owner at) (free - needed_blocks (length octets)) (pool.rank at) (pool.rank at - (free - needed_blocks (length octets))) (pool.rank at)

  mine : needed_blocks (length octets) ≤ free → IsChain owner' rank' (Some first) next first (needed_blocks (length octets))
  mine room =
      chain_taken pool.owner pool.rank None owner' rank' (Some first) next (free - needed_blocks (length octets)) first (needed_blocks (length octets)) free
      (omega arith) pool.free_chain
      (λ at is above. (taken-yes (pool.owner at) _ (pool.rank at) _ _ is above, taken-yes (pool.owner at) _ (pool.rank at) _ _ is above))

  left : needed_blocks (length octets) ≤ free → IsChain owner' rank' None next (block_after next first (needed_blocks (length octets))) (free - needed_blocks (length octets))
  left room =
      chain_stays pool.owner pool.rank None owner' rank' None next next refl (block_after next first (needed_blocks (length octets))) (free - needed_blocks (length octets))
      (chain_rest pool.owner pool.rank None next (free - needed_blocks (length octets)) first (needed_blocks (length octets)) free (omega arith) pool.free_chain)
      (λ at is below. (taken-low (pool.owner at) _ (pool.rank at) _ _ below ∙ is, taken-low (pool.owner at) _ (pool.rank at) _ _ below, refl))

  others : (id len : ℕ) → len_at lens id ≡ Some len → IsChain owner' rank' (Some id) next id (needed_blocks len)
  others id len is =
      chain_stays pool.owner pool.rank (Some id) owner' rank' (Some id) next next refl id (needed_blocks len) (pool.things id len is)
      (λ at owned below. (taken-owned (pool.owner at) _ (pool.rank at) id _ _ owned ∙ owned, taken-owned (pool.owner at) _ (pool.rank at) id _ _ owned, refl))

  whole : length region ≡ 4096 * length next
  whole = omega (arith, pool.links, pool.octets)

  -- what is held already is as it was
  kept : needed_blocks (length octets) ≤ free → (id len : ℕ) → len_at lens id ≡ Some len
      → octets_at (filled region next first octets (needed_blocks (length octets))) next id len ≡ octets_at region next id len
  kept room id len is =
      ap (take len) (
      along_stays owner' rank' (Some id) next next region (filled region next first octets (needed_blocks (length octets))) id (needed_blocks len) (others id len is)
      (λ at inside owned. (
        block_at-filled owner' rank' (Some first) next region first octets (needed_blocks (length octets)) (mine room) whole at
            (λ owned_first. absurd (other_thing room id len is (owner' at) owned owned_first)),
        refl,
      ))
      )
    where
      other_thing : needed_blocks (length octets) ≤ free → (id len : ℕ) → len_at lens id ≡ Some len → (one : Option ℕ) → one ≡ Some id → one ≡ Some first → ⊥
      other_thing room id len is one owned owned_first =
          let same : id ≡ first = cc in
          let none : len_at lens first ≡ None = not_held room in
          let some : len_at lens first ≡ Some len = ap (len_at lens) (sym same) ∙ is in
          cc

  pub put_tells : needed_blocks (length octets) ≤ free
      → Puts (seen region next lens) (seen (filled region next first octets (needed_blocks (length octets))) next (set lens first (Some (length octets)))) first octets
  put_tells room =
      let after = octets_at (filled region next first octets (needed_blocks (length octets))) next in
      let inside : first < length lens = omega (arith, pool.links, (begins room).0) in
      let place : first ≡ 0 + first = omega arith in
      let same : held_from after 0 lens ≡ held_by region next lens =
      held_from-same (octets_at region next) after 0 lens
      (λ at id len at_is is. let e : at ≡ id = omega (arith, at_is) in kept room id len (ap (len_at lens) (sym e) ∙ is)) in
      let cleared : set lens first None ≡ lens = ap (set lens first) (sym (not_held room)) ∙ set-get_or lens first None in
      let own : after first (length octets) ≡ octets =
      along_filled owner' rank' (Some first) next region first octets (needed_blocks (length octets)) (mine room) whole (needed_blocks-room (length octets)) in
      record {
        front = held_from after 0 (take first lens);
        back = held_from after (suc first) (drop (suc first) lens);
        was = sym same ∙ ap (held_from after 0) (sym cleared) ∙ held_from-set after 0 lens first first None inside place;
        becomes =
            held_from-set after 0 lens first first (Some (length octets)) inside place
            ∙ ap (λ (zs : List ℕ). held_from after 0 (take first lens) ++ ((record { id = first; octets = zs }) ∷ held_from after (suc first) (drop (suc first) lens))) own;
        same_blocks = length-set lens first (Some (length octets));
      }

  pub pool_after_put : needed_blocks (length octets) ≤ free
      → IsPool (filled region next first octets (needed_blocks (length octets))) next (set lens first (Some (length octets)))
      (block_after next first (needed_blocks (length octets))) (free - needed_blocks (length octets))
  pool_after_put room =
      let inside : first < length lens = omega (arith, pool.links, (begins room).0) in
      let len_is = length-set lens first (Some (length octets)) in
      let filled_len = length-filled owner' rank' (Some first) next region first octets (needed_blocks (length octets)) (mine room) whole in
      let more = puts_blocks _ _ first octets (put_tells room) in
      record {
        few = omega (arith, pool.few);
        links = omega (arith, pool.links);
        octets = omega (arith, pool.octets);
        inside = stays_after next first (needed_blocks (length octets)) pool.inside;
        owner = owner';
        rank = rank';
        things = λ id len is. elim (cases_eq id first) [
          | inl e ↦
              let put : Some (length octets) ≡ Some len =
              sym (get_or-set_same lens first (Some (length octets)) None inside)
              ∙ ap (len_at (set lens first (Some (length octets)))) (sym e) ∙ is in
              let size : length octets ≡ len = cc in
              rw (e, ← size) (mine room)
          | inr differ ↦ others id len (sym (get_or-set_other lens first id (Some (length octets)) None differ) ∙ is)
        ];
        free_chain = left room;
        counted = omega (arith, pool.counted);
      }

-- what a call of `put` that answers an id did
pub record HasPut (state : PoolState) (region next : List ℕ) (lens : List (Option ℕ)) (first following free : ℕ) (octets : List ℕ) : Type 0 where
  pub sound : IsPool region next (set lens first (Some (length octets))) following free
  pub puts : Puts state (seen region next (set lens first (Some (length octets)))) first octets
  pub fresh : ¬ IsHeldUnder state first

pub put_done : (region next : List ℕ) (lens : List (Option ℕ)) (first free : ℕ) → IsPool region next lens first free
    → (state : PoolState) → seen region next lens ≡ state → (octets : List ℕ) (count : ℕ) → count ≡ needed_blocks (length octets) → count ≤ free
    → (now : List ℕ) → now ≡ filled region next first octets (needed_blocks (length octets))
    → (following : ℕ) → following ≡ block_after next first (needed_blocks (length octets))
    → HasPut state now next lens first following (free - count) octets
put_done region next lens first free pool state is octets count count_is room now now_is following following_is =
    let fits : needed_blocks (length octets) ≤ free = omega arith in
    rw (← is, now_is, following_is, count_is) (record {
      sound = pool_after_put region next lens first free pool octets fits;
      puts = put_tells region next lens first free pool octets fits;
      fresh = put_fresh region next lens first free pool octets fits;
    })
