-- A pool of which a thing is given back.
use Rattle.std.proofs.Common.{◌≡◌, ◌≢◌, ℕ, zero, suc, ◌+◌, ◌-◌, ◌*◌, ◌<◌, inl, inr, cond, List, [], ◌∷◌, length, take, drop, set, slice_index, arith, refl, sym, ap, subst, ◌∙◌, Option, Some, None}
use Rattle.std.specs.Prelude.{nat_eq}
use Rattle.std.proofs.lemmas.Bool.{cases_eq}
use Rattle.std.proofs.lemmas.Bool.Decides.{eqb_tells}
use Rattle.std.proofs.lemmas.List.{length-set, length-take-le, get_or-set_same, get_or-set_other, set-get_or}
use Rattle.block_pool.specs.Pool.{needed_blocks, Puts}
use Rattle.block_pool.specs.private.Chains.{StaysInside, IsChain, block_after, along}
use Rattle.block_pool.specs.private.Kept.{IsPool, octets_at, held_from, held_by, len_at}
use Rattle.block_pool.proofs.Sizes.{needed_blocks-some, needed_blocks-room}
use Rattle.block_pool.proofs.Copies.{length-along}
use Rattle.block_pool.proofs.ChainLemmas.{chain_last, chain_stays, along_stays, chain_joined}
use Rattle.block_pool.proofs.HeldLemmas.{held_from-set, held_from-same}
use Rattle.block_pool.proofs.PutLemmas.{puts_blocks, seen}

-- the one for a block of this owner, else the other
abbrev freed : {X : Type 0} → Option ℕ → ℕ → X → X → X
freed None id new old = old
freed (Some other) id new old = cond (nat_eq other id) new old

freed-yes : {X : Type 0} (one : Option ℕ) (id : ℕ) (new old : X) → one ≡ Some id → freed one id new old ≡ new
freed-yes None id new old is = absurd (cc)
freed-yes (Some other) id new old is = elim (eqb_tells other id) [
  | inl same ↦ rw same.0
  | inr differ ↦ let e : other ≡ id = cc in absurd (differ.1 e)
]

freed-no : {X : Type 0} (one : Option ℕ) (id : ℕ) (new old : X) → (one ≡ Some id → ⊥) → freed one id new old ≡ old
freed-no None id new old not = refl
freed-no (Some other) id new old not = elim (eqb_tells other id) [
  | inl same ↦ absurd (not (ap (λ (n : ℕ). Some n) same.1))
  | inr differ ↦ rw differ.0
]

some_apart : (one : Option ℕ) (id other : ℕ) → other ≢ id → one ≡ Some other → one ≡ Some id → ⊥
some_apart one id other differ a b = let e : other ≡ id = cc in differ e

none_apart : (one : Option ℕ) (id : ℕ) → one ≡ None → one ≡ Some id → ⊥
none_apart one id a b = cc

pub len_inside : (lens : List (Option ℕ)) (id len : ℕ) → len_at lens id ≡ Some len → id < length lens
len_inside [] id len is = absurd (cc)
len_inside (one ∷ lens) zero len is = omega arith
len_inside (one ∷ lens) (suc id) len is = let below : id < length lens = len_inside lens id len is in omega arith

pub length-octets_at : (region next : List ℕ) (id len : ℕ) → length region ≡ 4096 * length next → StaysInside next id → length (octets_at region next id len) ≡ len
length-octets_at region next id len whole inside =
    let size = length-along region next id (needed_blocks len) whole inside in
    let room = needed_blocks-room len in
    length-take-le len (along region next id (needed_blocks len)) (omega arith)

module _ (region next : List ℕ) (lens : List (Option ℕ)) (first free : ℕ) (pool : IsPool region next lens first free) (id len : ℕ) (is : len_at lens id ≡ Some len) where
  abbrev last : ℕ
  last = block_after next id (needed_blocks len - 1)

  abbrev after : List ℕ
  after = set next (block_after next id (needed_blocks len - 1)) first

  abbrev owner' : ℕ → Option ℕ
  owner' at = freed (pool.owner at) id None (pool.owner at)

  abbrev rank' : ℕ → ℕ
  rank' at = freed (pool.owner at) id (pool.rank at + free) (pool.rank at)

  mine : IsChain pool.owner pool.rank (Some id) next id (suc (needed_blocks len - 1))
  mine =
      let e : needed_blocks len ≡ suc (needed_blocks len - 1) = omega (arith, needed_blocks-some len) in
      subst (λ (n : ℕ). IsChain pool.owner pool.rank (Some id) next id n) e (pool.things id len is)

  ends : (last < length next) × (pool.owner last ≡ Some id) × (pool.rank last ≡ 0)
  ends = chain_last pool.owner pool.rank (Some id) next id (needed_blocks len - 1) mine

  -- a block of another owner goes on as it did
  goes_on : (at : ℕ) → (pool.owner at ≡ Some id → ⊥) → slice_index after at ≡ slice_index next at
  goes_on at not = get_or-set_other next last at first 0 (λ same. not (ap pool.owner same ∙ ends.1))

  free_still : IsChain owner' rank' None after first free
  free_still =
      chain_stays pool.owner pool.rank None owner' rank' None next after (length-set next last first) first free pool.free_chain
      (λ at none below. (
        freed-no (pool.owner at) id None (pool.owner at) (none_apart (pool.owner at) id none) ∙ none,
        freed-no (pool.owner at) id (pool.rank at + free) (pool.rank at) (none_apart (pool.owner at) id none),
        goes_on at (none_apart (pool.owner at) id none),
      ))

  free_now : IsChain owner' rank' None after id (free + needed_blocks len)
  free_now =
      let e : suc (needed_blocks len - 1 + free) ≡ free + needed_blocks len = omega (arith, needed_blocks-some len) in
      subst (λ (n : ℕ). IsChain owner' rank' None after id n) e (
      chain_joined pool.owner pool.rank (Some id) owner' rank' None next last first free ends.0 ends.2
      (λ at owned. (
        freed-yes (pool.owner at) id None (pool.owner at) owned,
        freed-yes (pool.owner at) id (pool.rank at + free) (pool.rank at) owned,
      ))
      free_still id (needed_blocks len - 1) (needed_blocks len - 1 + free) refl mine refl
      )

  others : (other size : ℕ) → other ≢ id → len_at lens other ≡ Some size → IsChain owner' rank' (Some other) after other (needed_blocks size)
  others other size differ other_is =
      chain_stays pool.owner pool.rank (Some other) owner' rank' (Some other) next after (length-set next last first) other (needed_blocks size) (pool.things other size other_is)
      (λ at owned below.
      let not = some_apart (pool.owner at) id other differ owned in (
        freed-no (pool.owner at) id None (pool.owner at) not ∙ owned,
        freed-no (pool.owner at) id (pool.rank at + free) (pool.rank at) not,
        goes_on at not,
      ))

  kept : (other size : ℕ) → other ≢ id → len_at lens other ≡ Some size → octets_at region after other size ≡ octets_at region next other size
  kept other size differ other_is =
      ap (take size) (
      along_stays pool.owner pool.rank (Some other) next after region region other (needed_blocks size) (pool.things other size other_is)
      (λ at inside owned. (refl, goes_on at (some_apart (pool.owner at) id other differ owned)))
      )

  -- what begins at another block still does
  cleared_is : (other size : ℕ) → len_at (set lens id None) other ≡ Some size → (other ≢ id) × (len_at lens other ≡ Some size)
  cleared_is other size other_is = elim (cases_eq other id) [
    | inl same ↦
        let none : len_at (set lens id None) other ≡ None =
        ap (len_at (set lens id None)) same ∙ get_or-set_same lens id None None (len_inside lens id len is) in
        absurd (none_apart (len_at (set lens id None) other) size none other_is)
    | inr differ ↦ (differ, sym (get_or-set_other lens id other None None differ) ∙ other_is)
  ]

  pub give_tells : Puts (seen region after (set lens id None)) (seen region next lens) id (octets_at region next id len)
  give_tells =
      let within = len_inside lens id len is in
      let place : id ≡ 0 + id = omega arith in
      let before = octets_at region next in
      let same : held_by region after (set lens id None) ≡ held_from before 0 (set lens id None) =
      held_from-same before (octets_at region after) 0 (set lens id None)
      (λ at other size at_is at_len.
      let e : at ≡ other = omega (arith, at_is) in
      let was = cleared_is other size (ap (len_at (set lens id None)) (sym e) ∙ at_len) in
      kept other size was.0 was.1) in
      let full : set lens id (Some len) ≡ lens = ap (set lens id) (sym is) ∙ set-get_or lens id None in
      record {
        front = held_from before 0 (take id lens);
        back = held_from before (suc id) (drop (suc id) lens);
        was = same ∙ held_from-set before 0 lens id id None within place;
        becomes = ap (held_from before 0) (sym full) ∙ held_from-set before 0 lens id id (Some len) within place;
        same_blocks = sym (length-set lens id None);
      }

  pub pool_after_give : IsPool region after (set lens id None) id (free + needed_blocks len)
  pool_after_give =
      let within : id < length lens = len_inside lens id len is in
      let len_is = length-set lens id None in
      let links_is = length-set next last first in
      let links : length next ≡ length lens = pool.links in
      let whole : length region ≡ 4096 * length lens = pool.octets in
      let size : length (octets_at region next id len) ≡ len =
      length-octets_at region next id len (omega arith) (record { begins = omega arith; goes_on = pool.inside.goes_on }) in
      let more = puts_blocks _ _ id (octets_at region next id len) give_tells in
      let blocks : needed_blocks (length (octets_at region next id len)) ≡ needed_blocks len = ap needed_blocks size in
      let begins : first < length next = pool.inside.begins in
      let last_inside : last < length next = ends.0 in
      record {
        few = omega (arith, pool.few);
        links = omega arith;
        octets = omega arith;
        inside = record {
          begins = omega arith;
          goes_on = λ at below. elim (cases_eq at last) [
            | inl same ↦
                let e : slice_index after at ≡ first = ap (slice_index after) same ∙ get_or-set_same next last first 0 last_inside in
                omega (arith, e)
            | inr differ ↦
                let e : slice_index after at ≡ slice_index next at = get_or-set_other next last at first 0 differ in
                let inside : slice_index next at < length next = pool.inside.goes_on at (omega arith) in
                omega (arith, e)
          ];
        };
        owner = owner';
        rank = rank';
        things = λ other size other_is.
            let was = cleared_is other size other_is in
            others other size was.0 was.1;
        free_chain = free_now;
        counted = omega (arith, pool.counted);
      }
