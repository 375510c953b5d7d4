-- Which of the first entries there is room for.
use Rattle.std.proofs.Common.{◌≡◌, ℕ, ◌+◌, ◌-◌, ◌<◌, ◌≤◌, List, [], ◌∷◌, ◌++◌, length, take, get_or, Bool, true, false, ◌&&◌, if◌then◌else◌, nat_eq, nat_le, nat_lt, sum_by, Option, Some, None, arith, refl, sym, ap, subst, ◌∙◌, ◌⊎◌, inl, inr}
use Rattle.std.proofs.lemmas.List.{length-map, take_more, take_all}
use Rattle.std.proofs.lemmas.List.Sums.{sum_by-cons}
use Rattle.std.proofs.lemmas.Bool.{le-leb, lt-leb}
use Rattle.std.proofs.lemmas.Bool.Decides.{leb_tells}
use Rattle.block_pool.specs.Pool.{PoolState, blocks_in_use, free_blocks, needed_blocks}
use Rattle.surrogate_cache.specs.Caching.{Entry, entry_blocks, entries_within, entries_beside, entries_built, stored_under}
use Rattle.surrogate_cache.specs.private.Kept.{entry_at, entries_at, IsKept}

-- there are blocks and a place for the first entry, or not
pub record HasRoomFor (blocks places : ℕ) (entry : Entry) : Type 0 where
  pub blocks_left : entry_blocks entry ≤ blocks
  pub place_left : 0 < places

pub first_fits : (blocks places : ℕ) (entry : Entry) → ((nat_le (entry_blocks entry) blocks && nat_lt 0 places ≡ true) × HasRoomFor blocks places entry)
    ⊎ ((nat_le (entry_blocks entry) blocks && nat_lt 0 places ≡ false) × (HasRoomFor blocks places entry → ⊥))
first_fits blocks places entry =
    elim (leb_tells (entry_blocks entry) blocks) [
      | inl fits ↦ elim (leb_tells 1 places) [
        | inl place ↦ inl (rw (fits.0, place.0) refl, record { blocks_left = fits.1; place_left = place.1 })
        | inr none ↦ inr (rw (fits.0, none.0) refl, λ room. let left = room.place_left in omega (arith, none.1))
      ]
      | inr none ↦ inr (rw none.0 refl, λ room. let left = room.blocks_left in omega (arith, none.1))
    ]

-- all stay where there is room for all
pub entries_within-all : (entries : List Entry) (blocks places : ℕ) → sum_by entry_blocks entries ≤ blocks → length entries ≤ places
    → entries_within blocks places entries ≡ entries
entries_within-all [] blocks places fits few = refl
entries_within-all (entry ∷ entries) blocks places fits few =
    let sum = sum_by-cons entry_blocks entry entries in
    elim (first_fits blocks places entry) [
      | inl room ↦ rw room.0 (ap (λ (more : List Entry). entry ∷ more) (entries_within-all entries (blocks - entry_blocks entry) (places - 1) (omega (arith, sum)) (omega arith)))
      | inr none ↦ absurd (none.1 (record { blocks_left = omega (arith, sum); place_left = omega arith }))
    ]

-- the last one goes where there isn't room for all
pub entries_within-last : (entries : List Entry) (last : Entry) (blocks places : ℕ)
    → ((sum_by entry_blocks (entries ++ last ∷ []) ≤ blocks) × (length (entries ++ last ∷ []) ≤ places) → ⊥)
    → entries_within blocks places (entries ++ last ∷ []) ≡ entries_within blocks places entries
entries_within-last [] last blocks places full =
    elim (first_fits blocks places last) [
      | inl room ↦ absurd (full (omega (arith, room.1.blocks_left, sum_by-cons entry_blocks last []), omega (arith, room.1.place_left)))
      | inr none ↦ rw none.0 refl
    ]
entries_within-last (entry ∷ entries) last blocks places full =
    let sum = sum_by-cons entry_blocks entry (entries ++ last ∷ []) in
    elim (first_fits blocks places entry) [
      | inl room ↦
          rw room.0 (ap (λ (more : List Entry). entry ∷ more)
          (entries_within-last entries last (blocks - entry_blocks entry) (places - 1)
          (λ rest. full (omega (arith, sum, rest.0, room.1.blocks_left), omega (arith, rest.1, room.1.place_left)))))
      | inr none ↦ rw none.0 refl
    ]

-- a number without an entry has none among those that stay
pub entries_within-missed : (entries : List Entry) (blocks places id : ℕ) → stored_under entries id ≡ None → stored_under (entries_within blocks places entries) id ≡ None
entries_within-missed [] blocks places id missed = refl
entries_within-missed (entry ∷ entries) blocks places id missed =
    elim (first_fits blocks places entry) [
      | inl room ↦ rw room.0 (following (nat_eq id entry.id) entry.stored (stored_under entries id) (stored_under (entries_within (blocks - entry_blocks entry) (places - 1) entries) id) missed
          (entries_within-missed entries (blocks - entry_blocks entry) (places - 1) id))
      | inr none ↦ rw none.0 refl
    ]
  where
    following : (b : Bool) (stored : List ℕ) (old new : Option (List ℕ)) → (if b then Some stored else old) ≡ None → (old ≡ None → new ≡ None) → (if b then Some stored else new) ≡ None
    following true stored old new missed same = missed
    following false stored old new missed same = same missed

-- the same, by how many there are but for the last
entries_within-fewer : (entries : List Entry) (n blocks places : ℕ) → n + 1 ≡ length entries → ((sum_by entry_blocks entries ≤ blocks) × (length entries ≤ places) → ⊥)
    → entries_within blocks places (take n entries) ≡ entries_within blocks places entries
entries_within-fewer entries n blocks places size full =
    let none : Entry = record { id = 0; stored = [] } in
    let last = get_or entries n none in
    let split : take n entries ++ last ∷ [] ≡ entries = sym (take_more entries n none (omega arith)) ∙ take_all (n + 1) entries (omega arith) in
    sym (entries_within-last (take n entries) last blocks places
    (subst (λ (l : List Entry). (sum_by entry_blocks l ≤ blocks) × (length l ≤ places) → ⊥) (sym split) full))
    ∙ ap (entries_within blocks places) split

-- there is no room for so many blocks, or no place
abbrev pub IsFull : PoolState → List (ℕ × ℕ) → ℕ → ℕ → Type 0
IsFull pool pairs cap blocks = (blocks ≤ free_blocks pool) × (length pairs < cap) → ⊥

-- where all are gone, there is room
pub full_some : (pool : PoolState) (pairs : List (ℕ × ℕ)) (cap blocks : ℕ) → IsKept pool pairs → blocks ≤ pool.blocks → 0 < cap → IsFull pool pairs cap blocks
    → 0 < length pairs
full_some pool [] cap blocks kept can some full = let none : blocks_in_use pool.held ≡ 0 = kept.in_use in absurd (full (omega arith, some))
full_some pool (pair ∷ pairs) cap blocks kept can some full = omega arith

-- where there is room, all stay
pub room_all : (pool : PoolState) (pairs : List (ℕ × ℕ)) (cap blocks : ℕ) → IsKept pool pairs → blocks ≤ pool.blocks
    → (blocks ≤ free_blocks pool) × (length pairs < cap) → entries_within (pool.blocks - blocks) (cap - 1) (entries_at pool.held pairs) ≡ entries_at pool.held pairs
room_all pool pairs cap blocks kept can room =
    entries_within-all (entries_at pool.held pairs) (pool.blocks - blocks) (cap - 1)
    (let sum = kept.in_use in let all = kept.within in let free = room.0 in omega arith)
    (let place = room.1 in omega (arith, length-map pairs (entry_at pool.held)))

-- where there is none, as many stay without the last one
pub full_fewer : (pool : PoolState) (pairs : List (ℕ × ℕ)) (cap blocks : ℕ) → IsKept pool pairs → 0 < length pairs → blocks ≤ pool.blocks → 0 < cap → IsFull pool pairs cap blocks
    → entries_within (pool.blocks - blocks) (cap - 1) (take (length pairs - 1) (entries_at pool.held pairs))
    ≡ entries_within (pool.blocks - blocks) (cap - 1) (entries_at pool.held pairs)
full_fewer pool pairs cap blocks kept some can place full =
    entries_within-fewer (entries_at pool.held pairs) (length pairs - 1) (pool.blocks - blocks) (cap - 1)
    (omega (arith, length-map pairs (entry_at pool.held)))
    (λ all. full (let sum = kept.in_use in let fits = all.0 in omega arith, let few = all.1 in omega (arith, length-map pairs (entry_at pool.held))))

-- One turn: what stays of what there was at first stays without the last one too.
pub less_stays : (first pool : PoolState) (all pairs : List (ℕ × ℕ)) (most cap blocks : ℕ) → IsKept pool pairs → pool.blocks ≡ first.blocks → cap ≡ most → blocks ≤ first.blocks → 0 < cap
    → IsFull pool pairs cap blocks
    → entries_within (first.blocks - blocks) (most - 1) (entries_at pool.held pairs) ≡ entries_within (first.blocks - blocks) (most - 1) (entries_at first.held all)
    → (left : List Entry) → left ≡ take (length pairs - 1) (entries_at pool.held pairs)
    → entries_within (first.blocks - blocks) (most - 1) left ≡ entries_within (first.blocks - blocks) (most - 1) (entries_at first.held all)
less_stays first pool all pairs most cap blocks kept same cap_same can some full before left left_is =
    let fits : blocks ≤ pool.blocks = omega arith in
    let less = full_fewer pool pairs cap blocks kept (full_some pool pairs cap blocks kept fits some full) fits some full in
    ap (entries_within (first.blocks - blocks) (most - 1)) left_is
    ∙ sized pool.blocks first.blocks cap most blocks (take (length pairs - 1) (entries_at pool.held pairs)) (entries_at pool.held pairs) same cap_same less
    ∙ before
  where
    sized : (here there cap most blocks : ℕ) (xs ys : List Entry) → here ≡ there → cap ≡ most → entries_within (here - blocks) (cap - 1) xs ≡ entries_within (here - blocks) (cap - 1) ys
        → entries_within (there - blocks) (most - 1) xs ≡ entries_within (there - blocks) (most - 1) ys
    sized here there cap most blocks xs ys same cap_same is = rw (← same, ← cap_same) is

-- The end: what there is now is what stays of what there was at first.
pub same_stays : (first pool : PoolState) (all pairs : List (ℕ × ℕ)) (most cap blocks : ℕ) → IsKept pool pairs → pool.blocks ≡ first.blocks → cap ≡ most
    → blocks ≤ first.blocks → (blocks ≤ free_blocks pool) × (length pairs < cap)
    → entries_within (first.blocks - blocks) (most - 1) (entries_at pool.held pairs) ≡ entries_within (first.blocks - blocks) (most - 1) (entries_at first.held all)
    → entries_at pool.held pairs ≡ entries_within (first.blocks - blocks) (most - 1) (entries_at first.held all)
same_stays first pool all pairs most cap blocks kept same cap_same can room before =
    let fits : blocks ≤ pool.blocks = omega arith in
    sym (sized pool.blocks first.blocks cap most blocks (entries_at pool.held pairs) same cap_same (room_all pool pairs cap blocks kept fits room)) ∙ before
  where
    sized : (here there cap most blocks : ℕ) (xs : List Entry) → here ≡ there → cap ≡ most → entries_within (here - blocks) (cap - 1) xs ≡ xs → entries_within (there - blocks) (most - 1) xs ≡ xs
    sized here there cap most blocks xs same cap_same is = rw (← same, ← cap_same) is

-- what is built and kept, or isn't
pub built_kept : (blocks places needed : ℕ) (entries made : List Entry) (id : ℕ) (stored : List ℕ) → needed ≡ needed_blocks (length stored) → needed ≤ blocks
    → made ≡ (record { id = id; stored = stored }) ∷ entries_within (blocks - needed) (places - 1) entries → made ≡ entries_built blocks places entries id stored
built_kept blocks places needed entries made id stored needed_is fits is =
    let small : needed_blocks (length stored) ≤ blocks = omega arith in
    is ∙ ap (λ (n : ℕ). (record { id = id; stored = stored }) ∷ entries_within (blocks - n) (places - 1) entries) needed_is
    ∙ sym (ap (λ (b : Bool). if b then (record { id = id; stored = stored }) ∷ entries_beside blocks places entries stored else entries) (le-leb (needed_blocks (length stored)) blocks small))

pub built_large : (blocks places needed : ℕ) (entries : List Entry) (id : ℕ) (stored : List ℕ) → needed ≡ needed_blocks (length stored) → blocks < needed
    → entries ≡ entries_built blocks places entries id stored
built_large blocks places needed entries id stored needed_is large =
    let more : blocks < needed_blocks (length stored) = omega arith in
    sym (ap (λ (b : Bool). if b then (record { id = id; stored = stored }) ∷ entries_beside blocks places entries stored else entries) (lt-leb (needed_blocks (length stored)) blocks more))

-- the same, by what stayed
pub kept_built : (here blocks places needed : ℕ) (entries left made : List Entry) (id : ℕ) (stored : List ℕ) → here ≡ blocks → needed ≡ needed_blocks (length stored) → needed ≤ blocks
    → left ≡ entries_within (here - needed) (places - 1) entries → made ≡ (record { id = id; stored = stored }) ∷ left → made ≡ entries_built blocks places entries id stored
kept_built here blocks places needed entries left made id stored same needed_is fits left_is is =
    built_kept blocks places needed entries made id stored needed_is fits
    (is ∙ ap (λ (more : List Entry). (record { id = id; stored = stored }) ∷ more) left_is
    ∙ ap (λ (n : ℕ). (record { id = id; stored = stored }) ∷ entries_within (n - needed) (places - 1) entries) same)

pub left_beside : (here blocks places needed : ℕ) (entries left made : List Entry) (stored : List ℕ) → here ≡ blocks → needed ≡ needed_blocks (length stored)
    → left ≡ entries_within (here - needed) (places - 1) entries → made ≡ left → made ≡ entries_beside blocks places entries stored
left_beside here blocks places needed entries left made stored same needed_is left_is is =
    is ∙ left_is ∙ ap (λ (n : ℕ). entries_within (n - needed) (places - 1) entries) same ∙ ap (λ (n : ℕ). entries_within (blocks - n) (places - 1) entries) needed_is
