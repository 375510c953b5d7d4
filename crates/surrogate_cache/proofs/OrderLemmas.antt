-- Numbers and places, by look-ups.
use Rattle.std.proofs.Common.{◌≡◌, ℕ, ◌<◌, ◌-◌, List, [], ◌∷◌, length, take, false, nat_eq, arith, refl, sym, ap, ◌∙◌, inl, inr, Option, Some, None, option_map, IsPermutation}
use Rattle.std.proofs.lemmas.Bool.Decides.{eqb_tells}
use Rattle.std.proofs.lemmas.List.{take_all}
use Rattle.std.proofs.lemmas.List.Sorted.{IsPermutation-refl, IsPermutation-cons, IsPermutation-trans, IsPermutation-swap}
use Rattle.std.specs.List.{AllByRecursion}
use Rattle.std.specs.Map.{keys_of, lookup, lookup_entry, remove_entry}
use Rattle.std.specs.Option.{option_map_or}
use Rattle.lru.specs.LruCache.{LruCache, promoted, put_entries}
use Rattle.block_pool.specs.Pool.{Held}
use Rattle.surrogate_cache.specs.Caching.{Entry, stored_under, entries_without}
use Rattle.surrogate_cache.specs.private.Kept.{octets_at, entries_at}

-- the stored form under a number is what is held at its place
pub stored_under-entries : (held : List Held) (pairs : List (ℕ × ℕ)) (id : ℕ)
    → stored_under (entries_at held pairs) id ≡ option_map (octets_at held) (lookup (nat_eq id) pairs)
stored_under-entries held [] id = refl
stored_under-entries held (pair ∷ pairs) id =
    elim (eqb_tells id pair.0) [
      | inl same ↦ rw same.0 refl
      | inr differ ↦ rw differ.0 (stored_under-entries held pairs id)
    ]

pub entries_without-entries : (held : List Held) (pairs : List (ℕ × ℕ)) (id : ℕ)
    → entries_without (entries_at held pairs) id ≡ entries_at held (remove_entry (nat_eq id) pairs)
entries_without-entries held [] id = refl
entries_without-entries held (pair ∷ pairs) id =
    elim (eqb_tells id pair.0) [
      | inl same ↦ rw same.0 refl
      | inr differ ↦ rw differ.0 (ap (λ (more : List Entry). (record { id = pair.0; stored = octets_at held pair.1 }) ∷ more) (entries_without-entries held pairs id))
    ]

none_of : (held : List Held) (o : Option ℕ) → option_map (octets_at held) o ≡ None → o ≡ None
none_of held None is = refl
none_of held (Some place) is = cc

-- a number without an entry isn't found
pub missed_lookup : (held : List Held) (pairs : List (ℕ × ℕ)) (id : ℕ) → stored_under (entries_at held pairs) id ≡ None → lookup (nat_eq id) pairs ≡ None
missed_lookup held pairs id missed = none_of held (lookup (nat_eq id) pairs) (sym (stored_under-entries held pairs id) ∙ missed)

-- where a number isn't found, it is none of the numbers
pub missed_apart : (pairs : List (ℕ × ℕ)) (id : ℕ) → lookup (nat_eq id) pairs ≡ None → AllByRecursion (λ (key : ℕ). nat_eq id key ≡ false) (keys_of pairs)
missed_apart [] id missed = tt
missed_apart (pair ∷ pairs) id missed =
    elim (eqb_tells id pair.0) [
      | inl same ↦ let found = rw same.0 at missed in cc
      | inr differ ↦ (differ.0, missed_apart pairs id (rw differ.0 at missed))
    ]

missed_entry : (pairs : List (ℕ × ℕ)) (id : ℕ) → lookup (nat_eq id) pairs ≡ None → lookup_entry (nat_eq id) pairs ≡ None
missed_entry [] id missed = refl
missed_entry (pair ∷ pairs) id missed =
    elim (eqb_tells id pair.0) [
      | inl same ↦ let found = rw same.0 at missed in cc
      | inr differ ↦ rw differ.0 (missed_entry pairs id (rw differ.0 at missed))
    ]

pub promoted-missed : (pairs : List (ℕ × ℕ)) (id : ℕ) → lookup (nat_eq id) pairs ≡ None → promoted (nat_eq id) pairs ≡ pairs
promoted-missed pairs id missed = ap (λ (o : Option (ℕ × ℕ)). option_map_or (λ (e : ℕ × ℕ). e ∷ remove_entry (nat_eq id) pairs) o pairs) (missed_entry pairs id missed)

found_entry : (pairs : List (ℕ × ℕ)) (id place : ℕ) → lookup (nat_eq id) pairs ≡ Some place → lookup_entry (nat_eq id) pairs ≡ Some (id, place)
found_entry [] id place found = cc
found_entry (pair ∷ pairs) id place found =
    elim (eqb_tells id pair.0) [
      | inl same ↦ let there = rw same.0 at found in rw same.0 (first pair id place same.1 there)
      | inr differ ↦ rw differ.0 (found_entry pairs id place (rw differ.0 at found))
    ]
  where
    first : (pair : ℕ × ℕ) (id place : ℕ) → id ≡ pair.0 → Some pair.1 ≡ Some place → Some pair ≡ Some (id, place)
    first (key, value) id place same there = cc

pub promoted-found : (pairs : List (ℕ × ℕ)) (id place : ℕ) → lookup (nat_eq id) pairs ≡ Some place
    → promoted (nat_eq id) pairs ≡ (id, place) ∷ remove_entry (nat_eq id) pairs
promoted-found pairs id place found =
    ap (λ (o : Option (ℕ × ℕ)). option_map_or (λ (e : ℕ × ℕ). e ∷ remove_entry (nat_eq id) pairs) o pairs) (found_entry pairs id place found)

-- what is found is taken from where it stands
pub IsPermutation-found : (pairs : List (ℕ × ℕ)) (id place : ℕ) → lookup (nat_eq id) pairs ≡ Some place
    → IsPermutation ((id, place) ∷ remove_entry (nat_eq id) pairs) pairs
IsPermutation-found [] id place found = cc
IsPermutation-found (pair ∷ pairs) id place found =
    elim (eqb_tells id pair.0) [
      | inl same ↦ let there = rw same.0 at found in rw same.0 (first pair pairs id place same.1 there)
      | inr differ ↦ rw differ.0 (following pair pairs id place (IsPermutation-found pairs id place (rw differ.0 at found)))
    ]
  where
    first : (pair : ℕ × ℕ) (pairs : List (ℕ × ℕ)) (id place : ℕ) → id ≡ pair.0 → Some pair.1 ≡ Some place → IsPermutation ((id, place) ∷ pairs) (pair ∷ pairs)
    first (key, value) pairs id place same there =
        let keys : key ≡ id = sym same in
        let values : value ≡ place = cc in
        rw (keys, values) (IsPermutation-refl ((id, place) ∷ pairs))

    following : (pair : ℕ × ℕ) (pairs : List (ℕ × ℕ)) (id place : ℕ) → IsPermutation ((id, place) ∷ remove_entry (nat_eq id) pairs) pairs
        → IsPermutation ((id, place) ∷ pair ∷ remove_entry (nat_eq id) pairs) (pair ∷ pairs)
    following pair pairs id place rest =
        IsPermutation-trans _ _ _
        (IsPermutation-swap ((id, place) ∷ pair ∷ remove_entry (nat_eq id) pairs) (pair ∷ (id, place) ∷ remove_entry (nat_eq id) pairs) 0 1 (omega arith) (omega arith) refl)
        (IsPermutation-cons pair _ _ rest)

-- a new number is put before all others, where there is room
pub put_missed : (order : LruCache ℕ ℕ) (id place : ℕ) → lookup (nat_eq id) order.entries ≡ None → length order.entries < order.cap
    → put_entries nat_eq order id place ≡ (id, place) ∷ order.entries
put_missed order id place missed room =
    ap (λ (o : Option (ℕ × ℕ)). option_map_or (λ (e : ℕ × ℕ). (e.0, place) ∷ remove_entry (nat_eq id) order.entries) o ((id, place) ∷ take (order.cap - 1) order.entries))
    (missed_entry order.entries id missed)
    ∙ ap (λ (more : List (ℕ × ℕ)). (id, place) ∷ more) (take_all (order.cap - 1) order.entries (omega (arith, room)))
