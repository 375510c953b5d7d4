-- The entries of a cache, as one is put and taken back, and as they are ordered anew.
use Rattle.std.proofs.Common.{◌≡◌, ◌≢◌, ℕ, suc, ◌+◌, ◌-◌, ◌<◌, ◌≤◌, List, [], ◌∷◌, ◌++◌, length, take, Some, None, nat_eq, false, sum_by, slice_get, IsPermutation, arith, refl, sym, ap, subst, ◌∙◌}
use Rattle.std.proofs.lemmas.Bool.{ne_eqb, eqb-false}
use Rattle.std.proofs.lemmas.List.{length-append, length-take, take_more, take_all, take-map}
use Rattle.std.proofs.lemmas.List.Elements.{All-from_recursion, recursion_from_All}
use Rattle.std.proofs.lemmas.List.Sorted.{IsPermutation-map, IsPermutation-to_front, All-permutation, length_permutation, sum_by-IsPermutation}
use Rattle.std.proofs.lemmas.List.Sums.{sum_by-cons, sum_by-append}
use Rattle.std.proofs.lemmas.Map.Keys.{IsDistinct-head, IsDistinct-tail, IsDistinct-cons, IsDistinct-IsPermutation}
use Rattle.std.proofs.lemmas.Option.{slice_get_within, get_or_from_slice_get}
use Rattle.std.specs.Cmp.{nat_eq_equiv}
use Rattle.std.specs.List.{AllByRecursion}
use Rattle.std.specs.Map.{keys_of, values_of, lookup}
use Rattle.block_pool.specs.Pool.{Held, PoolState, HoldsUnder, IsHeldUnder, Puts, TakesBack, IsAccounted, needed_blocks, free_blocks, blocks_of, blocks_in_use}
use Rattle.block_pool.proofs.PoolLemmas.{put_holds, put_keeps, give_keeps}
use Rattle.surrogate_cache.specs.Caching.{Entry, IsStoredForm, entry_blocks, stored_under}
use Rattle.surrogate_cache.specs.private.Kept.{octets_at, entry_at, entries_at, IsKeptAt, IsKept}
use Rattle.surrogate_cache.proofs.PoolPlaces.{octets_at-beside, octets_at-live, octets_at-distinct, once_put}
use Rattle.lru.specs.LruCache.{LruCache, lru_cache, put_entries}
use Rattle.surrogate_cache.proofs.OrderLemmas.{missed_apart, missed_lookup, put_missed}

-- no entry is at this place
abbrev AreOthers : ℕ → List (ℕ × ℕ) → Type 0
AreOthers place pairs = AllByRecursion (λ (pair : ℕ × ℕ). pair.1 ≢ place) pairs

-- each entry has the same octets at its place
abbrev HaveSame : List Held → List Held → List (ℕ × ℕ) → Type 0
HaveSame old new pairs = AllByRecursion (λ (pair : ℕ × ℕ). octets_at new pair.1 ≡ octets_at old pair.1) pairs

others_own : (place : ℕ) (pairs : List (ℕ × ℕ)) → AllByRecursion (λ (key : ℕ). nat_eq place key ≡ false) (values_of pairs) → AreOthers place pairs
others_own place [] distinct = tt
others_own place (pair ∷ pairs) distinct = (λ same. eqb-false place pair.1 distinct.0 (sym same), others_own place pairs distinct.1)

own_others : (place : ℕ) (pairs : List (ℕ × ℕ)) → AreOthers place pairs → AllByRecursion (λ (key : ℕ). nat_eq place key ≡ false) (values_of pairs)
own_others place [] others = tt
own_others place (pair ∷ pairs) others = (ne_eqb place pair.1 (λ same. others.0 (sym same)), own_others place pairs others.1)

others_fresh : (pool : PoolState) (place : ℕ) → (IsHeldUnder pool place → ⊥) → (pairs : List (ℕ × ℕ)) → AllByRecursion (IsKeptAt pool) pairs → AreOthers place pairs
others_fresh pool place fresh [] each = tt
others_fresh pool place fresh (pair ∷ pairs) each =
    (λ same. fresh (subst (IsHeldUnder pool) same (octets_at pool.held pair.1, each.0.live)), others_fresh pool place fresh pairs each.1)

puts_same : (old new : List Held) (front back : List Held) (x : Held) → old ≡ front ++ back → new ≡ front ++ x ∷ back
    → (pairs : List (ℕ × ℕ)) → AreOthers x.id pairs → HaveSame old new pairs
puts_same old new front back x was becomes [] others = tt
puts_same old new front back x was becomes (pair ∷ pairs) others = (
  ap (λ (held : List Held). octets_at held pair.1) becomes ∙ octets_at-beside front back x pair.1 others.0 ∙ sym (ap (λ (held : List Held). octets_at held pair.1) was),
  puts_same old new front back x was becomes pairs others.1,
)

same_back : (old new : List Held) (pairs : List (ℕ × ℕ)) → HaveSame old new pairs → HaveSame new old pairs
same_back old new [] same = tt
same_back old new (pair ∷ pairs) same = (sym same.0, same_back old new pairs same.1)

entries_same : (old new : List Held) (pairs : List (ℕ × ℕ)) → HaveSame old new pairs → entries_at new pairs ≡ entries_at old pairs
entries_same old new [] same = refl
entries_same old new (pair ∷ pairs) same =
    ap (λ (stored : List ℕ). (record { id = pair.0; stored = stored }) ∷ entries_at new pairs) same.0
    ∙ ap (λ (more : List Entry). entry_at old pair ∷ more) (entries_same old new pairs same.1)

-- what was held at other places than this one is held still
abbrev KeepsOthers : PoolState → PoolState → ℕ → Type 0
KeepsOthers old new place = (other : ℕ) → other ≢ place → (held : List ℕ) → HoldsUnder old other held → HoldsUnder new other held

kept_at-same : (old new : PoolState) (pair : ℕ × ℕ) → octets_at new.held pair.1 ≡ octets_at old.held pair.1
    → HoldsUnder new pair.1 (octets_at old.held pair.1) → IsKeptAt old pair → IsKeptAt new pair
kept_at-same old new pair same live kept =
    record {
      live = subst (HoldsUnder new pair.1) (sym same) live;
      stored = subst IsStoredForm (sym same) kept.stored;
    }

each_same : (old new : PoolState) (place : ℕ) → KeepsOthers old new place → (pairs : List (ℕ × ℕ)) → AreOthers place pairs
    → HaveSame old.held new.held pairs → AllByRecursion (IsKeptAt old) pairs → AllByRecursion (IsKeptAt new) pairs
each_same old new place keeps [] others same each = tt
each_same old new place keeps (pair ∷ pairs) others same each = (
  kept_at-same old new pair same.0 (keeps pair.1 others.0 (octets_at old.held pair.1) each.0.live) each.0,
  each_same old new place keeps pairs others.1 same.1 each.1,
)

sum_puts : (old new : List Held) (front back : List Held) (x : Held) → old ≡ front ++ back → new ≡ front ++ x ∷ back → blocks_in_use new ≡ blocks_of x + blocks_in_use old
sum_puts old new front back x was becomes =
    let old_sum = ap blocks_in_use was in
    let new_sum = ap blocks_in_use becomes in
    omega (arith, sum_by-append blocks_of front back, sum_by-append blocks_of front (x ∷ back), sum_by-cons blocks_of x back)

length_puts : (old new : List Held) (front back : List Held) (x : Held) → old ≡ front ++ back → new ≡ front ++ x ∷ back → length new ≡ suc (length old)
length_puts old new front back x was becomes =
    let old_length = ap (λ (l : List Held). length l) was in
    let new_length = ap (λ (l : List Held). length l) becomes in
    omega (arith, length-append front back, length-append front (x ∷ back))

-- In another order the entries are kept as well.
pub kept_ordered : (pool : PoolState) (pairs others : List (ℕ × ℕ)) → IsPermutation pairs others → IsKept pool pairs → IsKept pool others
kept_ordered pool pairs others moved kept =
    record {
      distinct = IsDistinct-IsPermutation nat_eq nat_eq_equiv.symm (keys_of pairs) (keys_of others) (IsPermutation-map (λ (pair : ℕ × ℕ). pair.0) pairs others moved) kept.distinct;
      own = IsDistinct-IsPermutation nat_eq nat_eq_equiv.symm (values_of pairs) (values_of others) (IsPermutation-map (λ (pair : ℕ × ℕ). pair.1) pairs others moved) kept.own;
      each = recursion_from_All (IsKeptAt pool) others (All-permutation (IsKeptAt pool) pairs others moved (All-from_recursion (IsKeptAt pool) pairs kept.each));
      only = kept.only ∙ sym (length_permutation pairs others moved);
      in_use = kept.in_use ∙ sym (sum_by-IsPermutation entry_blocks (entries_at pool.held pairs) (entries_at pool.held others) (IsPermutation-map (entry_at pool.held) pairs others moved));
      within = kept.within;
    }

-- what is kept once a stored rope is put at a place
pub record HasPut (old new : PoolState) (pairs : List (ℕ × ℕ)) (id place : ℕ) (stored : List ℕ) : Type 0 where
  pub kept : IsKept new ((id, place) ∷ pairs)
  pub entries : entries_at new.held ((id, place) ∷ pairs) ≡ (record { id = id; stored = stored }) ∷ entries_at old.held pairs

pub kept_put : (old new : PoolState) (pairs : List (ℕ × ℕ)) (id place : ℕ) (stored : List ℕ) → IsKept old pairs → lookup (nat_eq id) pairs ≡ None → (IsHeldUnder old place → ⊥)
    → Puts old new place stored → IsStoredForm stored → needed_blocks (length stored) ≤ free_blocks old → HasPut old new pairs id place stored
kept_put old new pairs id place stored kept missed fresh puts is_stored fits =
    let x : Held = record { id = place; octets = stored } in
    let others = others_fresh old place fresh pairs kept.each in
    let same = puts_same old.held new.held puts.front puts.back x puts.was puts.becomes pairs others in
    let live = octets_at-live new.held place stored (put_holds old new place stored puts) in
    let here : octets_at new.held place ≡ stored = once_put old new place stored (octets_at new.held place) puts fresh live in
    let sum = sum_puts old.held new.held puts.front puts.back x puts.was puts.becomes in
    let entries : entries_at new.held ((id, place) ∷ pairs) ≡ (record { id = id; stored = stored }) ∷ entries_at old.held pairs =
    ap (λ (octets : List ℕ). (record { id = id; stored = octets }) ∷ entries_at new.held pairs) here
    ∙ ap (λ (more : List Entry). (record { id = id; stored = stored }) ∷ more) (entries_same old.held new.held pairs same) in
    record {
      kept = record {
        distinct = IsDistinct-cons nat_eq id (keys_of pairs) (missed_apart pairs id missed) kept.distinct;
        own = IsDistinct-cons nat_eq place (values_of pairs) (own_others place pairs others) kept.own;
        each = (
          record {
            live = live;
            stored = subst IsStoredForm (sym here) is_stored;
          },
          each_same old new place (λ other differ held holds. put_keeps old new place stored puts other held holds) pairs others same kept.each,
        );
        only = omega (arith, length_puts old.held new.held puts.front puts.back x puts.was puts.becomes, kept.only);
        in_use = sums (blocks_in_use old.held) (blocks_in_use new.held) (entries_at new.held ((id, place) ∷ pairs)) (record { id = id; stored = stored }) (entries_at old.held pairs)
            sum entries kept.in_use;
        within = let same_blocks = puts.same_blocks in let before = kept.within in omega arith;
      };
      entries = entries;
    }
  where
    sums : (before after : ℕ) (made : List Entry) (entry : Entry) (entries : List Entry) → after ≡ entry_blocks entry + before → made ≡ entry ∷ entries → before ≡ sum_by entry_blocks entries
        → after ≡ sum_by entry_blocks made
    sums before after made entry entries more is sum = let both = ap (sum_by entry_blocks) is in omega (arith, sum_by-cons entry_blocks entry entries)

-- what is kept once what is held at the first entry's place is given back
pub record HasTaken (old new : PoolState) (pairs : List (ℕ × ℕ)) : Type 0 where
  pub kept : IsKept new pairs
  pub entries : entries_at new.held pairs ≡ entries_at old.held pairs

pub kept_taken : (old new : PoolState) (pairs : List (ℕ × ℕ)) (id place : ℕ) → IsKept old ((id, place) ∷ pairs)
    → ((octets : List ℕ) → HoldsUnder old place octets → octets ≡ octets_at old.held place) → TakesBack old new place → HasTaken old new pairs
kept_taken old new pairs id place kept once (octets, puts) =
    let x : Held = record { id = place; octets = octets } in
    let others = others_own place pairs (IsDistinct-head nat_eq place (values_of pairs) kept.own) in
    let same = same_back new.held old.held pairs (puts_same new.held old.held puts.front puts.back x puts.was puts.becomes pairs others) in
    let here : octets ≡ octets_at old.held place = once octets (put_holds new old place octets puts) in
    let sum = sum_puts new.held old.held puts.front puts.back x puts.was puts.becomes in
    let entries = entries_same old.held new.held pairs same in
    record {
      kept = record {
        distinct = IsDistinct-tail nat_eq id (keys_of pairs) kept.distinct;
        own = IsDistinct-tail nat_eq place (values_of pairs) kept.own;
        each = each_same old new place (give_keeps old new place (octets, puts)) pairs others same kept.each.1;
        only = omega (arith, length_puts new.held old.held puts.front puts.back x puts.was puts.becomes, kept.only);
        in_use = sums (blocks_in_use old.held) (blocks_in_use new.held) (entry_at old.held (id, place)) (entries_at old.held pairs) (entries_at new.held pairs) octets here
            sum entries kept.in_use;
        within = let same_blocks = puts.same_blocks in let before = kept.within in omega arith;
      };
      entries = entries;
    }
  where
    sums : (before after : ℕ) (entry : Entry) (entries made : List Entry) (octets : List ℕ) → octets ≡ entry.stored → before ≡ needed_blocks (length octets) + after → made ≡ entries
        → before ≡ sum_by entry_blocks (entry ∷ entries) → after ≡ sum_by entry_blocks made
    sums before after entry entries made octets here more is sum =
        let weight = ap (λ (l : List ℕ). needed_blocks (length l)) here in
        let both = ap (sum_by entry_blocks) is in
        omega (arith, sum_by-cons entry_blocks entry entries)

-- the last of a list, and all before it
pub last_split : (pairs : List (ℕ × ℕ)) (pair : ℕ × ℕ) → slice_get pairs (length pairs - 1) ≡ Some pair → pairs ≡ take (length pairs - 1) pairs ++ pair ∷ []
last_split pairs pair is =
    let within = slice_get_within pairs (length pairs - 1) pair is in
    let all : take (length pairs - 1 + 1) pairs ≡ pairs = take_all (length pairs - 1 + 1) pairs (omega arith) in
    sym all ∙ take_more pairs (length pairs - 1) pair within
    ∙ ap (λ (one : ℕ × ℕ). take (length pairs - 1) pairs ++ one ∷ []) (get_or_from_slice_get pairs (length pairs - 1) pair pair is)

-- the last entry before all others
pub last_first : (pool : PoolState) (pairs : List (ℕ × ℕ)) (pair : ℕ × ℕ) → slice_get pairs (length pairs - 1) ≡ Some pair → IsKept pool pairs
    → IsKept pool (pair ∷ take (length pairs - 1) pairs)
last_first pool pairs pair is kept =
    let rest = take (length pairs - 1) pairs in
    kept_ordered pool pairs (pair ∷ rest) (subst (λ (l : List (ℕ × ℕ)). IsPermutation l (pair ∷ rest)) (sym (last_split pairs pair is)) (IsPermutation-to_front rest pair)) kept

-- what is kept once the last entry is dropped
pub record HasDropped (old new : PoolState) (pairs rest : List (ℕ × ℕ)) : Type 0 where
  pub kept : IsKept new rest
  pub entries : entries_at new.held rest ≡ take (length pairs - 1) (entries_at old.held pairs)
  pub shorter : length rest < length pairs

pub kept_dropped : (old new : PoolState) (pairs rest : List (ℕ × ℕ)) (pair : ℕ × ℕ) → IsKept old pairs → IsAccounted old
    → slice_get pairs (length pairs - 1) ≡ Some pair → rest ≡ take (length pairs - 1) pairs → TakesBack old new pair.1 → HasDropped old new pairs rest
kept_dropped old new pairs rest pair kept whole is rest_is takes =
    let front = take (length pairs - 1) pairs in
    let taken = kept_taken old new front pair.0 pair.1 (last_first old pairs pair is kept) (λ octets holds. octets_at-distinct old.held whole.distinct pair.1 octets holds) takes in
    let within = slice_get_within pairs (length pairs - 1) pair is in
    record {
      kept = subst (IsKept new) (sym rest_is) taken.kept;
      entries = ap (entries_at new.held) rest_is ∙ taken.entries ∙ sym (take-map (entry_at old.held) (length pairs - 1) pairs);
      shorter = let size = ap (λ (l : List (ℕ × ℕ)). length l) rest_is in omega (arith, length-take (length pairs - 1) pairs);
    }

-- what is kept once a stored rope was put, and the order has it before all others
pub kept_first : (old new : PoolState) (order after : LruCache ℕ ℕ) (id place : ℕ) (stored : List ℕ) → IsKept old order.entries → stored_under (entries_at old.held order.entries) id ≡ None
    → length order.entries < order.cap → (IsHeldUnder old place → ⊥) → Puts old new place stored → IsStoredForm stored → needed_blocks (length stored) ≤ free_blocks old
    → after ≡ lru_cache (put_entries nat_eq order id place) order.cap
    → IsKept new after.entries × (entries_at new.held after.entries ≡ (record { id = id; stored = stored }) ∷ entries_at old.held order.entries)
kept_first old new order after id place stored kept missed room fresh puts is_stored fits after_is =
    let unknown = missed_lookup old.held order.entries id missed in
    let entries : after.entries ≡ (id, place) ∷ order.entries = ap (λ (o : LruCache ℕ ℕ). o.entries) after_is ∙ put_missed order id place unknown room in
    let put = kept_put old new order.entries id place stored kept unknown fresh puts is_stored fits in
    (subst (IsKept new) (sym entries) put.kept, ap (entries_at new.held) entries ∙ put.entries)

-- what is kept once a stored rope was put, and taken back as the order has no memory for it
pub kept_back : (old new last : PoolState) (pairs : List (ℕ × ℕ)) (id place : ℕ) (stored : List ℕ) → IsKept old pairs → stored_under (entries_at old.held pairs) id ≡ None
    → (IsHeldUnder old place → ⊥) → Puts old new place stored → IsStoredForm stored → needed_blocks (length stored) ≤ free_blocks old → TakesBack new last place
    → IsKept last pairs × (entries_at last.held pairs ≡ entries_at old.held pairs)
kept_back old new last pairs id place stored kept missed fresh puts is_stored fits takes =
    let put = kept_put old new pairs id place stored kept (missed_lookup old.held pairs id missed) fresh puts is_stored fits in
    let here : octets_at new.held place ≡ stored = ap (λ (entries : List Entry). first_stored entries) put.entries in
    let taken = kept_taken new last pairs id place put.kept (λ octets holds. once_put old new place stored octets puts fresh holds ∙ sym here) takes in
    let rest : entries_at new.held pairs ≡ entries_at old.held pairs = ap (λ (entries : List Entry). after_first entries) put.entries in
    (taken.kept, taken.entries ∙ rest)
  where
    first_stored : List Entry → List ℕ
    first_stored [] = []
    first_stored (entry ∷ entries) = entry.stored

    after_first : List Entry → List Entry
    after_first [] = []
    after_first (entry ∷ entries) = entries
