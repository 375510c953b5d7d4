-- Which messages a set names.
use Rattle.std.proofs.Common.{◌≡◌, ℕ, suc, ◌+◌, ◌-◌, ◌<◌, ◌≤◌, Bool, true, false, cond, ◌&&◌, ◌||◌, nat_le, nat_lt, List, [], ◌∷◌, length, get_or, map, Option, inl, inr, refl, sym, ap, ◌∙◌, subst, arith, add-zero, zero-add}
use Rattle.std.proofs.lemmas.Bool.{true≢false, both_ways, false_from_ne_true, or_parts, cases_lt, cond_both, lt-leb, le-leb, lt-ltb, le-ltb, ltb-true, ltb-false, leb-true, leb-false}
use Rattle.std.proofs.lemmas.List.{length-map, get_or-map}
use Rattle.std.proofs.lemmas.List.Elements.{All-nil, All-cons, All-weaker}
use Rattle.std.proofs.lemmas.List.Sorted.{IsNonDecreasingBy-from_all_adjacent, All-permutation, list_any-IsPermutation}
use Rattle.std.proofs.lemmas.List.Folds.{list_any_at}
use Rattle.std.specs.List.{list_any, filter, range_with_len, All, AllAdjacentBelow}
use Rattle.std.specs.List.Sorted.{IsStrictlyIncreasing, IsNonDecreasingBy, IsPartitionPoint, IsPermutation}
use Rattle.kept_mail.specs.declared.kept.Listed.{Listed}
use Rattle.imap_grammar.specs.declared.command.Set.{Set}
use Rattle.imap_mailboxes.specs.declared.sets.Stretch.{Stretch}
use Rattle.imap_mailboxes.specs.private.Stretches.{is_inside, in_stretches, EndWithin, places_below}
use Rattle.imap_mailboxes.specs.Sets.{end_of, is_in_set, last_uid, last_of, called, chosen_from, chosen_places, is_refused}

-- ---- the last message

pub last_uid-is : (messages : List Listed) (one : Listed) → 0 < length messages → last_uid messages ≡ (get_or messages (length messages - 1) one).uid
last_uid-is [] one some = absurd (omega (arith, some))
last_uid-is (first ∷ []) one some = refl
last_uid-is (first ∷ next ∷ others) one some =
    let last : suc (length others) - 1 ≡ length others = omega arith in
    let following : suc (suc (length others)) - 1 ≡ suc (length others) = omega arith in
    last_uid-is (next ∷ others) one (omega arith)
    ∙ (ap (λ k. (get_or (next ∷ others) k one).uid) last ∙ sym (ap (λ k. (get_or (first ∷ next ∷ others) k one).uid) following))

-- ---- the places of all messages

-- where this test tells of each place whether the set names its message
pub chosen_from-is : (by_uid : Bool) (last : ℕ) (set : Set) (test : ℕ → Bool) (place : ℕ) (messages : List Listed)
    → ((k : ℕ) (one : Listed) → k < length messages → test (place + k) ≡ is_in_set last set (called by_uid (place + k) (get_or messages k one)))
    → chosen_from by_uid last set place messages ≡ filter test (range_with_len place (length messages))
chosen_from-is by_uid last set test place [] same = refl
chosen_from-is by_uid last set test place (first ∷ others) same =
    let here : test place ≡ is_in_set last set (called by_uid place first) = rw add-zero at (same 0 first (omega arith)) in
    let rest = chosen_from by_uid last set (place + 1) others in
    ap (λ b. cond b (place ∷ rest) rest) (sym here)
    ∙ ap (λ z. cond (test place) (place ∷ z) z)
    (chosen_from-is by_uid last set test (place + 1) others (λ k one l.
    let next : place + suc k ≡ place + 1 + k = omega arith in
    subst (λ n. test n ≡ is_in_set last set (called by_uid n (get_or others k one))) next (same (suc k) one (omega arith))))

pub chosen_from-within : (by_uid : Bool) (last : ℕ) (set : Set) (place : ℕ) (messages : List Listed) → All (λ n. n < place + length messages) (chosen_from by_uid last set place messages)
chosen_from-within by_uid last set place [] = All-nil (λ n. n < place + 0)
chosen_from-within by_uid last set place (first ∷ others) =
    let P : ℕ → Type 0 = λ n. n < place + suc (length others) in
    let rest = chosen_from by_uid last set (place + 1) others in
    let all : All P rest = All-weaker (λ n. n < place + 1 + length others) P (λ n l. omega (arith, l)) rest (chosen_from-within by_uid last set (place + 1) others) in
    cond_both (is_in_set last set (called by_uid place first)) (place ∷ rest) rest (All P) (λ _. All-cons P place rest (omega arith) all) (λ _. all)

pub chosen_within : (by_uid : Bool) (set : Set) (messages : List Listed) → All (λ n. n < length messages) (chosen_places by_uid set messages)
unfolding chosen_places
chosen_within by_uid set messages =
    All-weaker (λ n. n < 0 + length messages) (λ n. n < length messages) (λ n l. omega (arith, l)) (chosen_places by_uid set messages) (chosen_from-within by_uid (last_of by_uid messages) set 0 messages)

pub chosen-is : (by_uid : Bool) (set : Set) (test : ℕ → Bool) (messages : List Listed)
    → ((place : ℕ) (one : Listed) → place < length messages → test place ≡ is_in_set (last_of by_uid messages) set (called by_uid place (get_or messages place one)))
    → chosen_places by_uid set messages ≡ filter test (range_with_len 0 (length messages))
unfolding chosen_places
chosen-is by_uid set test messages same =
    chosen_from-is by_uid (last_of by_uid messages) set test 0 messages
    (λ k one l. subst (λ n. test n ≡ is_in_set (last_of by_uid messages) set (called by_uid n (get_or messages k one))) (sym (zero-add k)) (same k one l))

-- ---- UIDs

pub uids_rise : (messages : List Listed) → IsStrictlyIncreasing (map (λ (one : Listed). one.uid) messages) → IsNonDecreasingBy (λ (one : Listed). one.uid) messages
uids_rise messages rise = IsNonDecreasingBy-from_all_adjacent (λ (one : Listed). one.uid) messages next
  where
    next : AllAdjacentBelow (λ (a b : Listed). a.uid ≤ b.uid) messages (length messages)
    next k d l =
        let uid : Listed → ℕ = λ one. one.uid in
        omega (arith, rise k (omega (arith, length-map messages uid)), get_or-map uid messages k d 0 (omega arith), get_or-map uid messages (k + 1) d 0 l)

-- places between two that a search by UIDs gave
pub uid_inside : (messages : List Listed) (low high from to place : ℕ) (one : Listed)
    → IsPartitionPoint (λ (y : Listed). nat_lt y.uid low ≡ true) (λ (y : Listed). nat_lt y.uid low ≡ false) messages from
    → IsPartitionPoint (λ (y : Listed). nat_le y.uid high ≡ true) (λ (y : Listed). nat_le y.uid high ≡ false) messages to
    → place < length messages → (nat_le from place && nat_lt place to) ≡ (nat_le low (get_or messages place one).uid && nat_le (get_or messages place one).uid high)
uid_inside messages low high from to place one begins ends within =
    let uid = (get_or messages place one).uid in
    let first : nat_le from place ≡ nat_le low uid = elim (cases_lt place from) [
      | inl below ↦ lt-leb from place below ∙ sym (lt-leb low uid (ltb-true uid low (begins.0 place one (omega arith) below)))
      | inr above ↦ le-leb from place above ∙ sym (le-leb low uid (ltb-false uid low (begins.1 place one above within)))
    ] in
    let second : nat_lt place to ≡ nat_le uid high = elim (cases_lt place to) [
      | inl below ↦ lt-ltb place to below ∙ sym (le-leb uid high (leb-true uid high (ends.0 place one (omega arith) below)))
      | inr above ↦ le-ltb place to above ∙ sym (lt-leb uid high (leb-false uid high (ends.1 place one above within)))
    ] in
    ap (λ b. b && nat_lt place to) first ∙ ap (λ b. nat_le low uid && b) second

-- ---- numbers that aren't past the last one

pub ends_within : (by_uid : Bool) (last : ℕ) (set : Set) (messages : List Listed) (i : ℕ) (d : Option ℕ × Option ℕ) → last ≡ last_of by_uid messages → is_refused by_uid set messages ≡ false → i < length set.ranges → by_uid ≡ false
    → (end_of last (get_or set.ranges i d).0 ≤ length messages) × (end_of last (get_or set.ranges i d).1 ≤ length messages)
ends_within true last set messages i d is none l by_number = absurd (true≢false by_number)
ends_within false last set messages i d is none l by_number =
    let count = length messages in
    let range = get_or set.ranges i d in
    let passes : Option ℕ × Option ℕ → Bool = λ r. nat_lt count (end_of count r.0) || nat_lt count (end_of count r.1) in
    let here : passes range ≡ false = false_from_ne_true (passes range) (λ yes. both_ways (list_any passes set.ranges) none (list_any_at passes set.ranges i d l yes)) in
    let parts = or_parts (nat_lt count (end_of count range.0)) (nat_lt count (end_of count range.1)) here in
    let first = ltb-false count (end_of count range.0) parts.0 in
    let second = ltb-false count (end_of count range.1) parts.1 in
    (omega (arith, first, ap (λ n. end_of n range.0) is), omega (arith, second, ap (λ n. end_of n range.1) is))

-- ---- all stretches, told in order

pub chosen_told : (by_uid : Bool) (last : ℕ) (set : Set) (messages : List Listed) (made sorted : List Stretch) (places : List ℕ) → last ≡ last_of by_uid messages
    → ((place : ℕ) (one : Listed) → place < length messages → in_stretches made place ≡ is_in_set last set (called by_uid place (get_or messages place one)))
    → EndWithin (length messages) made → IsPermutation made sorted → ((count : ℕ) → EndWithin count sorted → places ≡ places_below sorted count) → places ≡ chosen_places by_uid set messages
chosen_told by_uid last set messages made sorted places is among within moved told =
    told (length messages) (All-permutation (λ (s : Stretch). s.to ≤ length messages) made sorted moved within)
    ∙ sym (chosen-is by_uid set (in_stretches sorted) messages (λ place one l.
    sym (list_any-IsPermutation (is_inside place) made sorted moved) ∙ (among place one l ∙ ap (λ n. is_in_set n set (called by_uid place (get_or messages place one))) is)))
