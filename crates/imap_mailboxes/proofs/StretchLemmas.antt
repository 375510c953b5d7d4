-- Places gone through in ascending order.
use Rattle.std.proofs.Common.{◌≡◌, ℕ, zero, suc, ◌+◌, ◌-◌, ◌<◌, ◌≤◌, max, Bool, true, false, ◌||◌, nat_le, nat_lt, List, [], ◌∷◌, ◌++◌, length, get_or, inl, inr, refl, sym, ap, ◌∙◌, arith, append-nil, add-zero, zero-add}
use Rattle.std.proofs.lemmas.Bool.{cases_lt, and_left, and_right, and_from, le-leb, lt-leb, lt-ltb, le-ltb, cond-true, cond-false}
use Rattle.std.proofs.lemmas.List.{get_or_read}
use Rattle.std.proofs.lemmas.List.Elements.{filter-append}
use Rattle.std.proofs.lemmas.List.Folds.{list_any_none, list_any_at, list_any-append}
use Rattle.std.specs.List.{filter, range_with_len, All}
use Rattle.std.specs.List.Sorted.{IsNonDecreasingBy}
use Rattle.imap_mailboxes.specs.declared.sets.Stretch.{Stretch}
use Rattle.imap_mailboxes.specs.private.Stretches.{is_inside, in_stretches, EndWithin, places_below}

-- ---- ranges of places

range_parts : (at m n : ℕ) → range_with_len at (m + n) ≡ range_with_len at m ++ range_with_len (at + m) n
range_parts at zero n = ap (range_with_len at) (zero-add n) ∙ ap (λ k. range_with_len k n) (sym (add-zero at))
range_parts at (suc m) n =
    let sum : suc m + n ≡ suc (m + n) = omega arith in
    let next : at + 1 + m ≡ at + suc m = omega arith in
    ap (range_with_len at) sum ∙ (ap (λ z. at ∷ z) (range_parts (at + 1) m n) ∙ ap (λ k. (at ∷ range_with_len (at + 1) m) ++ range_with_len k n) next)

-- one more place
pub range_push : (at place : ℕ) → at ≤ place → range_with_len at (place + 1 - at) ≡ range_with_len at (place - at) ++ place ∷ []
range_push at place le =
    let sum : place + 1 - at ≡ (place - at) + 1 = omega arith in
    let last : at + (place - at) ≡ place = omega arith in
    ap (range_with_len at) sum ∙ (range_parts at (place - at) 1 ∙ ap (λ k. range_with_len at (place - at) ++ k ∷ []) last)

filter_none : (test : ℕ → Bool) (at n : ℕ) → ((k : ℕ) → at ≤ k → k < at + n → test k ≡ false) → filter test (range_with_len at n) ≡ []
filter_none test at zero none = refl
filter_none test at (suc n) none = cond-false (test at) _ _ (none at (omega arith) (omega arith)) ∙ filter_none test (at + 1) n (λ k low high. none k (omega arith) (omega arith))

filter_all : (test : ℕ → Bool) (at n : ℕ) → ((k : ℕ) → at ≤ k → k < at + n → test k ≡ true) → filter test (range_with_len at n) ≡ range_with_len at n
filter_all test at zero all = refl
filter_all test at (suc n) all = cond-true (test at) _ _ (all at (omega arith) (omega arith)) ∙ ap (λ z. at ∷ z) (filter_all test (at + 1) n (λ k low high. all k (omega arith) (omega arith)))

filter_parts : (test : ℕ → Bool) (m n : ℕ) → m ≤ n → filter test (range_with_len 0 n) ≡ filter test (range_with_len 0 m) ++ filter test (range_with_len m (n - m))
filter_parts test m n le =
    let sum : n ≡ m + (n - m) = omega arith in
    ap (λ k. filter test (range_with_len 0 k)) sum ∙ (ap (filter test) (range_parts 0 m (n - m)) ∙ (filter-append test (range_with_len 0 m) (range_with_len (0 + m) (n - m))
    ∙ ap (λ k. filter test (range_with_len 0 m) ++ filter test (range_with_len k (n - m))) (zero-add m)))

-- ---- stretches in order

-- The stretches before this one end by `next`.
pub record AreDone (stretches : List Stretch) (i next : ℕ) : Type 0 where
  pub ended : (j : ℕ) (one : Stretch) → j < i → (get_or stretches j one).to ≤ next
  pub bound : (count : ℕ) → EndWithin count stretches → next ≤ count

pub done_begin : (stretches : List Stretch) → AreDone stretches 0 0
done_begin stretches = record { ended = λ j one lt. absurd (omega (arith, lt)); bound = λ count within. omega arith }

pub done_more : (stretches : List Stretch) (i next : ℕ) (one : Stretch) → AreDone stretches i next → i < length stretches → one ≡ get_or stretches i one → AreDone stretches (i + 1) (max next one.to)
done_more stretches i next one done lt is = record {
  ended = λ j d below. elim (cases_lt j i) [
    | inl before ↦ omega (arith, done.ended j d before)
    | inr last ↦
        let at : j ≡ i = omega arith in
        omega (arith, ap (λ k. (get_or stretches k d).to) at, ap (λ (s : Stretch). s.to) (get_or_read stretches i one lt is d))
  ];
  bound = λ count within. omega (arith, done.bound count within, within i one lt, ap (λ (s : Stretch). s.to) is);
}

-- no place before the next stretch is among them that isn't told yet
gap : (stretches : List Stretch) (i next : ℕ) (one : Stretch) → IsNonDecreasingBy (λ (s : Stretch). s.from) stretches → AreDone stretches i next → i < length stretches → one ≡ get_or stretches i one
    → (k : ℕ) → next ≤ k → k < one.from → in_stretches stretches k ≡ false
gap stretches i next one rise done lt is k low high = list_any_none (is_inside k) stretches each
  where
    each : All (λ s. is_inside k s ≡ false) stretches
    each j d l = elim (cases_lt j i) [
      | inl before ↦ and_right (nat_le (get_or stretches j d).from k) (nat_lt k (get_or stretches j d).to) (le-ltb k (get_or stretches j d).to (omega (arith, done.ended j d before)))
      | inr following ↦ and_left (nat_le (get_or stretches j d).from k) (nat_lt k (get_or stretches j d).to)
          (lt-leb (get_or stretches j d).from k (omega (arith, rise i j d following l, ap (λ (s : Stretch). s.from) (get_or_read stretches i one lt is d))))
    ]

inside : (stretches : List Stretch) (i : ℕ) (one : Stretch) → i < length stretches → one ≡ get_or stretches i one → (k : ℕ) → one.from ≤ k → k < one.to → in_stretches stretches k ≡ true
inside stretches i one lt is k low high =
    list_any_at (is_inside k) stretches i one lt (ap (is_inside k) (sym is) ∙ and_from (nat_le one.from k) (nat_lt k one.to) (le-leb one.from k low) (lt-ltb k one.to high))

skipped : (stretches : List Stretch) (m n : ℕ) → m ≤ n → ((k : ℕ) → m ≤ k → k < n → in_stretches stretches k ≡ false) → places_below stretches n ≡ places_below stretches m
skipped stretches m n le none =
    filter_parts (in_stretches stretches) m n le ∙ (ap (λ z. places_below stretches m ++ z) (filter_none (in_stretches stretches) m (n - m) (λ k low high. none k low (omega arith))) ∙ append-nil (places_below stretches m))

pub stretch_told : (stretches : List Stretch) (i next : ℕ) (one : Stretch) → IsNonDecreasingBy (λ (s : Stretch). s.from) stretches → AreDone stretches i next → i < length stretches → one ≡ get_or stretches i one
    → places_below stretches next ++ range_with_len (max next one.from) (one.to - max next one.from) ≡ places_below stretches (max next one.to)
stretch_told stretches i next one rise done lt is = elim (cases_lt (max next one.from) one.to) [
  | inl some ↦
      let start = max next one.from in
      let end : max next one.to ≡ one.to = omega arith in
      let none : places_below stretches start ≡ places_below stretches next = skipped stretches next start (omega arith) (λ k low high. gap stretches i next one rise done lt is k low (omega arith)) in
      let all : places_below stretches one.to ≡ places_below stretches start ++ range_with_len start (one.to - start) =
      filter_parts (in_stretches stretches) start one.to (omega arith)
      ∙ ap (λ z. places_below stretches start ++ z) (filter_all (in_stretches stretches) start (one.to - start) (λ k low high. inside stretches i one lt is k (omega arith) (omega arith))) in
      ap (λ z. z ++ range_with_len start (one.to - start)) (sym none) ∙ (sym all ∙ ap (places_below stretches) (sym end))
  | inr empty ↦
      let nothing : one.to - max next one.from ≡ 0 = omega arith in
      ap (λ n. places_below stretches next ++ range_with_len (max next one.from) n) nothing
      ∙ (append-nil (places_below stretches next) ∙ sym (skipped stretches next (max next one.to) (omega arith) (λ k low high. gap stretches i next one rise done lt is k low (omega arith))))
]

pub all_told : (stretches : List Stretch) (i next count : ℕ) → AreDone stretches i next → length stretches ≤ i → EndWithin count stretches → places_below stretches next ≡ places_below stretches count
all_told stretches i next count done all within =
    sym (skipped stretches next count (done.bound count within) (λ k low high. list_any_none (is_inside k) stretches
    (λ j d l. and_right (nat_le (get_or stretches j d).from k) (nat_lt k (get_or stretches j d).to) (le-ltb k (get_or stretches j d).to (omega (arith, done.ended j d (omega arith)))))))

-- one stretch more
or_false : (b : Bool) → (b || false) ≡ b
or_false true = refl
or_false false = refl

pub among-push : (stretches : List Stretch) (one : Stretch) (place : ℕ) → in_stretches (stretches ++ one ∷ []) place ≡ (in_stretches stretches place || is_inside place one)
among-push stretches one place = list_any-append (is_inside place) stretches (one ∷ []) ∙ ap (λ b. in_stretches stretches place || b) (or_false (is_inside place one))
