-- Runs of octets before which at most one dot is put.
use Rattle.std.proofs.Common.{◌≡◌, ℕ, zero, suc, ◌+◌, ◌<◌, ◌≤◌, List, [], ◌∷◌, ◌++◌, length, take, drop, get_or, Bool, true, false, ◌==◌, ◌&&◌, cond, refl, sym, ap, ◌∙◌, arith, append_assoc, inl, inr, Some, None, add-zero}
use Rattle.std.proofs.lemmas.Bool.{cases_lt}
use Rattle.std.proofs.lemmas.Bool.Decides.{nat_tests}
use Rattle.std.proofs.lemmas.List.{take-append-drop}
use Rattle.memchr.specs.Find.{FindsNeedle, OccursAt}
use Rattle.pop_session.specs.declared.stuffing.Place.{Place}
use Rattle.pop_session.specs.declared.stuffing.Place.TheVariants.{LineStart, AfterCr, Within}
use Rattle.pop_session.specs.private.Stuffing.{is_start, is_after_cr, next_place, place_after, needs_dot, stuffed_octet, stuffed_from, dot_before, HasNoLfDot}
use Rattle.pop_session.proofs.StuffingLemmas.{stuffed_from-append, place_after-append}

-- ---- the place after octets

forget_by : (b c d e : Bool) → cond d AfterCr (cond (is_after_cr (cond b AfterCr (cond c LineStart Within)) && e) LineStart Within)
    ≡ cond d AfterCr (cond (is_after_cr (cond b AfterCr Within) && e) LineStart Within)
forget_by true c d e = refl
forget_by false true d e = refl
forget_by false false d e = refl

-- where the octet before the last one stood says nothing
pub last_two : (place : Place) (front : List ℕ) (x y : ℕ) → next_place (next_place Within x) y ≡ place_after place (front ++ x ∷ y ∷ [])
last_two place front x y = sym (place_after-append place front (x ∷ y ∷ []) ∙ forget_by (x == 13) (is_after_cr (place_after place front) && x == 10) (y == 13) (y == 10))

-- ---- octets in which no dot follows an LF

-- after an octet that isn't LF no line starts
no_start : (place : Place) (x : ℕ) (b c : Bool) → (x == 13) ≡ b → (x == 10) ≡ c → is_start (next_place place x) ≡ true → x ≡ 10
no_start place x true c p q starts = absurd (differ (rw p at starts))
  where
    differ : false ≡ true → ⊥
    differ e = cc
no_start place x false true p q starts = grind (arith, nat_tests)
no_start place x false false p q starts = absurd (differ (is_after_cr place) (rw (p, q) at starts))
  where
    differ : (c : Bool) → is_start (cond (c && false) LineStart Within) ≡ true → ⊥
    differ true e = cc
    differ false e = cc

-- the second octet has no dot
second_by : (place : Place) (x y : ℕ) (rest : List ℕ) → HasNoLfDot (x ∷ y ∷ rest) → (b c : Bool) → is_start (next_place place x) ≡ b → (y == 46) ≡ c
    → dot_before (next_place place x) (y ∷ rest) ≡ []
second_by place x y rest none true true p q =
    let lf : x ≡ 10 = no_start place x (x == 13) (x == 10) refl refl p in
    let dot : y ≡ 46 = grind (arith, nat_tests) in
    absurd (none 0 lf dot)
second_by place x y rest none true false p q = rw (p, q) refl
second_by place x y rest none false c p q = rw p refl

octet_first : (place : Place) (x : ℕ) (rest : List ℕ) (b : Bool) → needs_dot place x ≡ b → stuffed_octet place x ++ rest ≡ dot_before place (x ∷ rest) ++ x ∷ rest
octet_first place x rest true is = rw is refl
octet_first place x rest false is = rw is refl

none_following : (x : ℕ) (rest : List ℕ) → HasNoLfDot (x ∷ rest) → HasNoLfDot rest
none_following x rest none at lf dot = let next : suc at + 1 ≡ suc (at + 1) = omega arith in none (suc at) lf (rw next dot)

pub plain : (place : Place) (octets : List ℕ) → HasNoLfDot octets → stuffed_from place octets ≡ dot_before place octets ++ octets
plain place [] none = refl
plain place (x ∷ []) none = octet_first place x [] (needs_dot place x) refl
plain place (x ∷ y ∷ rest) none =
    let next = plain (next_place place x) (y ∷ rest) (none_following x (y ∷ rest) none) in
    let second = second_by place x y rest none (is_start (next_place place x)) (y == 46) refl refl in
    ap (λ more. stuffed_octet place x ++ more) (next ∙ ap (λ dots. dots ++ y ∷ rest) second) ∙ octet_first place x (y ∷ rest) (needs_dot place x) refl

-- the dot of a run is that of all
dot_of_run : (place : Place) (octets others : List ℕ) → 0 < length octets → dot_before place octets ≡ dot_before place (octets ++ others)
dot_of_run place [] others some = absurd (omega arith)
dot_of_run place (x ∷ octets) others some = refl

-- a run, and what is after it
pub run_first : (place : Place) (run others : List ℕ) → 0 < length run → HasNoLfDot run
    → stuffed_from place (run ++ others) ≡ dot_before place (run ++ others) ++ (run ++ stuffed_from (place_after place run) others)
run_first place run others some none =
    stuffed_from-append place run others
    ∙ ap (λ front. front ++ stuffed_from (place_after place run) others) (plain place run none ∙ ap (λ dots. dots ++ run) (dot_of_run place run others some))
    ∙ append_assoc (dot_before place (run ++ others)) run (stuffed_from (place_after place run) others)

-- ---- what `memmem` finds

get_or-take : (n : ℕ) (xs : List ℕ) (k : ℕ) → k < n → get_or (take n xs) k 0 ≡ get_or xs k 0
get_or-take zero xs k lt = absurd (omega arith)
get_or-take (suc n) [] k lt = refl
get_or-take (suc n) (x ∷ xs) zero lt = refl
get_or-take (suc n) (x ∷ xs) (suc k) lt = get_or-take n xs k (omega arith)

-- past the end stands no dot
get_or-past : (n : ℕ) (xs : List ℕ) (k : ℕ) → n ≤ k → get_or (take n xs) k 0 ≡ 0
get_or-past zero xs k le = refl
get_or-past (suc n) [] k le = refl
get_or-past (suc n) (x ∷ xs) zero le = absurd (omega arith)
get_or-past (suc n) (x ∷ xs) (suc k) le = get_or-past n xs k (omega arith)

within_by : (xs : List ℕ) (k : ℕ) → get_or xs k 0 ≡ 46 → k < length xs
within_by [] k dot = cc
within_by (x ∷ xs) zero dot = omega arith
within_by (x ∷ xs) (suc k) dot = let within = within_by xs k dot in omega arith

occurs : (xs : List ℕ) (at : ℕ) → get_or xs at 0 ≡ 10 → get_or xs (at + 1) 0 ≡ 46 → OccursAt xs (10 ∷ 46 ∷ []) at
occurs xs at lf dot = record {
  fits = let within = within_by xs (at + 1) dot in omega arith;
  reads = λ j lt. elim (cases_lt j 1) [
    | inl small ↦ let first : j ≡ 0 = omega arith in rw (first, add-zero at) lf
    | inr big ↦ let second : j ≡ 1 = omega arith in rw second dot
  ];
}

-- no dot follows an LF before a place, where it doesn't in all octets before
pub none_before : (xs : List ℕ) (n : ℕ) → ((at : ℕ) → at + 1 < n → OccursAt xs (10 ∷ 46 ∷ []) at → ⊥) → HasNoLfDot (take n xs)
none_before xs n none at lf dot = elim (cases_lt (at + 1) n) [
  | inl early ↦ none at early (occurs xs at (sym (get_or-take n xs at (omega arith)) ∙ lf) (sym (get_or-take n xs (at + 1) early) ∙ dot))
  | inr late ↦ let nothing = get_or-past n xs (at + 1) late in omega (arith, dot, nothing)
]

pub run_found : (xs : List ℕ) (at : ℕ) → FindsNeedle xs (10 ∷ 46 ∷ []) 0 (Some at) → HasNoLfDot (take (at + 1) xs)
run_found xs at found = none_before xs (at + 1) (λ place lt stands. found.0.before place (omega arith) (omega arith) stands)

pub run_last : (xs : List ℕ) → FindsNeedle xs (10 ∷ 46 ∷ []) 0 None → HasNoLfDot (take (length xs) xs)
run_last xs none = none_before xs (length xs) (λ place lt stands. none place (omega arith) (omega arith) stands)

-- ---- one turn of the loop

-- a run with its dot, and what is after it
pub run_split : (place after : Place) (rest run others : List ℕ) (n : ℕ) → run ≡ take n rest → others ≡ drop n rest → length run ≡ n → 0 < n → HasNoLfDot (take n rest) → after ≡ place_after place run
    → (dot_before place rest ++ run) ++ stuffed_from after others ≡ stuffed_from place rest
run_split place after rest run others n front back long some none following =
    let split : run ++ others ≡ rest = rw (front, back) (take-append-drop n rest) in
    let first = run_first place run others (omega (arith, long, some)) (rw front none) in
    rw following (append_assoc (dot_before place rest) run (stuffed_from (place_after place run) others) ∙ sym (rw split at first))

-- the dot comes first
pub dot_first : (place : Place) (rest : List ℕ) → (more : List ℕ) × (dot_before place rest ++ more ≡ stuffed_from place rest)
dot_first place [] = ([], refl)
dot_first place (x ∷ rest) =
    let more = stuffed_from (next_place place x) rest in
    (x ∷ more, sym (octet_first place x more (needs_dot place x) refl))

-- the place of one turn
pub place_goes_on : (place after last : Place) (rest run others : List ℕ) (n : ℕ) → run ≡ take n rest → others ≡ drop n rest → after ≡ place_after place run
    → place_after place rest ≡ last → place_after after others ≡ last
place_goes_on place after last rest run others n front back following so_far =
    let split : run ++ others ≡ rest = rw (front, back) (take-append-drop n rest) in
    rw following (sym (place_after-append place run others) ∙ ap (place_after place) split ∙ so_far)
