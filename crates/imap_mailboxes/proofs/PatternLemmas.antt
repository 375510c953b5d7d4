-- What a pattern matches.
use Rattle.std.proofs.Common.{◌≡◌, ℕ, zero, suc, ◌+◌, ◌-◌, ◌<◌, ◌≤◌, Bool, true, false, not, cond, ◌&&◌, ◌||◌, ◌==◌, List, [], ◌∷◌, ◌++◌, length, take, drop, inl, inr, refl, sym, ap, ◌∙◌, arith, append-nil, take-append-drop}
use Rattle.std.proofs.lemmas.Bool.{false≢true, both_ways, and_parts, and_from, and_left, or_cases, or_left, or_right, not-true, cond-true, cond-false, cases_Bool, cases_lt, eqb-true, eq-eqb, false_from_ne_true}
use Rattle.std.proofs.lemmas.List.{length-append, length-drop, drop-drop, drop_at, take_at}
use Rattle.std.proofs.lemmas.List.Prefix.{at_from_reads, at_reads}
use Rattle.std.proofs.lemmas.List.Sums.{sum_by-cons}
use Rattle.std.proofs.lemmas.Slice.Eq.{bytes_eq-Decides}
use Rattle.std.specs.List.{list_all, count_by}
use Rattle.std.specs.Str.{bytes_eq}
use Rattle.memchr.specs.Find.{OccursAt, Nowhere}
use Rattle.imap_words.specs.Tokens.{is_list_wildcard}
use Rattle.imap_mailboxes.specs.Patterns.{is_match, some_tail}
use Rattle.imap_mailboxes.specs.private.Runs.{is_no_wildcard}

-- ---- tails

same_tails : (f g : List ℕ → Bool) → ((n : List ℕ) → f n ≡ g n) → (name : List ℕ) → some_tail f name ≡ some_tail g name
same_tails f g same [] = same []
same_tails f g same (x ∷ name) = ap (λ b. b || some_tail f name) (same (x ∷ name)) ∙ ap (λ b. g (x ∷ name) || b) (same_tails f g same name)

or_again : (a b : Bool) → ((a || b) || b) ≡ (a || b)
or_again true b = refl
or_again false true = refl
or_again false false = refl

tails_twice : (f : List ℕ → Bool) (name : List ℕ) → some_tail (some_tail f) name ≡ some_tail f name
tails_twice f [] = refl
tails_twice f (x ∷ name) = ap (λ b. some_tail f (x ∷ name) || b) (tails_twice f name) ∙ or_again (f (x ∷ name)) (some_tail f name)

tail_here : (f : List ℕ → Bool) (name : List ℕ) (k : ℕ) → f (drop k name) ≡ true → some_tail f name ≡ true
tail_here f [] zero here = here
tail_here f [] (suc k) here = here
tail_here f (x ∷ name) zero here = or_left (f (x ∷ name)) (some_tail f name) here
tail_here f (x ∷ name) (suc k) here = or_right (f (x ∷ name)) (some_tail f name) (tail_here f name k here)

record HasTail (f : List ℕ → Bool) (name : List ℕ) : Type 0 where
  at : ℕ
  within : at ≤ length name
  passes : f (drop at name) ≡ true

tail_found : (f : List ℕ → Bool) (name : List ℕ) → some_tail f name ≡ true → HasTail f name
tail_found f [] some = record { at = 0; within = omega arith; passes = some }
tail_found f (x ∷ name) some = elim (or_cases (f (x ∷ name)) (some_tail f name) some) [
  | inl here ↦ record { at = 0; within = omega arith; passes = here }
  | inr later ↦ let t = tail_found f name later in record { at = suc t.at; within = omega (arith, t.within); passes = t.passes }
]

-- ---- one octet of a pattern

and_true : (a b : Bool) → a ≡ true → (a && b) ≡ b
and_true true b e = refl
and_true false b e = absurd (false≢true e)

pub match-wildcard : (w : ℕ) (pattern name : List ℕ) → is_list_wildcard w ≡ true → is_match (w ∷ pattern) name ≡ some_tail (is_match pattern) name
unfolding is_match
match-wildcard w pattern [] wild = and_true (is_list_wildcard w) (is_match pattern []) wild
match-wildcard w pattern (y ∷ name) wild = cond-true (is_list_wildcard w) _ _ wild

match-plain_end : (x : ℕ) (pattern : List ℕ) → is_list_wildcard x ≡ false → is_match (x ∷ pattern) [] ≡ false
unfolding is_match
match-plain_end x pattern plain = and_left (is_list_wildcard x) (is_match pattern []) plain

match-plain : (x y : ℕ) (pattern name : List ℕ) → is_list_wildcard x ≡ false → is_match (x ∷ pattern) (y ∷ name) ≡ (x == y && is_match pattern name)
unfolding is_match
match-plain x y pattern name plain = cond-false (is_list_wildcard x) _ _ plain

pub match-end : is_match [] [] ≡ true
unfolding is_match
match-end = refl

only_end : (name : List ℕ) → is_match [] name ≡ true → name ≡ []
unfolding is_match
only_end [] e = refl
only_end (y ∷ name) e = absurd (false≢true e)

same_truth : (a b : Bool) → (a ≡ true → b ≡ true) → (b ≡ true → a ≡ true) → a ≡ b
same_truth true b to from = sym (to refl)
same_truth false true to from = from refl
same_truth false false to from = refl

-- an empty pattern matches the empty name alone
pub match-nothing : (name : List ℕ) (b : Bool) → (b ≡ true → name ≡ []) → (name ≡ [] → b ≡ true) → b ≡ is_match [] name
match-nothing name b to from = same_truth b (is_match [] name) (λ e. ap (is_match []) (to e) ∙ match-end) (λ e. from (only_end name e))

-- what patterns that mean the same mean after the same octets
pub match-following : (run p q name : List ℕ) → ((n : List ℕ) → is_match p n ≡ is_match q n) → is_match (run ++ p) name ≡ is_match (run ++ q) name
match-following [] p q name same = same name
match-following (x ∷ run) p q [] same = elim (cases_Bool (is_list_wildcard x)) [
  | inl wild ↦ match-wildcard x (run ++ p) [] wild ∙ (match-following run p q [] same ∙ sym (match-wildcard x (run ++ q) [] wild))
  | inr plain ↦ match-plain_end x (run ++ p) plain ∙ sym (match-plain_end x (run ++ q) plain)
]
match-following (x ∷ run) p q (y ∷ name) same = elim (cases_Bool (is_list_wildcard x)) [
  | inl wild ↦ match-wildcard x (run ++ p) (y ∷ name) wild ∙ (same_tails (is_match (run ++ p)) (is_match (run ++ q)) (λ n. match-following run p q n same) (y ∷ name) ∙ sym (match-wildcard x (run ++ q) (y ∷ name) wild))
  | inr plain ↦ match-plain x y (run ++ p) name plain ∙ (ap (λ b. x == y && b) (match-following run p q name same) ∙ sym (match-plain x y (run ++ q) name plain))
]

-- one wildcard does for two, and each for the other
pub match-two_wildcards : (v w : ℕ) (pattern name : List ℕ) → is_list_wildcard v ≡ true → is_list_wildcard w ≡ true → is_match (v ∷ w ∷ pattern) name ≡ is_match (v ∷ pattern) name
match-two_wildcards v w pattern name first second =
    match-wildcard v (w ∷ pattern) name first ∙ (same_tails (is_match (w ∷ pattern)) (some_tail (is_match pattern)) (λ n. match-wildcard w pattern n second) name
    ∙ (tails_twice (is_match pattern) name ∙ sym (match-wildcard v pattern name first)))

pub match-any_wildcard : (v w : ℕ) (pattern name : List ℕ) → is_list_wildcard v ≡ true → is_list_wildcard w ≡ true → is_match (v ∷ pattern) name ≡ is_match (w ∷ pattern) name
match-any_wildcard v w pattern name first second = match-wildcard v pattern name first ∙ sym (match-wildcard w pattern name second)

-- ---- a run of octets that are no wildcards

pub match-run : (run pattern name : List ℕ) → list_all is_no_wildcard run ≡ true → is_match (run ++ pattern) (run ++ name) ≡ is_match pattern name
match-run [] pattern name plain = refl
match-run (x ∷ run) pattern name plain =
    let parts = and_parts (is_no_wildcard x) (list_all is_no_wildcard run) plain in
    match-plain x x (run ++ pattern) (run ++ name) (not-true (is_list_wildcard x) parts.0)
    ∙ (and_true (x == x) (is_match (run ++ pattern) (run ++ name)) (eq-eqb x x refl) ∙ match-run run pattern name parts.1)

record BeginsWithRun (run pattern name : List ℕ) : Type 0 where
  rest : List ℕ
  is : name ≡ run ++ rest
  matches : is_match pattern rest ≡ true

run_first : (run pattern name : List ℕ) → list_all is_no_wildcard run ≡ true → is_match (run ++ pattern) name ≡ true → BeginsWithRun run pattern name
run_first [] pattern name plain e = record { rest = name; is = refl; matches = e }
run_first (x ∷ run) pattern [] plain e =
    absurd (both_ways (is_match (x ∷ (run ++ pattern)) []) (match-plain_end x (run ++ pattern) (not-true (is_list_wildcard x) (and_parts (is_no_wildcard x) (list_all is_no_wildcard run) plain).0)) e)
run_first (x ∷ run) pattern (y ∷ name) plain e =
    let parts = and_parts (is_no_wildcard x) (list_all is_no_wildcard run) plain in
    let both = and_parts (x == y) (is_match (run ++ pattern) name) (sym (match-plain x y (run ++ pattern) name (not-true (is_list_wildcard x) parts.0)) ∙ e) in
    let same : x ≡ y = eqb-true x y both.0 in
    let r = run_first run pattern name parts.1 both.1 in
    let is : name ≡ run ++ r.rest = r.is in
    record { rest = r.rest; is = cc; matches = r.matches }

pub match-no_run : (run pattern name : List ℕ) → list_all is_no_wildcard run ≡ true → ((rest : List ℕ) → name ≡ run ++ rest → ⊥) → is_match (run ++ pattern) name ≡ false
match-no_run run pattern name plain other = false_from_ne_true (is_match (run ++ pattern) name) (λ e. let r = run_first run pattern name plain e in other r.rest r.is)

-- ---- a run after a wildcard

record HasRun (run pattern name : List ℕ) : Type 0 where
  at : ℕ
  stands : OccursAt name run at
  matches : is_match pattern (drop (at + length run) name) ≡ true

run_within : (run pattern name : List ℕ) → list_all is_no_wildcard run ≡ true → is_match (42 ∷ (run ++ pattern)) name ≡ true → HasRun run pattern name
run_within run pattern name plain e =
    let t = tail_found (is_match (run ++ pattern)) name (sym (match-wildcard 42 (run ++ pattern) name refl) ∙ e) in
    let r = run_first run pattern (drop t.at name) plain t.passes in
    let following : drop (t.at + length run) name ≡ r.rest = sym (drop-drop (length run) t.at name) ∙ (ap (drop (length run)) r.is ∙ drop_at run r.rest (length run) refl) in
    record {
      at = t.at;
      stands = record {
        fits = omega (arith, t.within, length-drop t.at name, ap length r.is, length-append run r.rest);
        reads = at_reads 0 name run t.at r.rest r.is;
      };
      matches = ap (is_match pattern) following ∙ r.matches;
    }

pub match-missing : (run pattern name : List ℕ) → list_all is_no_wildcard run ≡ true → Nowhere (OccursAt name run) 0 (length name + 1) → is_match (42 ∷ (run ++ pattern)) name ≡ false
match-missing run pattern name plain none =
    false_from_ne_true (is_match (42 ∷ (run ++ pattern)) name) (λ e. let r = run_within run pattern name plain e in none r.at (omega arith) (omega (arith, r.stands.fits)) r.stands)

match-later : (pattern name : List ℕ) (k : ℕ) → is_match (42 ∷ pattern) (drop k name) ≡ true → is_match (42 ∷ pattern) name ≡ true
match-later pattern name k e =
    match-wildcard 42 pattern name refl ∙ (sym (tails_twice (is_match pattern) name) ∙ tail_here (some_tail (is_match pattern)) name k (sym (match-wildcard 42 pattern (drop k name) refl) ∙ e))

-- the first place is as good as any
pub match-found : (run pattern name : List ℕ) (at : ℕ) → list_all is_no_wildcard run ≡ true → OccursAt name run at → Nowhere (OccursAt name run) 0 at
    → is_match (42 ∷ (run ++ 42 ∷ pattern)) name ≡ is_match (42 ∷ pattern) (drop (at + length run) name)
match-found run pattern name at plain here none = same_truth (is_match (42 ∷ (run ++ 42 ∷ pattern)) name) (is_match (42 ∷ pattern) (drop (at + length run) name)) to from
  where
    to : is_match (42 ∷ (run ++ 42 ∷ pattern)) name ≡ true → is_match (42 ∷ pattern) (drop (at + length run) name) ≡ true
    to e = elim (cases_lt (run_within run (42 ∷ pattern) name plain e).at at) [
      | inl before ↦ absurd (none _ (omega arith) before (run_within run (42 ∷ pattern) name plain e).stands)
      | inr le ↦
          let r = run_within run (42 ∷ pattern) name plain e in
          let sum : (at + length run) + (r.at - at) ≡ r.at + length run = omega arith in
          let rest : drop (r.at - at) (drop (at + length run) name) ≡ drop (r.at + length run) name = drop-drop (r.at - at) (at + length run) name ∙ ap (λ n. drop n name) sum in
          match-later pattern (drop (at + length run) name) (r.at - at) (ap (is_match (42 ∷ pattern)) rest ∙ r.matches)
    ]

    from : is_match (42 ∷ pattern) (drop (at + length run) name) ≡ true → is_match (42 ∷ (run ++ 42 ∷ pattern)) name ≡ true
    from e =
        let is = at_from_reads 0 name run at here.fits here.reads in
        let matches : is_match (run ++ 42 ∷ pattern) (drop at name) ≡ true = ap (is_match (run ++ 42 ∷ pattern)) is ∙ (match-run run (42 ∷ pattern) (drop (at + length run) name) plain ∙ e) in
        match-wildcard 42 (run ++ 42 ∷ pattern) name refl ∙ tail_here (is_match (run ++ 42 ∷ pattern)) name at matches

-- ---- the last run

pub match-last : (run name : List ℕ) (b : Bool) → list_all is_no_wildcard run ≡ true → (b ≡ true → name ≡ take (length name - length run) name ++ run) → ((front : List ℕ) → name ≡ front ++ run → b ≡ true)
    → b ≡ is_match (42 ∷ run) name
match-last run name b plain ends is_end = same_truth b (is_match (42 ∷ run) name) to from
  where
    whole : is_match run run ≡ true
    whole = let e = match-run run [] [] plain in rw (append-nil run) at (e ∙ match-end)

    to : b ≡ true → is_match (42 ∷ run) name ≡ true
    to e =
        let front = take (length name - length run) name in
        let rest : drop (length front) name ≡ run = ap (drop (length front)) (ends e) ∙ drop_at front run (length front) refl in
        match-wildcard 42 run name refl ∙ tail_here (is_match run) name (length front) (ap (is_match run) rest ∙ whole)

    from : is_match (42 ∷ run) name ≡ true → b ≡ true
    from e =
        let t = tail_found (is_match run) name (sym (match-wildcard 42 run name refl) ∙ e) in
        let r = run_first run [] (drop t.at name) plain (ap (λ p. is_match p (drop t.at name)) (append-nil run) ∙ t.passes) in
        let rest : drop t.at name ≡ run = r.is ∙ (ap (λ z. run ++ z) (only_end r.rest r.matches) ∙ append-nil run) in
        is_end (take t.at name) (sym (take-append-drop t.at name) ∙ ap (λ z. take t.at name ++ z) rest)

-- ---- a pattern with more plain octets than the name has octets

abbrev weight : ℕ → ℕ
weight x = cond (is_no_wildcard x) 1 0

pub plain_fits : (pattern name : List ℕ) → is_match pattern name ≡ true → count_by is_no_wildcard pattern ≤ length name
plain_fits [] name e = omega arith
plain_fits (x ∷ pattern) name e = elim (cases_Bool (is_list_wildcard x)) [
  | inl wild ↦
      let t = tail_found (is_match pattern) name (sym (match-wildcard x pattern name wild) ∙ e) in
      let none : weight x ≡ 0 = cond-false (is_no_wildcard x) 1 0 (ap not wild) in
      omega (arith, plain_fits pattern (drop t.at name) t.passes, length-drop t.at name, none, sum_by-cons weight x pattern)
  | inr plain ↦
      let r = run_first (x ∷ []) pattern name (and_from (is_no_wildcard x) true (ap not plain) refl) e in
      let one : weight x ≡ 1 = cond-true (is_no_wildcard x) 1 0 (ap not plain) in
      omega (arith, plain_fits pattern r.rest r.matches, ap length r.is, one, sum_by-cons weight x pattern)
]

pub too_long : (pattern name : List ℕ) (plain : ℕ) → plain ≡ count_by is_no_wildcard pattern → length name < plain → false ≡ is_match pattern name
too_long pattern name plain so_many short = sym (false_from_ne_true (is_match pattern name) (λ e. omega (arith, so_many, plain_fits pattern name e)))

-- ---- what a name begins with, as the test of octets tells

pub no_front : (front name : List ℕ) → bytes_eq (take (length front) name) front ≡ false → (rest : List ℕ) → name ≡ front ++ rest → ⊥
no_front front name differs rest e =
    both_ways (bytes_eq (take (length front) name) front) differs ((bytes_eq-Decides (take (length front) name) front).1 (ap (take (length front)) e ∙ take_at front rest (length front) refl))

pub has_front : (front name rest : List ℕ) → bytes_eq (take (length front) name) front ≡ true → rest ≡ drop (length front) name → name ≡ front ++ rest
has_front front name rest same e =
    sym (take-append-drop (length front) name) ∙ (ap (λ z. z ++ drop (length front) name) ((bytes_eq-Decides (take (length front) name) front).0 same) ∙ ap (λ z. front ++ z) (sym e))
