-- What stands between two dots that are put before lines, and what a message lacks at its end.
use Rattle.std.proofs.Common.{◌≡◌, ℕ, zero, suc, ◌+◌, ◌<◌, ◌≤◌, List, [], ◌∷◌, ◌++◌, length, take, drop, get_or, Bool, true, false, ◌==◌, IsTrue, ◌↔◌, arith, refl, sym, ap, ◌∙◌, add-zero, add-one, append-nil, inl, inr, Some, None}
use Rattle.std.specs.List.{flat_map}
use Rattle.std.proofs.lemmas.Bool.{cases_lt}
use Rattle.std.proofs.lemmas.Bool.Decides.{nat_tests}
use Rattle.std.proofs.Math.Seq.{take-length, drop-length}
use Rattle.std.proofs.lemmas.Grind.{common_steps}
use Rattle.memchr.specs.Find.{FindsNeedle, OccursAt}
use Rattle.mail_wire.specs.Lines.{lines_of, put_before, is_crlf, crlf}
use Rattle.mail_wire.specs.Dots.{stuffed, stuffed_line, are_complete, missing_end}
use Rattle.mail_wire.specs.Message.{IsEnded}
use Rattle.mail_wire.proofs.FirstLine.{is_crlf_true, lines_of-crlf, lines_of-other}
use Rattle.mail_wire.proofs.LineLemmas.{begins, is_crlf_parts}
use Rattle.mail_wire.proofs.DotLemmas.{others_stuffed}
use Rattle.relay_choice.specs.private.Runs.{begins_with_dot, dot_before}

abbrev pub crlf_dot : List ℕ
crlf_dot = 13 ∷ 10 ∷ 46 ∷ []

-- a line that begins with a dot stands after CRLF at place k
record IsDottedAt (xs : List ℕ) (k : ℕ) : Type 0 where
  fits : suc (suc (suc k)) ≤ length xs
  cr : get_or xs k 0 ≡ 13
  lf : get_or xs (suc k) 0 ≡ 10
  dot : get_or xs (suc (suc k)) 0 ≡ 46

later : (x : ℕ) (xs : List ℕ) (k : ℕ) → IsDottedAt (x ∷ xs) (suc k) → IsDottedAt xs k
later x xs k h = record { fits = omega arith; cr = h.cr; lf = h.lf; dot = h.dot }

before : (x : ℕ) (xs : List ℕ) (k : ℕ) → IsDottedAt xs k → IsDottedAt (x ∷ xs) (suc k)
before x xs k h = record { fits = omega arith; cr = h.cr; lf = h.lf; dot = h.dot }

at_place : (xs : List ℕ) (k : ℕ) → OccursAt xs crlf_dot k → IsDottedAt xs k
at_place xs k h = record {
  fits = let fits = h.fits in omega arith;
  cr = rw (add-zero k) at (h.reads 0 (omega arith));
  lf = rw (add-one k) at (h.reads 1 (omega arith));
  dot = let two : k + 2 ≡ suc (suc k) = omega arith in rw two at (h.reads 2 (omega arith));
}

place_of : (xs : List ℕ) (k : ℕ) → IsDottedAt xs k → OccursAt xs crlf_dot k
place_of xs k h = record {
  fits = let fits = h.fits in omega arith;
  reads = λ j lt. elim (cases_lt j 1) [
    | inl small ↦ let first : j ≡ 0 = omega arith in rw (first, add-zero k) h.cr
    | inr big ↦ elim (cases_lt j 2) [
      | inl small ↦ let second : j ≡ 1 = omega arith in rw (second, add-one k) h.lf
      | inr big ↦ let third : j ≡ 2 = omega arith in let two : k + 2 ≡ suc (suc k) = omega arith in rw (third, two) h.dot
    ]
  ];
}

-- ---- the dot before the first line

dot_by : (x : ℕ) (line others : List ℕ) (b : Bool) → (x == 46) ≡ b → stuffed_line (x ∷ line) ++ others ≡ dot_before (x ∷ line) ++ (x ∷ (line ++ others))
dot_by x line others true is = let dot : x ≡ 46 = grind (arith, nat_tests) in rw dot refl
dot_by x line others false is = rw is refl

-- the first line has its dot, and all else is as within a line
first_dot : (xs : List ℕ) → stuffed xs ≡ dot_before xs ++ others_stuffed (lines_of xs)
unfolding stuffed lines_of
first_dot [] = refl
first_dot (x ∷ rest) =
    let first = begins x rest in
    rw (first.split) (dot_by x first.line (flat_map stuffed_line first.lines) (x == 46) refl)

-- no dot is put before a text that begins with none
no_dot : (xs : List ℕ) → begins_with_dot xs ≡ false → stuffed xs ≡ others_stuffed (lines_of xs)
no_dot xs none = first_dot xs ∙ (rw none refl)

-- ---- the octets before the next dot

others_put : (x : ℕ) (lines : List (List ℕ)) → others_stuffed (put_before x lines) ≡ x ∷ others_stuffed lines
others_put x [] = refl
others_put x (line ∷ lines) = refl

-- the octets of a text from within a line on, where no dot is put before these so many, and one is after them
abbrev HasRun : List ℕ → Type 0
HasRun xs = (k : ℕ) → IsDottedAt xs k → ((j : ℕ) → j < k → IsDottedAt xs j → ⊥)
    → others_stuffed (lines_of xs) ≡ take (suc (suc k)) xs ++ stuffed (drop (suc (suc k)) xs)

-- where no dot is put before a line
abbrev HasNoDot : List ℕ → Type 0
HasNoDot xs = ((j : ℕ) → IsDottedAt xs j → ⊥) → others_stuffed (lines_of xs) ≡ xs

-- after CRLF, over octets at which no line begins with a dot
not_dotted : (x y : ℕ) (rest : List ℕ) → is_crlf x y ≡ true → (IsDottedAt (x ∷ y ∷ rest) 0 → ⊥) → begins_with_dot rest ≡ false
not_dotted x y [] is none = refl
not_dotted x y (z ∷ rest) is none =
    let parts = is_crlf_parts x y is in
    let differ : z ≡ 46 → ⊥ = λ dot. none (record { fits = omega arith; cr = parts.0; lf = parts.1; dot = dot }) in
    grind (arith, common_steps)

crlf_others : (x y : ℕ) (rest : List ℕ) → is_crlf x y ≡ true → others_stuffed (lines_of (x ∷ y ∷ rest)) ≡ x ∷ y ∷ stuffed rest
unfolding stuffed
crlf_others x y rest is = let parts = is_crlf_parts x y is in ap others_stuffed (lines_of-crlf x y rest is) ∙ (rw (parts.0, parts.1) refl)

other_others : (x y : ℕ) (rest : List ℕ) → is_crlf x y ≡ false → others_stuffed (lines_of (x ∷ y ∷ rest)) ≡ x ∷ others_stuffed (lines_of (y ∷ rest))
other_others x y rest is = ap others_stuffed (lines_of-other x y rest is) ∙ others_put x (lines_of (y ∷ rest))

-- a CRLF has no CRLF at its second octet
lf_no_cr : (x y : ℕ) (rest : List ℕ) → is_crlf x y ≡ true → IsDottedAt (x ∷ y ∷ rest) 1 → ⊥
lf_no_cr x y rest is at = let parts = is_crlf_parts x y is in let cr = at.cr in omega (arith, parts.1, cr)

run_by : (x y : ℕ) (rest : List ℕ) → HasRun (y ∷ rest) → HasRun rest → (b : Bool) → is_crlf x y ≡ b → HasRun (x ∷ y ∷ rest)
run_by x y rest next after true is zero h none = crlf_others x y rest is
run_by x y rest next after true is (suc zero) h none = absurd (lf_no_cr x y rest is h)
run_by x y rest next after true is (suc (suc k)) h none =
    let free = not_dotted x y rest is (λ at. none 0 (omega arith) at) in
    let following = after k (later y rest k (later x (y ∷ rest) (suc k) h)) (λ j lt at. none (suc (suc j)) (omega arith) (before x (y ∷ rest) (suc j) (before y rest j at))) in
    crlf_others x y rest is ∙ ap (λ more. x ∷ y ∷ more) (no_dot rest free ∙ following)
run_by x y rest next after false is zero h none = let both = is_crlf_true x y h.cr h.lf in absurd (differ (sym both ∙ is))
  where
    differ : true ≡ false → ⊥
    differ e = cc
run_by x y rest next after false is (suc k) h none =
    other_others x y rest is ∙ ap (λ more. x ∷ more) (next k (later x (y ∷ rest) k h) (λ j lt at. none (suc j) (omega arith) (before x (y ∷ rest) j at)))

have_run : (xs : List ℕ) → HasRun xs
have_run [] k h none = let fits = h.fits in absurd (omega arith)
have_run (x ∷ []) k h none = let fits = h.fits in absurd (omega arith)
have_run (x ∷ y ∷ rest) k h none = run_by x y rest (have_run (y ∷ rest)) (have_run rest) (is_crlf x y) refl k h none

dotless_by : (x y : ℕ) (rest : List ℕ) → HasNoDot (y ∷ rest) → HasNoDot rest → (b : Bool) → is_crlf x y ≡ b → HasNoDot (x ∷ y ∷ rest)
dotless_by x y rest next after true is none =
    crlf_others x y rest is ∙ ap (λ more. x ∷ y ∷ more) (no_dot rest (not_dotted x y rest is (none 0)) ∙ after (λ j at. none (suc (suc j)) (before x (y ∷ rest) (suc j) (before y rest j at))))
dotless_by x y rest next after false is none = other_others x y rest is ∙ ap (λ more. x ∷ more) (next (λ j at. none (suc j) (before x (y ∷ rest) j at)))

dotless : (xs : List ℕ) → HasNoDot xs
unfolding lines_of
dotless [] none = refl
dotless (x ∷ []) none = refl
dotless (x ∷ y ∷ rest) none = dotless_by x y rest (dotless (y ∷ rest)) (dotless rest) (is_crlf x y) refl none

-- the octets up to the line that `memmem` finds, which begins with a dot
pub run_found : (xs : List ℕ) (k : ℕ) → FindsNeedle xs crlf_dot 0 (Some k) → stuffed xs ≡ dot_before xs ++ (take (k + 2) xs ++ stuffed (drop (k + 2) xs))
run_found xs k h =
    let two : k + 2 ≡ suc (suc k) = omega arith in
    rw two (first_dot xs ∙ ap (λ more. dot_before xs ++ more) (have_run xs k (at_place xs k h.1) (λ j lt at. h.0.before j (omega arith) lt (place_of xs j at))))

-- all of them, where it finds none
pub run_last : (xs : List ℕ) → FindsNeedle xs crlf_dot 0 None → stuffed xs ≡ dot_before xs ++ (take (length xs) xs ++ stuffed (drop (length xs) xs))
unfolding stuffed lines_of
run_last xs h =
    let all = dotless xs (λ j at. let fits = at.fits in h j (omega arith) (omega arith) (place_of xs j at)) in
    rw (take-length xs, drop-length xs) (first_dot xs ∙ ap (λ more. dot_before xs ++ more) (all ∙ sym (append-nil xs)))

-- nothing is left
pub all_put : (new all rest : List ℕ) → length rest ≡ 0 → new ++ stuffed rest ≡ all → new ≡ all
unfolding stuffed lines_of
all_put new all [] none whole = sym (append-nil new) ∙ whole
all_put new all (x ∷ rest) none whole = absurd (omega arith)

-- ---- the end of a message

complete_by : (x y : ℕ) (front : List ℕ) → are_complete (y ∷ (front ++ crlf)) ≡ true → are_complete (x ∷ y ∷ (front ++ crlf)) ≡ true
unfolding are_complete
complete_by x y [] whole = whole
complete_by x y (z ∷ front) whole = whole

complete_front : (front : List ℕ) → are_complete (front ++ crlf) ≡ true
unfolding are_complete
complete_front [] = refl
complete_front (x ∷ []) = refl
complete_front (x ∷ y ∷ front) = complete_by x y front (complete_front (y ∷ front))

ended_complete : (octets : List ℕ) → IsEnded octets → are_complete octets ≡ true
unfolding are_complete
ended_complete octets (inl none) = rw none refl
ended_complete octets (inr (front, whole)) = rw whole (complete_front front)

ended_more : (x : ℕ) (octets : List ℕ) → 0 < length octets → IsEnded octets → IsEnded (x ∷ octets)
ended_more x octets some (inl none) = absurd (omega (arith, ap length none))
ended_more x octets some (inr (front, whole)) = inr (x ∷ front, ap (λ more. x ∷ more) whole)

complete_ended : (octets : List ℕ) → are_complete octets ≡ true → IsEnded octets
unfolding are_complete
complete_ended [] complete = inl refl
complete_ended (x ∷ []) complete = cc
complete_ended (x ∷ y ∷ []) complete = let parts = is_crlf_parts x y complete in inr ([], rw (parts.0, parts.1) refl)
complete_ended (x ∷ y ∷ z ∷ rest) complete = ended_more x (y ∷ z ∷ rest) (omega arith) (complete_ended (y ∷ z ∷ rest) complete)

-- an ended text lacks nothing
pub nothing_missing : (made octets : List ℕ) (b : Bool) → (IsTrue b ↔ IsEnded octets) → b ≡ true → made ≡ made ++ missing_end octets
nothing_missing made octets b means is =
    let ended : IsTrue b = is in
    rw (ended_complete octets (means.0 ended)) (sym (append-nil made))

-- another one lacks CRLF
pub end_missing : (octets : List ℕ) (b : Bool) → (IsTrue b ↔ IsEnded octets) → b ≡ false → missing_end octets ≡ crlf
end_missing octets b means is = missing_by (are_complete octets) refl
  where
    missing_by : (c : Bool) → are_complete octets ≡ c → missing_end octets ≡ crlf
    missing_by true complete = let holds : IsTrue b = means.1 (complete_ended octets complete) in cc
    missing_by false lacks = rw lacks refl
