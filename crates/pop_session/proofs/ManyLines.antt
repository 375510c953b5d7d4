-- TOP where more lines are asked for than 64 bits can tell.
use Rattle.std.proofs.Common.{◌≡◌, ℕ, zero, suc, ◌+◌, ◌-◌, ◌^◌, ◌<◌, ◌≤◌, List, [], ◌∷◌, length, take, min, sum_by, Bool, true, false, arith, refl, sym, ap, ◌∙◌}
use Rattle.std.specs.Prelude.{nat_le}
use Rattle.std.specs.List.{AllByRecursion}
use Rattle.std.specs.Str.{bytes_eq}
use Rattle.std.proofs.Math.Nat.{min-eq_left}
use Rattle.std.proofs.lemmas.Bool.Decides.{nat_tests}
use Rattle.std.proofs.lemmas.List.{take_all, length-take}
use Rattle.std.proofs.lemmas.List.Sums.{sum_by-cons}
use Rattle.mail_wire.specs.Lines.{crlf, lines_of, put_before, is_crlf}
use Rattle.pop_session.specs.Machine.{top_lines, top_length}

-- no line is without octets
abbrev HaveOctets : List (List ℕ) → Type 0
HaveOctets lines = AllByRecursion (λ (line : List ℕ). 0 < length line) lines

put : (x : ℕ) (lines : List (List ℕ)) → HaveOctets lines → HaveOctets (put_before x lines)
put x [] have = (omega arith, tt)
put x (line ∷ lines) have = (omega arith, have.1)

more : (x y : ℕ) (rest : List ℕ) → HaveOctets (lines_of rest) → HaveOctets (lines_of (y ∷ rest)) → (b : Bool) → is_crlf x y ≡ b → HaveOctets (lines_of (x ∷ y ∷ rest))
unfolding lines_of
more x y rest following later true is = rw is (omega arith, following)
more x y rest following later false is = rw is (put x (lines_of (y ∷ rest)) later)

have_octets : (octets : List ℕ) → HaveOctets (lines_of octets)
unfolding lines_of
have_octets [] = tt
have_octets (x ∷ []) = (omega arith, tt)
have_octets (x ∷ y ∷ rest) = more x y rest (have_octets rest) (have_octets (y ∷ rest)) (is_crlf x y) refl

-- so there are no more lines than octets
count : (n : ℕ) (lines : List (List ℕ)) → HaveOctets lines → length (take n lines) ≤ sum_by length (take n lines)
count zero lines have = omega arith
count (suc n) [] have = omega arith
count (suc n) (line ∷ lines) have = let some = have.0 in let others = count n lines have.1 in rw (sum_by-cons length line (take n lines)) (omega arith)

-- lines with fewer octets than were asked for are all lines
all_lines : (n m : ℕ) (lines : List (List ℕ)) → HaveOctets lines → m ≤ n → sum_by length (take m lines) < m → take n lines ≡ take m lines
all_lines n m lines have low few =
    let counted = count m lines have in
    let size = length-take m lines in
    let short : length lines < m = omega arith in
    take_all n lines (omega arith) ∙ sym (take_all m lines (omega arith))

top_by : (n m : ℕ) (first : List ℕ) (lines : List (List ℕ)) → HaveOctets (first ∷ lines) → m ≤ n → sum_by length (top_lines m (first ∷ lines)) ≤ m
    → (sum_by length (top_lines m lines) ≤ m → top_lines n lines ≡ top_lines m lines) → (b : Bool) → bytes_eq first crlf ≡ b → top_lines n (first ∷ lines) ≡ top_lines m (first ∷ lines)
top_by n m first lines have low few later true is =
    let sum : length first + sum_by length (take m lines) ≤ m = rw (is, sum_by-cons length first (take m lines)) at few in
    let some = have.0 in
    rw is (ap (λ (l : List (List ℕ)). first ∷ l) (all_lines n m lines have.1 low (omega arith)))
top_by n m first lines have low few later false is =
    let sum : length first + sum_by length (top_lines m lines) ≤ m = rw (is, sum_by-cons length first (top_lines m lines)) at few in
    rw is (ap (λ (l : List (List ℕ)). first ∷ l) (later (omega arith)))

top_same : (n m : ℕ) (lines : List (List ℕ)) → HaveOctets lines → m ≤ n → sum_by length (top_lines m lines) ≤ m → top_lines n lines ≡ top_lines m lines
top_same n m [] have low few = refl
top_same n m (first ∷ lines) have low few = top_by n m first lines have low few (λ fewer. top_same n m lines have.1 low fewer) (bytes_eq first crlf) refl

high : (n most : ℕ) → most ≤ n → min n most ≡ most
high n most above = omega arith

by_size : (n most : ℕ) (octets : List ℕ) → top_length (min n most) octets ≤ most → (b : Bool) → nat_le n most ≡ b → top_length n octets ≡ top_length (min n most) octets
by_size n most octets fits true is = let low : n ≤ most = grind (arith, nat_tests) in ap (λ (k : ℕ). top_length k octets) (sym (min-eq_left low))
by_size n most octets fits false is =
    let above : most ≤ n = grind (arith, nat_tests) in
    let same = high n most above in
    ap (λ (l : List (List ℕ)). sum_by length l) (top_same n most (lines_of octets) (have_octets octets) above (rw same at fits)) ∙ ap (λ (k : ℕ). top_length k octets) (sym same)

-- what is shown of a message has fewer octets than 64 bits tell, so a greater number of lines shows no more
pub top_length-many : (n lines size : ℕ) (octets : List ℕ) → min n (2 ^ 64 - 1) ≡ lines → size ≡ top_length lines octets → size < 18446744073709551616 → size ≡ top_length n octets
top_length-many n lines size octets capped is fits =
    is ∙ ap (λ (k : ℕ). top_length k octets) (sym capped) ∙ sym (by_size n (2 ^ 64 - 1) octets (rw (capped, ← is) (omega arith)) (nat_le n (2 ^ 64 - 1)) refl)
