-- What octets begin with doesn't change with more octets after.
use Rattle.std.proofs.Common.{◌≡◌, ℕ, ◌+◌, ◌<◌, ◌≤◌, List, [], ◌∷◌, ◌++◌, length, drop, Bool, true, false, arith, refl, sym, ap, ◌∙◌, subst, Some, None, Option, length-append, length-drop}
use Rattle.std.specs.Prelude.{nat_le}
use Rattle.std.specs.Option.{option_map}
use Rattle.std.proofs.lemmas.Bool.Decides.{nat_tests}
use Rattle.std.proofs.lemmas.List.{drop-append-le}
use Rattle.mail_wire.specs.Lines.{first_line, Cut}
use Rattle.mail_wire.proofs.FirstLineLemmas.{joins, put, first_line-across, first_line-apart, first_line-cut, joins_parts}
use Rattle.mail_wire.specs.declared.framing.TheConstants.{LINE_MAX}
use Rattle.mail_wire.specs.Framing.{Framed, waiting, whole, too_long, next_line}

pub next_line-line : (octets : List ℕ) (cut : Cut) → first_line octets ≡ Some cut → nat_le (length cut.line) LINE_MAX ≡ true → next_line octets ≡ whole cut.line cut.rest
next_line-line octets cut found short = rw (found, short) refl

pub next_line-long_line : (octets : List ℕ) (cut : Cut) → first_line octets ≡ Some cut → nat_le (length cut.line) LINE_MAX ≡ false → next_line octets ≡ too_long (drop LINE_MAX octets)
next_line-long_line octets cut found long = rw (found, long) refl

pub next_line-waiting : (octets : List ℕ) → first_line octets ≡ None → nat_le (length octets) LINE_MAX ≡ true → next_line octets ≡ waiting
next_line-waiting octets none short = rw (none, short) refl

pub next_line-long : (octets : List ℕ) → first_line octets ≡ None → nat_le (length octets) LINE_MAX ≡ false → next_line octets ≡ too_long (drop LINE_MAX octets)
next_line-long octets none long = rw (none, long) refl

pub le_true : (n m : ℕ) → n ≤ m → nat_le n m ≡ true
le_true n m h = grind (arith, nat_tests)

pub le_false : (n m : ℕ) → m < n → nat_le n m ≡ false
le_false n m h = grind (arith, nat_tests)

pub below_of : (n m : ℕ) → nat_le n m ≡ false → m < n
below_of n m h = grind (arith, nat_tests)

pub at_most_of : (n m : ℕ) → nat_le n m ≡ true → n ≤ m
at_most_of n m h = grind (arith, nat_tests)

-- a line that ends only after these octets is longer than they are
mapped : (xs ys : List ℕ) (cut : Cut) (found : Option Cut) → first_line ys ≡ found → option_map (put xs) found ≡ Some cut → length xs < length cut.line
mapped xs ys cut None is h = cc
mapped xs ys cut (Some next) is h =
    let same : xs ++ next.line ≡ cut.line = unput h in
    let some = first_line-cut ys next is in
    let two = some.some in
    rw (← same, length-append) (omega arith)
  where
    unput : Some (put xs next) ≡ Some cut → xs ++ next.line ≡ cut.line
    unput e = ap (λ (c : Cut). c.line) (unsome e)
      where
        unsome : {a b : Cut} → Some a ≡ Some b → a ≡ b
        unsome e = cc

longer_by : (xs ys : List ℕ) (cut : Cut) → first_line xs ≡ None → first_line (xs ++ ys) ≡ Some cut → (b : Bool) → joins xs ys ≡ b → length xs < length cut.line
longer_by xs ys cut none found false is = mapped xs ys cut (first_line ys) refl (sym (first_line-apart xs ys none is) ∙ found)
longer_by xs [] cut none found true is = let parts = joins_parts xs [] is in let apart = parts.1 in cc
longer_by xs (y ∷ ys) cut none found true is =
    let same : xs ++ y ∷ [] ≡ cut.line = unline (sym (first_line-across xs (y ∷ ys) none is) ∙ found) in
    rw (← same, length-append) (omega arith)
  where
    unline : Some (record { line = xs ++ y ∷ []; rest = ys }) ≡ Some cut → xs ++ y ∷ [] ≡ cut.line
    unline e = cc

-- more octets leave what octets begin with
abbrev pub IsSteady : List ℕ → Framed → Type 0
IsSteady octets waiting = Unit {0}
IsSteady octets (whole line rest) = (length rest < length octets) × ((more : List ℕ) → next_line (octets ++ more) ≡ whole line (rest ++ more))
IsSteady octets (too_long rest) = (length rest < length octets) × ((more : List ℕ) → next_line (octets ++ more) ≡ too_long (rest ++ more))

long_steady : (octets more : List ℕ) → LINE_MAX < length octets → (found : Option Cut) → first_line (octets ++ more) ≡ found
    → ((cut : Cut) → first_line (octets ++ more) ≡ Some cut → LINE_MAX < length cut.line) → next_line (octets ++ more) ≡ too_long (drop LINE_MAX octets ++ more)
long_steady octets more long None is lines =
    next_line-long (octets ++ more) is (le_false (length (octets ++ more)) LINE_MAX (rw length-append (omega arith))) ∙ ap too_long (drop-append-le LINE_MAX octets more (omega arith))
long_steady octets more long (Some cut) is lines =
    next_line-long_line (octets ++ more) cut is (le_false (length cut.line) LINE_MAX (lines cut is)) ∙ ap too_long (drop-append-le LINE_MAX octets more (omega arith))

dropped : (octets : List ℕ) → LINE_MAX < length octets → length (drop LINE_MAX octets) < length octets
dropped octets long = rw length-drop (omega arith)

unsome_line : (line rest more : List ℕ) (cut : Cut) → Some (record { line = line; rest = rest ++ more }) ≡ Some cut → line ≡ cut.line
unsome_line line rest more cut e = cc

steady_line : (octets : List ℕ) (cut : Cut) → first_line octets ≡ Some cut → (b : Bool) → nat_le (length cut.line) LINE_MAX ≡ b → IsSteady octets (next_line octets)
steady_line octets cut found true short =
    let parts = first_line-cut octets cut found in
    let two = parts.some in
    let len : length octets ≡ length cut.line + length cut.rest = ap length parts.parts ∙ length-append cut.line cut.rest in
    rw (next_line-line octets cut found short) (omega arith, λ more. next_line-line (octets ++ more) _ (parts.longer more) short)
steady_line octets cut found false is =
    let parts = first_line-cut octets cut found in
    let long = below_of (length cut.line) LINE_MAX is in
    let len : length octets ≡ length cut.line + length cut.rest = ap length parts.parts ∙ length-append cut.line cut.rest in
    let all : LINE_MAX < length octets = omega arith in
    rw (next_line-long_line octets cut found is) (
      dropped octets all,
      λ more. long_steady octets more all _ (parts.longer more) (λ other at. rw (← unsome_line cut.line cut.rest more other (sym (parts.longer more) ∙ at)) long),
    )

steady_none : (octets : List ℕ) → first_line octets ≡ None → (b : Bool) → nat_le (length octets) LINE_MAX ≡ b → IsSteady octets (next_line octets)
steady_none octets none true short = rw (next_line-waiting octets none short) tt
steady_none octets none false is =
    let long = below_of (length octets) LINE_MAX is in
    rw (next_line-long octets none is) (
      dropped octets long,
      λ more. long_steady octets more long (first_line (octets ++ more)) refl (λ cut at. let longer = longer_by octets more cut none at (joins octets more) refl in omega arith),
    )

steady_by : (octets : List ℕ) (found : Option Cut) → first_line octets ≡ found → IsSteady octets (next_line octets)
steady_by octets None is = steady_none octets is (nat_le (length octets) LINE_MAX) refl
steady_by octets (Some cut) is = steady_line octets cut is (nat_le (length cut.line) LINE_MAX) refl

pub steady : (octets : List ℕ) → IsSteady octets (next_line octets)
steady octets = steady_by octets (first_line octets) refl

-- octets that wait have no line, and aren't too many
pub record IsWaiting (octets : List ℕ) : Type 0 where
  pub none : first_line octets ≡ None
  pub short : length octets ≤ LINE_MAX

waits_none : (octets : List ℕ) → first_line octets ≡ None → next_line octets ≡ waiting → (b : Bool) → nat_le (length octets) LINE_MAX ≡ b → IsWaiting octets
waits_none octets none waits true is = record { none = none; short = at_most_of (length octets) LINE_MAX is }
waits_none octets none waits false is = absurd (never (sym (next_line-long octets none is) ∙ waits))
  where
    never : too_long (drop LINE_MAX octets) ≡ waiting → ⊥
    never e = cc

waits_some : (octets : List ℕ) (cut : Cut) → first_line octets ≡ Some cut → next_line octets ≡ waiting → (b : Bool) → nat_le (length cut.line) LINE_MAX ≡ b → IsWaiting octets
waits_some octets cut found waits true is = absurd (never (sym (next_line-line octets cut found is) ∙ waits))
  where
    never : whole cut.line cut.rest ≡ waiting → ⊥
    never e = cc
waits_some octets cut found waits false is = absurd (never (sym (next_line-long_line octets cut found is) ∙ waits))
  where
    never : too_long (drop LINE_MAX octets) ≡ waiting → ⊥
    never e = cc

waits_by : (octets : List ℕ) (found : Option Cut) → first_line octets ≡ found → next_line octets ≡ waiting → IsWaiting octets
waits_by octets None is waits = waits_none octets is waits (nat_le (length octets) LINE_MAX) refl
waits_by octets (Some cut) is waits = waits_some octets cut is waits (nat_le (length cut.line) LINE_MAX) refl

pub waits : (octets : List ℕ) → next_line octets ≡ waiting → IsWaiting octets
waits octets h = waits_by octets (first_line octets) refl h

-- ---- a line has its CRLF

pub whole_line : (a b c d : List ℕ) → whole a b ≡ whole c d → a ≡ c
whole_line a b c d same = cc

pub never_long : (a b c : List ℕ) → too_long a ≡ whole b c → ⊥
never_long a b c same = cc

pub never_waiting : (a b : List ℕ) → waiting ≡ whole a b → ⊥
never_waiting a b same = cc

ends_some : (octets line rest : List ℕ) (cut : Cut) → first_line octets ≡ Some cut → next_line octets ≡ whole line rest → (b : Bool) → nat_le (length cut.line) LINE_MAX ≡ b → 2 ≤ length line
ends_some octets line rest cut found framed true short =
    subst (λ (l : List ℕ). 2 ≤ length l) (whole_line cut.line cut.rest line rest (sym (next_line-line octets cut found short) ∙ framed)) (first_line-cut octets cut found).some
ends_some octets line rest cut found framed false long = absurd (never_long _ line rest (sym (next_line-long_line octets cut found long) ∙ framed))

ends_none : (octets line rest : List ℕ) → first_line octets ≡ None → next_line octets ≡ whole line rest → (b : Bool) → nat_le (length octets) LINE_MAX ≡ b → 2 ≤ length line
ends_none octets line rest none framed true short = absurd (never_waiting line rest (sym (next_line-waiting octets none short) ∙ framed))
ends_none octets line rest none framed false long = absurd (never_long _ line rest (sym (next_line-long octets none long) ∙ framed))

ends_by : (octets line rest : List ℕ) (found : Option Cut) → first_line octets ≡ found → next_line octets ≡ whole line rest → 2 ≤ length line
ends_by octets line rest None found framed = ends_none octets line rest found framed (nat_le (length octets) LINE_MAX) refl
ends_by octets line rest (Some cut) found framed = ends_some octets line rest cut found framed (nat_le (length cut.line) LINE_MAX) refl

-- a whole line has two octets at least
pub line_has_end : (octets line rest : List ℕ) → next_line octets ≡ whole line rest → 2 ≤ length line
line_has_end octets line rest framed = ends_by octets line rest (first_line octets) refl framed
