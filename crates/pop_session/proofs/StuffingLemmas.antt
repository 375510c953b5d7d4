-- Stuffing an octet at a time is stuffing line by line.
use Rattle.std.proofs.Common.{◌≡◌, ℕ, List, [], ◌∷◌, ◌++◌, Bool, true, false, ◌==◌, ◌&&◌, refl, sym, ap, ◌∙◌, arith, append_assoc, cond}
use Rattle.std.specs.List.{flat_map}
use Rattle.std.proofs.lemmas.Bool.Decides.{nat_tests}
use Rattle.mail_wire.specs.Lines.{lines_of, put_before, is_crlf}
use Rattle.mail_wire.proofs.FirstLine.{lines_of-crlf, lines_of-other}
use Rattle.mail_wire.proofs.LineLemmas.{is_crlf_parts}
use Rattle.mail_wire.proofs.DotLemmas.{others_stuffed}
use Rattle.pop_session.specs.declared.stuffing.Place.{Place}
use Rattle.pop_session.specs.declared.stuffing.Place.TheVariants.{LineStart, AfterCr, Within}
use Rattle.mail_wire.specs.Dots.{stuffed, stuffed_line, are_complete}
use Rattle.pop_session.specs.private.Stuffing.{is_start, is_after_cr, next_place, place_after, stuffed_octet, stuffed_from}

others_put : (x : ℕ) (lines : List (List ℕ)) → others_stuffed (put_before x lines) ≡ x ∷ others_stuffed lines
others_put x [] = refl
others_put x (line ∷ lines) = refl

dot_by : (x : ℕ) (line : List ℕ) (others : List ℕ) (b : Bool) → (x == 46) ≡ b → stuffed_line (x ∷ line) ++ others ≡ stuffed_octet LineStart x ++ (line ++ others)
dot_by x line others true is = let dot : x ≡ 46 = grind (arith, nat_tests) in rw dot refl
dot_by x line others false is = rw is refl

lines_put : (x : ℕ) (lines : List (List ℕ)) → flat_map stuffed_line (put_before x lines) ≡ stuffed_octet LineStart x ++ others_stuffed lines
lines_put x [] = dot_by x [] [] (x == 46) refl ∙ ap (λ more. stuffed_octet LineStart x ++ more) refl
lines_put x (line ∷ lines) = dot_by x line (flat_map stuffed_line lines) (x == 46) refl

-- an octet that isn't LF stands the same after a CR
not_lf : (y : ℕ) (rest : List ℕ) → (y == 10) ≡ false → stuffed_from AfterCr (y ∷ rest) ≡ stuffed_from Within (y ∷ rest)
not_lf y rest other = rw other refl

next_by : (place : Place) (x y : ℕ) (rest : List ℕ) → is_after_cr place ≡ false → is_crlf x y ≡ false → (b : Bool) → (x == 13) ≡ b
    → stuffed_from (next_place place x) (y ∷ rest) ≡ stuffed_from Within (y ∷ rest)
next_by place x y rest other apart true is = let lone : (y == 10) ≡ false = rw is at apart in rw is (not_lf y rest lone)
next_by place x y rest other apart false is = rw (is, other) refl

-- what a line and its stuffing have in common, from a line's start and from within one
pub record AreStuffed (octets : List ℕ) : Type 0 where
  pub start : flat_map stuffed_line (lines_of octets) ≡ stuffed_from LineStart octets
  pub within : others_stuffed (lines_of octets) ≡ stuffed_from Within octets

stuffed_by : (x y : ℕ) (rest : List ℕ) → AreStuffed (y ∷ rest) → AreStuffed rest → (b : Bool) → is_crlf x y ≡ b → AreStuffed (x ∷ y ∷ rest)
stuffed_by x y rest next after true is =
    let parts = is_crlf_parts x y is in
    record {
      start = ap (flat_map stuffed_line) (lines_of-crlf x y rest is) ∙ (rw (parts.0, parts.1) (ap (λ more. 13 ∷ 10 ∷ more) after.start));
      within = ap others_stuffed (lines_of-crlf x y rest is) ∙ (rw (parts.0, parts.1) (ap (λ more. 13 ∷ 10 ∷ more) after.start));
    }
stuffed_by x y rest next after false is = record {
  start = ap (flat_map stuffed_line) (lines_of-other x y rest is) ∙ lines_put x (lines_of (y ∷ rest))
      ∙ ap (λ more. stuffed_octet LineStart x ++ more) (next.within ∙ sym (next_by LineStart x y rest refl is (x == 13) refl));
  within = ap others_stuffed (lines_of-other x y rest is) ∙ others_put x (lines_of (y ∷ rest))
      ∙ ap (λ more. x ∷ more) (next.within ∙ sym (next_by Within x y rest refl is (x == 13) refl));
}

all_stuffed : (octets : List ℕ) → AreStuffed octets
unfolding lines_of
all_stuffed [] = record { start = refl; within = refl }
all_stuffed (x ∷ []) = record { start = lines_put x []; within = refl }
all_stuffed (x ∷ y ∷ rest) = stuffed_by x y rest (all_stuffed (y ∷ rest)) (all_stuffed rest) (is_crlf x y) refl

pub stuffed-from : (octets : List ℕ) → stuffed octets ≡ stuffed_from LineStart octets
unfolding stuffed
stuffed-from octets = (all_stuffed octets).start

-- two pieces, one after the other
pub stuffed_from-append : (place : Place) (xs ys : List ℕ) → stuffed_from place (xs ++ ys) ≡ stuffed_from place xs ++ stuffed_from (place_after place xs) ys
stuffed_from-append place [] ys = refl
stuffed_from-append place (x ∷ xs) ys =
    ap (λ more. stuffed_octet place x ++ more) (stuffed_from-append (next_place place x) xs ys)
    ∙ sym (append_assoc (stuffed_octet place x) (stuffed_from (next_place place x) xs) (stuffed_from (place_after (next_place place x) xs) ys))

pub place_after-append : (place : Place) (xs ys : List ℕ) → place_after place (xs ++ ys) ≡ place_after (place_after place xs) ys
place_after-append place [] ys = refl
place_after-append place (x ∷ xs) ys = place_after-append (next_place place x) xs ys

last_two : (place : Place) (x y : ℕ) (b c : Bool) → (x == 13) ≡ b → (y == 10) ≡ c → is_start (next_place (next_place place x) y) ≡ (b && c)
last_two place x y true true p q = let lf : y ≡ 10 = grind (arith, nat_tests) in rw (p, lf) refl
last_two place x y true false p q = rw (p, q) (elim (y == 13) as (λ v. is_start (cond v AfterCr Within) ≡ false) [ true ↦ refl | false ↦ refl ])
last_two place x y false c p q = rw p (not_after (is_after_cr place && x == 10) (y == 13) (y == 10))
  where
    not_after : (a b c : Bool) → is_start (cond b AfterCr (cond (is_after_cr (cond a LineStart Within) && c) LineStart Within)) ≡ false
    not_after true true c = refl
    not_after true false c = refl
    not_after false true c = refl
    not_after false false c = refl

-- octets are complete where a line starts after them
complete_by : (place : Place) (x y : ℕ) (rest : List ℕ) → is_start (place_after place (x ∷ y ∷ rest)) ≡ are_complete (x ∷ y ∷ rest)
unfolding are_complete
complete_by place x y [] = last_two place x y (x == 13) (y == 10) refl refl
complete_by place x y (z ∷ rest) = complete_by (next_place place x) y z rest

one_left : (x : ℕ) (b : Bool) → (x == 13) ≡ b → is_start (next_place LineStart x) ≡ false
one_left x true is = rw is refl
one_left x false is = rw is refl

pub are_complete-from : (octets : List ℕ) → is_start (place_after LineStart octets) ≡ are_complete octets
unfolding are_complete
are_complete-from [] = refl
are_complete-from (x ∷ []) = one_left x (x == 13) refl
are_complete-from (x ∷ y ∷ rest) = complete_by LineStart x y rest
