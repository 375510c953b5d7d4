-- A first line ends with CRLF.
use Rattle.std.proofs.Common.{◌≡◌, ℕ, ◌+◌, ◌-◌, ◌≤◌, Bool, true, false, List, [], ◌∷◌, ◌++◌, length, take, drop, Some, None, refl, sym, ap, ◌∙◌, subst, arith}
use Rattle.std.proofs.lemmas.List.{append_assoc, length-append, length-take-le, length-drop, take_all, take-append-drop}
use lib.Seq.{take-append_seam}
use Rattle.mail_wire.specs.Lines.{Cut, crlf, first_line, is_crlf}
use Rattle.mail_wire.proofs.FirstLineLemmas.{first_line-crlf, first_line-other, first_line-cut, unput}
use Rattle.utf8_reports.specs.private.Reading.{BeginsLine}

-- the line's octets before its CRLF
abbrev Ends : Cut → Type 0
Ends cut = (front : List ℕ) × (cut.line ≡ front ++ crlf)

unsome : {a b : Cut} → Some a ≡ Some b → a ≡ b
unsome h = cc

ends_by : (x y : ℕ) (rest : List ℕ) (cut : Cut) → first_line (x ∷ y ∷ rest) ≡ Some cut → ((next : Cut) → first_line (y ∷ rest) ≡ Some next → Ends next)
    → (b : Bool) → is_crlf x y ≡ b → Ends cut
ends_by x y rest cut h others true is =
    let same : record { line = crlf; rest = rest } ≡ cut = unsome (sym (first_line-crlf x y rest is) ∙ h) in
    subst Ends same ([], refl)
ends_by x y rest cut h others false is =
    let found = unput x cut (first_line (y ∷ rest)) (sym (first_line-other x y rest is) ∙ h) in
    let next = others found.0 found.1 in
    rw found.2 (x ∷ next.0, ap (λ octets. x ∷ octets) next.1)

first_line-ends : (octets : List ℕ) (cut : Cut) → first_line octets ≡ Some cut → Ends cut
unfolding first_line
first_line-ends [] cut h = cc
first_line-ends (x ∷ []) cut h = cc
first_line-ends (x ∷ y ∷ rest) cut h = ends_by x y rest cut h (λ next found. first_line-ends (y ∷ rest) next found) (is_crlf x y) refl

-- the line of so many octets
abbrev pub HasFirst : List ℕ → ℕ → Type 0
HasFirst octets n = first_line octets ≡ Some (record { line = take n octets; rest = drop n octets })

pub first_some : (octets : List ℕ) (n : ℕ) → n ≤ length octets → HasFirst octets n → 2 ≤ n
first_some octets n fits h =
    let some = (first_line-cut octets (record { line = take n octets; rest = drop n octets }) h).some in
    let size = length-take-le n octets fits in
    omega arith

before_crlf : (octets front rest : List ℕ) (n : ℕ) → n ≤ length octets → take n octets ≡ front ++ crlf → octets ≡ take n octets ++ rest → take (n - 2) octets ≡ front
before_crlf octets front rest n fits is whole =
    let size = length-take-le n octets fits in
    let sizes : length (front ++ crlf) ≡ length front + 2 = length-append front crlf in
    let same : length (take n octets) ≡ length (front ++ crlf) = ap length is in
    let count : n - 2 ≡ length front = omega arith in
    let parts : octets ≡ front ++ (crlf ++ rest) = whole ∙ ap (λ l. l ++ rest) is ∙ append_assoc front crlf rest in
    rw count (ap (take (length front)) parts ∙ take-append_seam front (crlf ++ rest))

same_cut : (octets a b x y : List ℕ) → a ≡ b → x ≡ y → first_line octets ≡ Some (record { line = a; rest = x }) → first_line octets ≡ Some (record { line = b; rest = y })
same_cut octets a b x y h k first = cc

pub first_begins : (octets : List ℕ) (n : ℕ) → n ≤ length octets → HasFirst octets n
    → BeginsLine octets (take (n - 2) octets) (take (length octets - n) (drop n octets))
first_begins octets n fits h =
    let ends = first_line-ends octets (record { line = take n octets; rest = drop n octets }) h in
    let before = before_crlf octets ends.0 (drop n octets) n fits ends.1 (sym (take-append-drop n octets)) in
    let line : take n octets ≡ take (n - 2) octets ++ crlf = ends.1 ∙ ap (λ l. l ++ crlf) (sym before) in
    let rest : take (length octets - n) (drop n octets) ≡ drop n octets = take_all _ (drop n octets) (omega (arith, length-drop n octets)) in
    same_cut octets _ _ _ _ line (sym rest) h

pub first_none : (octets : List ℕ) → first_line octets ≡ None → (line rest : List ℕ) → ¬ BeginsLine octets line rest
first_none octets none line rest begins = cc

pub no_line : first_line [] ≡ None
unfolding first_line
no_line = refl
