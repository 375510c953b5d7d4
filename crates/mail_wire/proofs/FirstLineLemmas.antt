-- The first line of octets that come in two parts.
use Rattle.std.proofs.Common.{◌≡◌, ℕ, zero, suc, ◌+◌, ◌-◌, ◌<◌, ◌≤◌, List, [], ◌∷◌, ◌++◌, length, take, drop, Bool, true, false, arith, refl, sym, ap, ◌∙◌, Some, None, Option}
use Rattle.std.specs.Option.{option_map}
use Rattle.std.specs.List.{slice_get}
use Rattle.memchr.specs.Find.{FindsNeedle}
use Rattle.mail_wire.specs.Lines.{first_line, is_crlf, crlf, Cut, begun_with}
use Rattle.mail_wire.proofs.FirstLine.{IsCrlfAt, is_crlf_true, is_crlf_false, later, before, at_place, place_of}
use Rattle.mail_wire.proofs.LineLemmas.{is_crlf_parts}

pub first_line-crlf : (x y : ℕ) (rest : List ℕ) → is_crlf x y ≡ true → first_line (x ∷ y ∷ rest) ≡ Some (record { line = crlf; rest = rest })
unfolding first_line
first_line-crlf x y rest both = rw both refl

pub first_line-other : (x y : ℕ) (rest : List ℕ) → is_crlf x y ≡ false
    → first_line (x ∷ y ∷ rest) ≡ option_map (begun_with x) (first_line (y ∷ rest))
unfolding first_line
first_line-other x y rest other = rw other refl

found_from : (xs : List ℕ) (k : ℕ) → IsCrlfAt xs k → ((j : ℕ) → j < k → IsCrlfAt xs j → ⊥)
    → first_line xs ≡ Some (record { line = take (suc (suc k)) xs; rest = drop (suc (suc k)) xs })
found_from [] k h none = let fits = h.fits in absurd (omega arith)
found_from (x ∷ []) k h none = let fits = h.fits in absurd (omega arith)
found_from (x ∷ y ∷ rest) zero h none = first_line-crlf x y rest (is_crlf_true x y h.cr h.lf) ∙ (rw (h.cr, h.lf) refl)
found_from (x ∷ y ∷ rest) (suc k) h none =
    let other : is_crlf x y ≡ false = is_crlf_false x y (λ cr lf. none 0 (omega arith) (record { fits = omega arith; cr = cr; lf = lf })) in
    let others = found_from (y ∷ rest) k (later x (y ∷ rest) k h) (λ j lt at. none (suc j) (omega arith) (before x (y ∷ rest) j at)) in
    first_line-other x y rest other ∙ ap (option_map (begun_with x)) others

none_from : (xs : List ℕ) → ((j : ℕ) → IsCrlfAt xs j → ⊥) → first_line xs ≡ None
unfolding first_line
none_from [] none = refl
none_from (x ∷ []) none = refl
none_from (x ∷ y ∷ rest) none =
    let other : is_crlf x y ≡ false = is_crlf_false x y (λ cr lf. none 0 (record { fits = omega arith; cr = cr; lf = lf })) in
    let others = none_from (y ∷ rest) (λ j at. none (suc j) (before x (y ∷ rest) j at)) in
    first_line-other x y rest other ∙ ap (option_map (begun_with x)) others

-- the line that `memmem` finds
pub first_line-found : (xs : List ℕ) (k : ℕ) → FindsNeedle xs crlf 0 (Some k) → first_line xs ≡ Some (record { line = take (k + 2) xs; rest = drop (k + 2) xs })
first_line-found xs k h =
    let two : k + 2 ≡ suc (suc k) = omega arith in
    rw two (found_from xs k (at_place xs k h.1) (λ j lt at. h.0.before j (omega arith) lt (place_of xs j at)))

pub first_line-not_found : (xs : List ℕ) → FindsNeedle xs crlf 0 None → first_line xs ≡ None
first_line-not_found xs h = none_from xs (λ j at. let fits = at.fits in h j (omega arith) (omega arith) (place_of xs j at))

-- a CRLF stands across the two parts
abbrev pub joins : List ℕ → List ℕ → Bool
joins [] ys = false
joins (x ∷ []) [] = false
joins (x ∷ []) (y ∷ ys) = is_crlf x y
joins (x ∷ z ∷ xs) ys = joins (z ∷ xs) ys

pub joins_true : (xs ys : List ℕ) → slice_get xs (length xs - 1) ≡ Some 13 → slice_get ys 0 ≡ Some 10 → joins xs ys ≡ true
joins_true [] ys last first = cc
joins_true (x ∷ []) [] last first = cc
joins_true (x ∷ []) (y ∷ ys) last first = let cr : x ≡ 13 = cc in let lf : y ≡ 10 = cc in is_crlf_true x y cr lf
joins_true (x ∷ z ∷ xs) ys last first =
    let place : length (x ∷ z ∷ xs) - 1 ≡ suc (length (z ∷ xs) - 1) = omega arith in
    joins_true (z ∷ xs) ys (rw place at last) first

pub joins_parts : (xs ys : List ℕ) → joins xs ys ≡ true → (slice_get xs (length xs - 1) ≡ Some 13) × (slice_get ys 0 ≡ Some 10)
joins_parts [] ys h = cc
joins_parts (x ∷ []) [] h = cc
joins_parts (x ∷ []) (y ∷ ys) h = let parts = is_crlf_parts x y h in (ap Some parts.0, ap Some parts.1)
joins_parts (x ∷ z ∷ xs) ys h =
    let place : length (x ∷ z ∷ xs) - 1 ≡ suc (length (z ∷ xs) - 1) = omega arith in
    let parts = joins_parts (z ∷ xs) ys h in
    (rw place parts.0, parts.1)

first_none : (x y : ℕ) (rest : List ℕ) → first_line (x ∷ y ∷ rest) ≡ None → (b : Bool) → is_crlf x y ≡ b → (is_crlf x y ≡ false) × (first_line (y ∷ rest) ≡ None)
first_none x y rest none true is = let some = first_line-crlf x y rest is in cc
first_none x y rest none false is = (is, unmapped (first_line (y ∷ rest)) (sym (first_line-other x y rest is) ∙ none))
  where
    unmapped : (found : Option Cut) → option_map {U = Cut} (begun_with x) found ≡ None → found ≡ None
    unmapped None h = refl
    unmapped (Some cut) h = cc

-- octets before a cut line
abbrev pub put : List ℕ → Cut → Cut
put xs cut = record { line = xs ++ cut.line; rest = cut.rest }

-- no octets before a cut change nothing
pub put_nothing : (found : Option Cut) → found ≡ option_map (put []) found
put_nothing None = refl
put_nothing (Some cut) = refl

-- one octet more before a cut
pub put_more : (x : ℕ) (xs : List ℕ) (found : Option Cut)
    → option_map (begun_with x) (option_map (put xs) found) ≡ option_map (put (x ∷ xs)) found
put_more x xs None = refl
put_more x xs (Some cut) = refl

-- no line in the first part, and no CRLF across: the line ends in the second part
pub first_line-apart : (xs ys : List ℕ) → first_line xs ≡ None → joins xs ys ≡ false → first_line (xs ++ ys) ≡ option_map (put xs) (first_line ys)
unfolding first_line
first_line-apart [] ys none apart = put_nothing (first_line ys)
first_line-apart (x ∷ []) [] none apart = refl
first_line-apart (x ∷ []) (y ∷ ys) none apart = first_line-other x y ys apart
first_line-apart (x ∷ z ∷ xs) ys none apart =
    let parts = first_none x z xs none (is_crlf x z) refl in
    first_line-other x z (xs ++ ys) parts.0 ∙ ap (option_map (begun_with x)) (first_line-apart (z ∷ xs) ys parts.1 apart)
    ∙ put_more x (z ∷ xs) (first_line ys)

-- no line in the first part, and a CRLF across: the line ends with the first octet of the second part
pub first_line-across : (xs ys : List ℕ) → first_line xs ≡ None → joins xs ys ≡ true → first_line (xs ++ ys) ≡ Some (record { line = xs ++ take 1 ys; rest = drop 1 ys })
first_line-across [] ys none across = cc
first_line-across (x ∷ []) [] none across = cc
first_line-across (x ∷ []) (y ∷ ys) none across = let parts = is_crlf_parts x y across in first_line-crlf x y ys across ∙ (rw (parts.0, parts.1) refl)
first_line-across (x ∷ z ∷ xs) ys none across =
    let parts = first_none x z xs none (is_crlf x z) refl in
    first_line-other x z (xs ++ ys) parts.0
    ∙ ap (option_map (begun_with x)) (first_line-across (z ∷ xs) ys parts.1 across)

-- a line is cut the same with more octets after
pub record IsCut (octets : List ℕ) (cut : Cut) : Type 0 where
  pub parts : octets ≡ cut.line ++ cut.rest
  pub some : 2 ≤ length cut.line
  pub longer : (more : List ℕ) → first_line (octets ++ more) ≡ Some (record { line = cut.line; rest = cut.rest ++ more })

-- a cut after one octet
pub unput : (x : ℕ) (cut : Cut) (found : Option Cut) → option_map (begun_with x) found ≡ Some cut
    → (next : Cut) × (found ≡ Some next) × (cut ≡ record { line = x ∷ next.line; rest = next.rest })
unput x cut None h = cc
unput x cut (Some next) h = (next, refl, cc)

cut_by : (x y : ℕ) (rest : List ℕ) (cut : Cut) → first_line (x ∷ y ∷ rest) ≡ Some cut → ((next : Cut) → first_line (y ∷ rest) ≡ Some next → IsCut (y ∷ rest) next)
    → (b : Bool) → is_crlf x y ≡ b → IsCut (x ∷ y ∷ rest) cut
cut_by x y rest cut h others true is =
    let parts = is_crlf_parts x y is in
    let same : record { line = crlf; rest = rest } ≡ cut = unsome (sym (first_line-crlf x y rest is) ∙ h) in
    rw (← same) (record { parts = rw (parts.0, parts.1) refl; some = omega arith; longer = λ more. first_line-crlf x y (rest ++ more) is })
  where
    unsome : {a b : Cut} → Some a ≡ Some b → a ≡ b
    unsome h = cc
cut_by x y rest cut h others false is =
    let found = unput x cut (first_line (y ∷ rest)) (sym (first_line-other x y rest is) ∙ h) in
    let next = others found.0 found.1 in
    rw found.2
    (record {
      parts = ap (λ octets. x ∷ octets) next.parts;
      some = let some = next.some in omega arith;
      longer = λ more. first_line-other x y (rest ++ more) is ∙ ap (option_map (begun_with x)) (next.longer more);
    })

pub first_line-cut : (octets : List ℕ) (cut : Cut) → first_line octets ≡ Some cut → IsCut octets cut
unfolding first_line
first_line-cut [] cut h = cc
first_line-cut (x ∷ []) cut h = cc
first_line-cut (x ∷ y ∷ rest) cut h = cut_by x y rest cut h (λ next found. first_line-cut (y ∷ rest) next found) (is_crlf x y) refl
