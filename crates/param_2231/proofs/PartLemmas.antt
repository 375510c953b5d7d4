-- A value is cut into parts, and in one way.
use Rattle.std.proofs.Common.{◌≡◌, ℕ, zero, suc, ◌+◌, ◌*◌, ◌<◌, ◌≤◌, ◌⊎◌, inl, inr, List, [], ◌∷◌, ◌++◌, length, take, drop, get_or, refl, sym, ap, ◌∙◌, subst, arith}
use Rattle.std.proofs.lemmas.Bool.{cases_Bool, cases_lt}
use Rattle.std.proofs.lemmas.List.{length-append, length-take-le, take-append-drop, take_at, append_cancel_left}
use Rattle.std.proofs.lemmas.Str.{IsCharBoundary-start, IsUtf8-drop}
use Rattle.std.specs.List.{concat}
use Rattle.std.specs.Str.{IsUtf8, IsCharBoundary}
use Rattle.encoded_words.specs.Words.{UnitValue, Text, Opaque}
use Rattle.encoded_words.proofs.Chunks.{first_boundary}
use Rattle.param_grammar.specs.Escapes.{is_attribute_octet, escaped_octet, escaped}
use Rattle.param_2231.specs.Layout.{EndsPart, IsPartOf, AreSectionTexts}
use Rattle.param_2231.specs.private.Parts.{IsCuttable, IsFitting, IsLastBoundary, IsLastEnd}
use Rattle.param_grammar.proofs.EscapeLemmas.{octet_length-plain, octet_length-escape}

-- ---- lengths

octet_most : (x : ℕ) → length (escaped_octet x) ≤ 3
octet_most x = elim (cases_Bool (is_attribute_octet x)) [
  | inl plain ↦ omega (arith, octet_length-plain x plain)
  | inr other ↦ omega (arith, octet_length-escape x other)
]

escaped_most : (xs : List ℕ) → length (escaped xs) ≤ 3 * length xs
escaped_most [] = omega arith
escaped_most (x ∷ xs) = omega (arith, escaped_most xs, octet_most x, length-append (escaped_octet x) (escaped xs))

-- more octets are spelled by no fewer
escaped_longer : (n m : ℕ) (xs : List ℕ) → n ≤ m → length (escaped (take n xs)) ≤ length (escaped (take m xs))
escaped_longer zero m xs h = omega arith
escaped_longer (suc n) zero xs h = absurd (omega (arith, h))
escaped_longer (suc n) (suc m) [] h = omega arith
escaped_longer (suc n) (suc m) (x ∷ xs) h =
    let more = escaped_longer n m xs (omega (arith, h)) in
    omega (arith, more, length-append (escaped_octet x) (escaped (take n xs)), length-append (escaped_octet x) (escaped (take m xs)))

after_none : (xs : List ℕ) → length (xs ++ []) ≡ 0 + length xs
after_none xs = omega (arith, length-append xs [])

-- one octet more
escaped_next : (xs : List ℕ) (i : ℕ) → i < length xs → length (escaped (take (suc i) xs)) ≡ length (escaped (take i xs)) + length (escaped_octet (get_or xs i 0))
escaped_next [] i l = absurd (omega (arith, l))
escaped_next (x ∷ xs) zero l = after_none (escaped_octet x)
escaped_next (x ∷ xs) (suc i) l =
    let more = escaped_next xs i (omega (arith, l)) in
    omega (arith, more, length-append (escaped_octet x) (escaped (take i xs)), length-append (escaped_octet x) (escaped (take (suc i) xs)))

-- ---- how many octets fit

-- the octets before a place fit, and these many spell them
pub record FitsTo (octets : List ℕ) (i spelled : ℕ) : Type 0 where
  pub bound : i ≤ length octets
  pub spelled_is : spelled ≡ length (escaped (take i octets))
  pub fits : spelled ≤ 60

pub FitsTo-none : (octets : List ℕ) → FitsTo octets 0 0
FitsTo-none octets = record { bound = omega arith; spelled_is = refl; fits = omega arith }

pub FitsTo-more : (octets : List ℕ) (i spelled len : ℕ) → FitsTo octets i spelled → i < length octets → len ≡ length (escaped_octet (get_or octets i 0)) → spelled + len ≤ 60 → FitsTo octets (i + 1) (spelled + len)
FitsTo-more octets i spelled len f l e small = record {
  bound = omega (arith, l);
  spelled_is =
      let next = escaped_next octets i l in
      let so_far = f.spelled_is in
      let sum : spelled + len ≡ length (escaped (take (suc i) octets)) = omega (arith, next, so_far, e) in
      let place : suc i ≡ i + 1 = omega arith in
      subst (λ k. spelled + len ≡ length (escaped (take k octets))) place sum;
  fits = small;
}

pub IsFitting-full : (octets : List ℕ) (i spelled len : ℕ) → FitsTo octets i spelled → i < length octets → len ≡ length (escaped_octet (get_or octets i 0)) → 60 < spelled + len → IsFitting octets i
IsFitting-full octets i spelled len f l e past =
    let so_far = f.spelled_is in
    let small = f.fits in
    record {
      bound = f.bound;
      fits = omega (arith, so_far, small);
      most = λ more. let next = escaped_next octets i l in omega (arith, next, so_far, e, past);
    }

pub IsFitting-all : (octets : List ℕ) (i spelled : ℕ) → FitsTo octets i spelled → length octets ≤ i → IsFitting octets i
IsFitting-all octets i spelled f end =
    let so_far = f.spelled_is in
    let small = f.fits in
    record {
      bound = f.bound;
      fits = omega (arith, so_far, small);
      most = λ more. absurd (omega (arith, more, end));
    }

-- no fewer than 20 fit
fitting_room : (octets : List ℕ) (fits i : ℕ) → IsFitting octets fits → i ≤ 20 → i ≤ length octets → i ≤ fits
fitting_room octets fits i f small within = elim (cases_lt fits i) [
  | inr up_to ↦ up_to
  | inl past ↦
      let over = f.most (omega (arith, past, within)) in
      let most = escaped_most (take (suc fits) octets) in
      let len = length-take-le (suc fits) octets (omega (arith, past, within)) in
      absurd (omega (arith, over, most, len, past, small))
]

take_all : (xs : List ℕ) (n : ℕ) → length xs ≤ n → take n xs ≡ xs
take_all [] zero h = refl
take_all [] (suc n) h = refl
take_all (x ∷ xs) zero h = absurd (omega (arith, h))
take_all (x ∷ xs) (suc n) h = ap (λ r. x ∷ r) (take_all xs n (omega (arith, h)))

-- octets are short where all of them fit
pub fitting_short : (octets : List ℕ) (fits : ℕ) → IsFitting octets fits → length octets ≤ fits → length (escaped octets) ≤ 60
fitting_short octets fits f end =
    subst (λ xs. length (escaped xs) ≤ 60) (take_all octets fits end) f.fits

pub fitting_long : (octets : List ℕ) (fits : ℕ) → IsFitting octets fits → fits < length octets → 60 < length (escaped octets)
fitting_long octets fits f more =
    let over = f.most more in
    let longer = escaped_longer (suc fits) (length octets) octets (omega (arith, more)) in
    omega (arith, over, longer, ap (λ xs. length (escaped xs)) (take_all octets (length octets) (omega arith)))

-- ---- the first part

ends_within : (unit : UnitValue) (octets : List ℕ) (n : ℕ) → EndsPart unit octets n → n ≤ length octets
ends_within (Text said) octets n ends = ends.0
ends_within (Opaque charset said source) octets n ends = ends

end_moves : (unit : UnitValue) (octets : List ℕ) (fits end : ℕ) → 0 < length octets → IsCuttable unit octets → IsFitting octets fits → IsLastEnd unit octets fits end → 0 < end
end_moves (Opaque charset said source) octets fits end some can f is = elim (cases_lt 0 end) [
  | inl moved ↦ moved
  | inr none ↦ absurd (is.last 1 (omega (arith, none)) (fitting_room octets fits 1 f (omega arith) (omega (arith, some))) (omega (arith, some)))
]
end_moves (Text said) octets fits end some can f is = elim (cases_lt 0 end) [
  | inl moved ↦ moved
  | inr none ↦
      let first = first_boundary can.0 octets can.1.0 can.1.1 some in
      absurd (is.last first.0 (omega (arith, none, first.1)) (fitting_room octets fits first.0 f (omega (arith, first.2)) first.3.0) first.3)
]

pub IsPartOf-cut : (unit : UnitValue) (octets : List ℕ) (fits end : ℕ) → 0 < length octets → IsCuttable unit octets → IsFitting octets fits → IsLastEnd unit octets fits end
    → IsPartOf unit (take end octets) (drop end octets)
IsPartOf-cut unit octets fits end some can f is =
    let bound = is.bound in
    let within = f.bound in
    let len : length (take end octets) ≡ end = length-take-le end octets (omega (arith, bound, within)) in
    let whole : take end octets ++ drop end octets ≡ octets = take-append-drop end octets in
    let moved = end_moves unit octets fits end some can f is in
    let longer = escaped_longer end fits octets bound in
    let small = f.fits in
    record {
      some = omega (arith, len, moved);
      fits = omega (arith, longer, small);
      ends = rw (whole, len) is.ends;
      most = λ n more ends. rw (whole) (past n (omega (arith, len, more)) (rw (whole) at ends));
    }
  where
    past : (n : ℕ) → end < n → EndsPart unit octets n → 60 < length (escaped (take n octets))
    past n more ends = elim (cases_lt fits n) [
      | inr within ↦ absurd (is.last n more within ends)
      | inl beyond ↦
          let over = f.most (omega (arith, beyond, ends_within unit octets n ends)) in
          let longer = escaped_longer (suc fits) n octets (omega (arith, beyond)) in
          omega (arith, over, longer)
    ]

-- what is left is shorter after a part
pub part_shortens : (unit : UnitValue) (rest part after : List ℕ) → rest ≡ part ++ after → IsPartOf unit part after → length after < length rest
part_shortens unit rest part after whole is = let some = is.some in omega (arith, some, ap length whole, length-append part after)

-- what is left of a text has whole characters
pub IsCuttable-drop : (unit : UnitValue) (octets : List ℕ) (end : ℕ) → IsCuttable unit octets → EndsPart unit octets end → IsCuttable unit (drop end octets)
IsCuttable-drop (Text said) octets end can ends = IsUtf8-drop octets end can ends
IsCuttable-drop (Opaque charset said source) octets end can ends = tt

-- the place before one that is no boundary
pub boundary_before : (octets : List ℕ) (end : ℕ) → IsUtf8 octets → (IsCharBoundary octets end → ⊥) → 1 ≤ end
boundary_before octets zero u none = absurd (none (IsCharBoundary-start octets u))
boundary_before octets (suc end) u none = omega arith

pub boundary_down : (octets : List ℕ) (at end : ℕ) → ((i : ℕ) → end < i → i ≤ at → ¬ IsCharBoundary octets i) → (IsCharBoundary octets end → ⊥) → (i : ℕ) → end ≤ i → i ≤ at → ¬ IsCharBoundary octets i
boundary_down octets at end last none i l h = elim (cases_lt end i) [
  | inl more ↦ last i more h
  | inr up_to ↦ let same : end ≡ i = omega (arith, l, up_to) in subst (λ k. ¬ IsCharBoundary octets k) same none
]

-- ---- one way

pub IsPartOf-once : (unit : UnitValue) (p q rest more : List ℕ) → IsPartOf unit p rest → IsPartOf unit q more → p ++ rest ≡ q ++ more → (p ≡ q) × (rest ≡ more)
IsPartOf-once unit p q rest more a b e =
    let not_less : length p < length q → ⊥ = λ l. longest q more (p ++ rest) (sym e) b (a.most (length q) l (rw e b.ends)) in
    let not_more : length q < length p → ⊥ = λ l. longest p rest (q ++ more) e a (b.most (length p) l (rw (← e) a.ends)) in
    let same : length p ≡ length q = elim (cases_lt (length p) (length q)) [
      | inl l ↦ absurd (not_less l)
      | inr g ↦ elim (cases_lt (length q) (length p)) [ inl l ↦ absurd (not_more l) | inr h ↦ omega (arith, g, h) ]
    ] in
    let fronts : p ≡ q = sym (take_at p rest (length p) refl) ∙ ap (take (length p)) e ∙ take_at q more (length p) (sym same) in
    (fronts, append_cancel_left q rest more (ap (λ x. x ++ rest) (sym fronts) ∙ e))
  where
    longest : (r following whole : List ℕ) → r ++ following ≡ whole → IsPartOf unit r following → 60 < length (escaped (take (length r) whole)) → ⊥
    longest r following whole f is over =
        let front : take (length r) whole ≡ r = ap (take (length r)) (sym f) ∙ take_at r following (length r) refl in
        let small = is.fits in
        omega (arith, over, small, ap (λ xs. length (escaped xs)) front)

pub AreParts-once : (unit : UnitValue) (ps qs : List (List ℕ)) → AreSectionTexts unit ps → AreSectionTexts unit qs → concat ps ≡ concat qs → ps ≡ qs
AreParts-once unit [] [] a b e = refl
AreParts-once unit [] (q ∷ qs) a b e = let some = b.0.some in absurd (omega (arith, some, ap length e, length-append q (concat qs)))
AreParts-once unit (p ∷ ps) [] a b e = let some = a.0.some in absurd (omega (arith, some, ap length e, length-append p (concat ps)))
AreParts-once unit (p ∷ ps) (q ∷ qs) a b e =
    let both = IsPartOf-once unit p q (concat ps) (concat qs) a.0 b.0 e in
    let head : p ≡ q = both.0 in
    let tail : ps ≡ qs = AreParts-once unit ps qs a.1 b.1 both.1 in
    cc (head, tail)

-- ---- there is one

decide_boundary : (octets : List ℕ) (i : ℕ) → IsCharBoundary octets i ⊎ ¬ IsCharBoundary octets i
decide_boundary octets i = elim (cases_lt (length octets) i) [
  | inl past ↦ inr (λ at. omega (arith, past, at.0))
  | inr within ↦ elim (cases_lt i (length octets)) [
    | inr end ↦ inl (within, λ l a. absurd (omega (arith, l, end)))
    | inl before ↦ elim (cases_lt (get_or octets i 0) 128) [
      | inl ascii ↦ inl (within, λ l a. absurd (omega (arith, ascii, a)))
      | inr other ↦ elim (cases_lt (get_or octets i 0) 192) [
        | inl later ↦ inr (λ at. omega (arith, later, at.1 before other))
        | inr first ↦ inl (within, λ l a. first)
      ]
    ]
  ]
]

last_boundary : (octets : List ℕ) (at : ℕ) → IsUtf8 octets → (end : ℕ) × IsLastBoundary octets at end
last_boundary octets zero u = (0, record { bound = omega arith; boundary = IsCharBoundary-start octets u; last = λ i l h. absurd (omega (arith, l, h)) })
last_boundary octets (suc at) u = elim (decide_boundary octets (suc at)) [
  | inl is ↦ (suc at, record { bound = omega arith; boundary = is; last = λ i l h. absurd (omega (arith, l, h)) })
  | inr none ↦ let b = last_boundary octets at u in (b.0, record { bound = further b.0 b.1.bound; boundary = b.1.boundary; last = λ i l h. later i none (b.1.last i l) h })
]
  where
    further : (end : ℕ) → end ≤ at → end ≤ suc at
    further end h = omega (arith, h)

    later : (i : ℕ) → ¬ IsCharBoundary octets (suc at) → (i ≤ at → ¬ IsCharBoundary octets i) → i ≤ suc at → ¬ IsCharBoundary octets i
    later i none below h = elim (cases_lt at i) [
      | inl past ↦ let same : i ≡ suc at = omega (arith, past, h) in subst (λ k. ¬ IsCharBoundary octets k) (sym same) none
      | inr up_to ↦ below up_to
    ]

pub IsLastEnd-text : (said octets : List ℕ) (at end : ℕ) → IsLastBoundary octets at end → IsLastEnd (Text said) octets at end
IsLastEnd-text said octets at end is = record { bound = is.bound; ends = is.boundary; last = is.last }

pub IsLastEnd-opaque : (charset said source octets : List ℕ) (at : ℕ) → at ≤ length octets → IsLastEnd (Opaque charset said source) octets at at
IsLastEnd-opaque charset said source octets at within = record { bound = omega arith; ends = within; last = λ i l h. absurd (omega (arith, l, h)) }

last_end : (unit : UnitValue) (octets : List ℕ) (at : ℕ) → at ≤ length octets → IsCuttable unit octets → (end : ℕ) × IsLastEnd unit octets at end
last_end (Text said) octets at within can = let b = last_boundary octets at can in (b.0, IsLastEnd-text said octets at b.0 b.1)
last_end (Opaque charset said source) octets at within can = (at, IsLastEnd-opaque charset said source octets at within)

-- the most octets up to a place that fit
fitting_up_to : (octets : List ℕ) (at : ℕ) → at ≤ length octets → (n : ℕ) × (n ≤ at) × (length (escaped (take n octets)) ≤ 60) × (n < at → 60 < length (escaped (take (suc n) octets)))
fitting_up_to octets zero within = (0, omega arith, omega arith, λ l. absurd (omega (arith, l)))
fitting_up_to octets (suc at) within = elim (cases_lt 60 (length (escaped (take (suc at) octets)))) [
  | inr fits ↦ (suc at, omega arith, fits, λ l. absurd (omega (arith, l)))
  | inl over ↦ let r = fitting_up_to octets at (omega (arith, within)) in (r.0, omega (arith, r.1), r.2, λ l. next r.0 r.3 l over)
]
  where
    next : (n : ℕ) → (n < at → 60 < length (escaped (take (suc n) octets))) → n < suc at → 60 < length (escaped (take (suc at) octets)) → 60 < length (escaped (take (suc n) octets))
    next n below l over = elim (cases_lt n at) [
      | inl less ↦ below less
      | inr last ↦ let same : n ≡ at = omega (arith, l, last) in subst (λ k. 60 < length (escaped (take (suc k) octets))) (sym same) over
    ]

fitting_some : (octets : List ℕ) → (fits : ℕ) × IsFitting octets fits
fitting_some octets = let r = fitting_up_to octets (length octets) (omega arith) in (r.0, record { bound = r.1; fits = r.2; most = r.3 })

parts_by : (fuel : ℕ) (unit : UnitValue) (octets : List ℕ) → length octets ≤ fuel → IsCuttable unit octets → (parts : List (List ℕ)) × AreSectionTexts unit parts × (octets ≡ concat parts)
parts_by fuel unit [] enough can = ([], tt, refl)
parts_by zero unit (x ∷ octets) enough can = absurd (omega (arith, enough))
parts_by (suc fuel) unit (x ∷ octets) enough can =
    let all : List ℕ = x ∷ octets in
    let f = fitting_some all in
    let within = f.1.bound in
    let e = last_end unit all f.0 within can in
    let bound = e.1.bound in
    let is = IsPartOf-cut unit all f.0 e.0 (omega arith) can f.1 e.1 in
    let whole : all ≡ take e.0 all ++ drop e.0 all = sym (take-append-drop e.0 all) in
    let some = is.some in
    let shorter : length (drop e.0 all) ≤ fuel = omega (arith, enough, some, ap length whole, length-append (take e.0 all) (drop e.0 all)) in
    let more = parts_by fuel unit (drop e.0 all) shorter (IsCuttable-drop unit all e.0 can e.1.ends) in
    (take e.0 all ∷ more.0, (subst (IsPartOf unit (take e.0 all)) more.2 is, more.1), whole ∙ ap (λ t. take e.0 all ++ t) more.2)

pub AreParts-some : (unit : UnitValue) (octets : List ℕ) → IsCuttable unit octets → (parts : List (List ℕ)) × AreSectionTexts unit parts × (octets ≡ concat parts)
AreParts-some unit octets can = parts_by (length octets) unit octets (omega arith) can
