-- Octets that are scanned for the first faulty one.
use Rattle.std.proofs.Common.{◌≡◌, ℕ, zero, suc, ◌+◌, ◌-◌, ◌<◌, ◌≤◌, ◌⊎◌, inl, inr, List, [], ◌∷◌, length, drop, get_or, Some, None, true, arith, refl, sym, ap, ◌∙◌, length-drop}
use Rattle.std.proofs.lemmas.Bool.{cases_lt}
use Rattle.std.proofs.lemmas.Bool.Decides.{nat_tests}
use Rattle.std.proofs.lemmas.List.{get_or-drop}
use Rattle.std.proofs.lemmas.Option.{get_or_from_slice_get, slice_get-get_or, slice_get_within}
use Rattle.std.specs.List.{slice_get}
use Rattle.memchr.specs.Find.{IsFirstByte, is_byte3}
use Rattle.mail_wire.specs.Message.{StandsAt, IsFaulty, IsFirstFaulty, IsSound, IsSoundBelow, BeginsCrlf}

-- The octets before `at` are sound, and an LF stands before it, if anything does.
pub record HasScanned (octets : List ℕ) (at : ℕ) : Type 0 where
  pub below : IsSoundBelow octets at
  pub fits : at ≤ length octets
  pub after : (before : ℕ) → at ≡ before + 1 → StandsAt octets before 10

-- NUL, CR or LF
abbrev IsStop : ℕ → Type 0
IsStop x = is_byte3 0 13 10 x ≡ true

stop_cases : (x : ℕ) → IsStop x → (x ≡ 0) ⊎ (x ≡ 13) ⊎ (x ≡ 10)
stop_cases x h = grind (arith, nat_tests)

-- no octet but NUL, CR and LF is faulty
faulty_stops : (octets : List ℕ) (at : ℕ) → IsFaulty octets at → IsStop (get_or octets at 0)
faulty_stops octets at (inl nul) = rw (get_or_from_slice_get octets at 0 0 nul) refl
faulty_stops octets at (inr (inl cr)) = rw (get_or_from_slice_get octets at 13 0 cr.0) refl
faulty_stops octets at (inr (inr lf)) = rw (get_or_from_slice_get octets at 10 0 lf.0) refl

-- a place after others
pub slice_get-drop : (n : ℕ) (octets : List ℕ) (k i : ℕ) → n + k ≡ i → slice_get (drop n octets) k ≡ slice_get octets i
slice_get-drop zero octets k i at = let same : k ≡ i = omega arith in ap (λ place. slice_get octets place) same
slice_get-drop (suc n) [] k i at = refl
slice_get-drop (suc n) (x ∷ octets) k zero at = absurd (omega arith)
slice_get-drop (suc n) (x ∷ octets) k (suc i) at = slice_get-drop n octets k i (omega arith)

-- one octet stands at a place
pub one_octet : (octets : List ℕ) (at x y : ℕ) → StandsAt octets at x → StandsAt octets at y → x ≡ y
one_octet octets at x y first second = unsome x y (sym first ∙ second)
  where
    unsome : (x y : ℕ) → Some x ≡ Some y → x ≡ y
    unsome x y h = cc

-- a CRLF at this place
crlf_at : (octets : List ℕ) (at : ℕ) → BeginsCrlf (drop at octets) → StandsAt octets at 13 × StandsAt octets (at + 1) 10
crlf_at octets at begins = (sym (slice_get-drop at octets 0 at (omega arith)) ∙ begins.0, sym (slice_get-drop at octets 1 (at + 1) refl) ∙ begins.1)

at_crlf : (octets : List ℕ) (at : ℕ) → StandsAt octets at 13 → StandsAt octets (at + 1) 10 → BeginsCrlf (drop at octets)
at_crlf octets at cr lf = (slice_get-drop at octets 0 at (omega arith) ∙ cr, slice_get-drop at octets 1 (at + 1) refl ∙ lf)

-- what the scan finds
abbrev Finds : List ℕ → ℕ → ℕ → Type 0
Finds octets at passed = IsFirstByte (is_byte3 0 13 10) (drop at octets) (Some passed)

-- none of the octets that were passed is faulty
passed_sound : (octets : List ℕ) (at passed : ℕ) → HasScanned octets at → Finds octets at passed → IsSoundBelow octets (at + passed)
passed_sound octets at passed so_far first place lt faulty = elim (cases_lt place at) [
  | inl early ↦ so_far.below place early faulty
  | inr late ↦
      let same : at + (place - at) ≡ place = omega arith in
      first.0.before (place - at) (omega arith) (omega arith) (rw (get_or-drop, same) (faulty_stops octets place faulty))
]

-- the octet that was found
found_stands : (octets : List ℕ) (at passed : ℕ) → HasScanned octets at → Finds octets at passed
    → (at + passed < length octets) × IsStop (get_or octets (at + passed) 0)
found_stands octets at passed so_far first =
    let high = first.0.high in
    let fits = so_far.fits in
    let len = length-drop at octets in
    (omega arith, rw get_or-drop at first.1)

-- the octet before the one that was found is no CR
not_after_cr : (octets : List ℕ) (at passed : ℕ) → HasScanned octets at → Finds octets at passed → (before : ℕ) → at + passed ≡ before + 1 → StandsAt octets before 13 → ⊥
not_after_cr octets at passed so_far first before next cr = elim (cases_lt before at) [
  | inl early ↦
      let zero_passed : at ≡ before + 1 = omega arith in
      let clash = one_octet octets before 13 10 cr (so_far.after before zero_passed) in
      omega arith
  | inr late ↦
      let same : at + (before - at) ≡ before = omega arith in
      first.0.before (before - at) (omega arith) (omega arith) (rw (get_or-drop, same, get_or_from_slice_get octets before 13 0 cr) refl)
]

-- an octet that was found, and no CRLF there, is the first faulty one
pub first_found : (octets : List ℕ) (at passed : ℕ) → HasScanned octets at → Finds octets at passed → (BeginsCrlf (drop (at + passed) octets) → ⊥)
    → IsFirstFaulty octets (at + passed)
first_found octets at passed so_far first apart = (faulty, passed_sound octets at passed so_far first)
  where
    faulty : IsFaulty octets (at + passed)
    faulty =
        let stands = found_stands octets at passed so_far first in
        let here = slice_get-get_or octets (at + passed) 0 stands.0 in
        elim (stop_cases (get_or octets (at + passed) 0) stands.1) [
          | inl nul ↦ inl (here ∙ ap Some nul)
          | inr (inl cr) ↦ inr (inl (here ∙ ap Some cr, λ lf. apart (at_crlf octets (at + passed) (here ∙ ap Some cr) lf)))
          | inr (inr lf) ↦ inr (inr (here ∙ ap Some lf, λ before next cr. not_after_cr octets at passed so_far first before next cr))
        ]

-- a CRLF is passed
pub scanned_crlf : (octets : List ℕ) (at passed : ℕ) → HasScanned octets at → Finds octets at passed → BeginsCrlf (drop (at + passed) octets)
    → HasScanned octets (at + passed + 2)
scanned_crlf octets at passed so_far first begins =
    let stand = crlf_at octets (at + passed) begins in
    let within = slice_get_within octets (at + passed + 1) 10 stand.1 in
    record {
      below = λ place lt faulty. elim (cases_lt place (at + passed)) [
        | inl early ↦ passed_sound octets at passed so_far first place early faulty
        | inr late ↦ elim (cases_lt place (at + passed + 1)) [
          | inl one ↦ let same : place ≡ at + passed = omega arith in on_cr (rw same at faulty)
          | inr two ↦ let same : place ≡ at + passed + 1 = omega arith in on_lf (rw same at faulty)
        ]
      ];
      fits = omega arith;
      after = λ before next. let same : before ≡ at + passed + 1 = omega arith in rw same stand.1;
    }
  where
    stand : StandsAt octets (at + passed) 13 × StandsAt octets (at + passed + 1) 10
    stand = crlf_at octets (at + passed) begins

    on_cr : IsFaulty octets (at + passed) → ⊥
    on_cr (inl nul) = let clash = one_octet octets (at + passed) 0 13 nul stand.0 in omega arith
    on_cr (inr (inl cr)) = cr.1 stand.1
    on_cr (inr (inr lf)) = let clash = one_octet octets (at + passed) 10 13 lf.0 stand.0 in omega arith

    on_lf : IsFaulty octets (at + passed + 1) → ⊥
    on_lf (inl nul) = let clash = one_octet octets (at + passed + 1) 0 10 nul stand.1 in omega arith
    on_lf (inr (inl cr)) = let clash = one_octet octets (at + passed + 1) 13 10 cr.0 stand.1 in omega arith
    on_lf (inr (inr lf)) = lf.1 (at + passed) refl stand.0

-- nothing more was found
pub none_found : (octets : List ℕ) (at : ℕ) → HasScanned octets at → IsFirstByte (is_byte3 0 13 10) (drop at octets) None → IsSound octets
none_found octets at so_far none place faulty = elim (cases_lt place at) [
  | inl early ↦ so_far.below place early faulty
  | inr late ↦ elim (cases_lt place (length octets)) [
    | inl within ↦
        let same : at + (place - at) ≡ place = omega arith in
        let len = length-drop at octets in
        none (place - at) (omega arith) (omega arith) (rw (get_or-drop, same) (faulty_stops octets place faulty))
    | inr past ↦ outside faulty past
  ]
]
  where
    outside : IsFaulty octets place → length octets ≤ place → ⊥
    outside (inl nul) past = let within = slice_get_within octets place 0 nul in omega arith
    outside (inr (inl cr)) past = let within = slice_get_within octets place 13 cr.0 in omega arith
    outside (inr (inr lf)) past = let within = slice_get_within octets place 10 lf.0 in omega arith
