-- The first CRLF, from what `memchr` finds of LF.
use Rattle.std.proofs.Common.{◌≡◌, ℕ, suc, ◌+◌, ◌-◌, ◌<◌, ◌≤◌, inl, inr, List, length, drop, get_or, Some, None, arith, refl, length-drop}
use Rattle.std.proofs.lemmas.Bool.{cases_lt, eqb-true}
use Rattle.std.proofs.lemmas.List.{get_or-drop}
use Rattle.memchr.specs.Find.{IsFirstByte, FindsNeedle, is_byte}
use Rattle.mail_wire.specs.Lines.{crlf}
use Rattle.mail_wire.proofs.FirstLine.{IsCrlfAt, at_place, place_of}

-- no CRLF begins before this place
pub record HasNoneBelow (octets : List ℕ) (at : ℕ) : Type 0 where
  pub fits : at ≤ length octets
  pub none : (place : ℕ) → place < at → IsCrlfAt octets place → ⊥

-- what the search finds
abbrev FindsLf : List ℕ → ℕ → ℕ → Type 0
FindsLf octets at passed = IsFirstByte (is_byte 10) (drop at octets) (Some passed)

-- CR stands before this place
abbrev pub IsAfterCr : List ℕ → ℕ → Type 0
IsAfterCr octets at = (0 < at) × (get_or octets (at - 1) 0 ≡ 13)

lf_after : (octets : List ℕ) (place : ℕ) → IsCrlfAt octets place → get_or octets (place + 1) 0 ≡ 10
lf_after octets place stands = let next : place + 1 ≡ suc place = omega arith in rw next stands.lf

-- the octet that was found
lf_found : (octets : List ℕ) (at passed : ℕ) → HasNoneBelow octets at → FindsLf octets at passed → (at + passed < length octets) × (get_or octets (at + passed) 0 ≡ 10)
lf_found octets at passed so_far first =
    let high = first.0.high in
    let fits = so_far.fits in
    let len = length-drop at octets in
    (omega arith, eqb-true (get_or octets (at + passed) 0) 10 (rw get_or-drop at first.1))

-- a CRLF whose LF stands before the one that was found
not_before : (octets : List ℕ) (at passed place : ℕ) → HasNoneBelow octets at → FindsLf octets at passed → place + 1 < at + passed → IsCrlfAt octets place → ⊥
not_before octets at passed place so_far first lt stands = elim (cases_lt place at) [
  | inl early ↦ so_far.none place early stands
  | inr late ↦
      let same : at + (place + 1 - at) ≡ place + 1 = omega arith in
      first.0.before (place + 1 - at) (omega arith) (omega arith) (rw (get_or-drop, same, lf_after octets place stands) refl)
]

pub none_yet : (octets : List ℕ) → HasNoneBelow octets 0
none_yet octets = record { fits = omega arith; none = λ place lt stands. absurd (omega arith) }

-- an LF that CR precedes
pub crlf_found : (octets : List ℕ) (at passed : ℕ) → HasNoneBelow octets at → FindsLf octets at passed → IsAfterCr octets (at + passed)
    → FindsNeedle octets crlf 0 (Some (at + passed - 1))
crlf_found octets at passed so_far first cr =
    let found = lf_found octets at passed so_far first in
    let within = found.0 in
    let some = cr.0 in
    let next : suc (at + passed - 1) ≡ at + passed = omega arith in (
      record {
        low = omega arith;
        high = omega arith;
        before = λ place from lt occurs. not_before octets at passed place so_far first (omega arith) (at_place octets place occurs);
      },
      place_of octets (at + passed - 1) (record { fits = omega arith; cr = cr.1; lf = rw next found.1 }),
    )

-- an LF that CR doesn't precede is passed
pub lf_passed : (octets : List ℕ) (at passed : ℕ) → HasNoneBelow octets at → FindsLf octets at passed → (IsAfterCr octets (at + passed) → ⊥)
    → HasNoneBelow octets (at + passed + 1)
lf_passed octets at passed so_far first apart = record { fits = (let within = found.0 in omega arith); none = none }
  where
    found : (at + passed < length octets) × (get_or octets (at + passed) 0 ≡ 10)
    found = lf_found octets at passed so_far first

    none : (place : ℕ) → place < at + passed + 1 → IsCrlfAt octets place → ⊥
    none place lt stands = elim (cases_lt (place + 1) (at + passed)) [
      | inl early ↦ not_before octets at passed place so_far first early stands
      | inr late ↦ elim (cases_lt place (at + passed)) [
        | inl one ↦ let same : place ≡ at + passed - 1 = omega arith in apart (omega arith, rw same at stands.cr)
        | inr here ↦
            let same : place ≡ at + passed = omega arith in
            let cr : get_or octets (at + passed) 0 ≡ 13 = rw same at stands.cr in
            let lf = found.1 in
            omega arith
      ]
    ]

-- no LF is left
pub none_left : (octets : List ℕ) (at : ℕ) → HasNoneBelow octets at → IsFirstByte (is_byte 10) (drop at octets) None → FindsNeedle octets crlf 0 None
none_left octets at so_far none place from lt occurs = elim (cases_lt place at) [
  | inl early ↦ so_far.none place early stands
  | inr late ↦
      let fits = stands.fits in
      let len = length-drop at octets in
      let same : at + (place + 1 - at) ≡ place + 1 = omega arith in
      none (place + 1 - at) (omega arith) (omega arith) (rw (get_or-drop, same, lf_after octets place stands) refl)
]
  where
    stands : IsCrlfAt octets place
    stands = at_place octets place occurs
