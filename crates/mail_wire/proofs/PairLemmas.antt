-- Octets are sound where all pairs of neighbours are, and both ends.
use Rattle.std.proofs.Common.{◌≡◌, ℕ, ◌+◌, ◌-◌, ◌<◌, ◌≤◌, ◌↔◌, inl, inr, List, length, get_or, slice_index, Bool, true, ◌&&◌, Some, arith, refl, ap, ◌∙◌}
use Rattle.std.proofs.lemmas.Bool.{cases_lt, cases_eq, and_parts, and_from}
use Rattle.std.proofs.lemmas.Option.{slice_get-get_or, slice_get_within}
use Rattle.mail_wire.specs.Message.{StandsAt, IsNul, IsBareCr, IsBareLf, IsSound}
use Rattle.mail_wire.specs.private.Pairs.{IsSoundPair, ArePairsBelow, HasSoundEnds}
use Rattle.mail_wire.proofs.MessageLemmas.{one_octet}

-- before an octet that isn't the first one stands another
before_it : (octets : List ℕ) (at x : ℕ) → StandsAt octets (at + 1) x → StandsAt octets at (get_or octets at 0)
before_it octets at x stands = let within = slice_get_within octets (at + 1) x stands in slice_get-get_or octets at 0 (omega arith)

-- the pair that ends in an octet
pair_at : (octets : List ℕ) (at x : ℕ) → ArePairsBelow octets (length octets) → StandsAt octets (at + 1) x → IsSoundPair (get_or octets at 0) x
pair_at octets at x pairs stands =
    let within = slice_get_within octets (at + 1) x stands in
    pairs at (get_or octets at 0) x (omega arith) (before_it octets at x stands) stands

following : (octets : List ℕ) (place before x : ℕ) → place ≡ before + 1 → StandsAt octets place x → StandsAt octets (before + 1) x
following octets place before x next stands = rw next at stands

no_nul : (octets : List ℕ) (place : ℕ) → HasSoundEnds octets → ArePairsBelow octets (length octets) → IsNul octets place → ⊥
no_nul octets place ends pairs nul = elim (cases_eq place 0) [
  | inl first ↦ ends.nul (rw first at nul)
  | inr other ↦
      let next : place ≡ place - 1 + 1 = omega arith in
      (pair_at octets (place - 1) 0 pairs (following octets place (place - 1) 0 next nul)).0 refl
]

no_bare_cr : (octets : List ℕ) (place : ℕ) → HasSoundEnds octets → ArePairsBelow octets (length octets) → IsBareCr octets place → ⊥
no_bare_cr octets place ends pairs cr = elim (cases_eq (length octets) (place + 1)) [
  | inl last ↦ ends.cr place last cr.0
  | inr more ↦
      let within = slice_get_within octets place 13 cr.0 in
      let stands = slice_get-get_or octets (place + 1) 0 (omega arith) in
      let pair = pairs place 13 (get_or octets (place + 1) 0) (omega arith) cr.0 stands in
      cr.1 (stands ∙ ap Some (pair.1.0 refl))
]

no_bare_lf : (octets : List ℕ) (place : ℕ) → HasSoundEnds octets → ArePairsBelow octets (length octets) → IsBareLf octets place → ⊥
no_bare_lf octets place ends pairs lf = elim (cases_eq place 0) [
  | inl first ↦ ends.lf (rw first at lf.0)
  | inr other ↦
      let next : place ≡ place - 1 + 1 = omega arith in
      let stands = following octets place (place - 1) 10 next lf.0 in
      let pair = pair_at octets (place - 1) 10 pairs stands in
      lf.1 (place - 1) next (before_it octets (place - 1) 10 stands ∙ ap Some (pair.1.1 refl))
]

pub sound_by_pairs : (octets : List ℕ) → HasSoundEnds octets → ArePairsBelow octets (length octets) → IsSound octets
sound_by_pairs octets ends pairs place (inl nul) = no_nul octets place ends pairs nul
sound_by_pairs octets ends pairs place (inr (inl cr)) = no_bare_cr octets place ends pairs cr
sound_by_pairs octets ends pairs place (inr (inr lf)) = no_bare_lf octets place ends pairs lf

pub pairs_of_sound : (octets : List ℕ) (end : ℕ) → IsSound octets → ArePairsBelow octets end
pairs_of_sound octets end sound at before octet lt first second = (not_nul, (after_cr, before_lf))
  where
    not_nul : octet ≡ 0 → ⊥
    not_nul is = sound (at + 1) (inl (second ∙ ap Some is))

    after_cr : before ≡ 13 → octet ≡ 10
    after_cr cr = elim (cases_eq octet 10) [
      | inl lf ↦ lf
      | inr other ↦ absurd (sound at (inr (inl (first ∙ ap Some cr, λ lf. other (one_octet octets (at + 1) octet 10 second lf)))))
    ]

    before_lf : octet ≡ 10 → before ≡ 13
    before_lf lf = elim (cases_eq before 13) [
      | inl cr ↦ cr
      | inr other ↦ absurd (sound (at + 1) (inr (inr (second ∙ ap Some lf, λ earlier next cr. other (clash earlier next cr)))))
    ]
      where
        clash : (earlier : ℕ) → at + 1 ≡ earlier + 1 → StandsAt octets earlier 13 → before ≡ 13
        clash earlier next cr = let same : earlier ≡ at = omega arith in one_octet octets at before 13 first (rw same at cr)

pub ends_of_sound : (octets : List ℕ) → IsSound octets → HasSoundEnds octets
ends_of_sound octets sound = record {
  nul = λ nul. sound 0 (inl nul);
  lf = λ lf. sound 0 (inr (inr (lf, λ before next cr. absurd (omega arith))));
  cr = λ at last cr. sound at (inr (inl (cr, λ lf. let within = slice_get_within octets (at + 1) 10 lf in absurd (omega arith))));
}

-- the loop has seen no pair yet
pub no_pair : (octets : List ℕ) → ArePairsBelow octets 1
no_pair octets at before octet lt first second = absurd (omega arith)

-- one more pair
pub one_more : (octets : List ℕ) (at : ℕ) (so_far pair : Bool) → 1 ≤ at → at < length octets → ((so_far ≡ true) ↔ ArePairsBelow octets at)
    → ((pair ≡ true) ↔ IsSoundPair (slice_index octets (at - 1)) (slice_index octets at)) → (((so_far && pair) ≡ true) ↔ ArePairsBelow octets (at + 1))
one_more octets at so_far pair some fits before here = (there, back)
  where
    last : ℕ
    last = at - 1

    next : last + 1 ≡ at
    next = omega arith

    there : (so_far && pair) ≡ true → ArePairsBelow octets (at + 1)
    there both place x y lt first second = elim (cases_lt (place + 1) at) [
      | inl early ↦ before.0 (and_parts so_far pair both).0 place x y early first second
      | inr late ↦
          let same : place ≡ at - 1 = omega arith in
          let end : place + 1 ≡ at = omega arith in
          let is_first = one_octet octets (at - 1) x (get_or octets (at - 1) 0) (rw same at first) (slice_get-get_or octets (at - 1) 0 (omega arith)) in
          let is_second = one_octet octets at y (get_or octets at 0) (rw end at second) (slice_get-get_or octets at 0 fits) in
          rw (is_first, is_second) (here.0 (and_parts so_far pair both).1)
    ]

    back : ArePairsBelow octets (at + 1) → (so_far && pair) ≡ true
    back all = and_from so_far pair (before.1 (λ place x y lt first second. all place x y (omega arith) first second)) (here.1 own)
      where
        own : IsSoundPair (get_or octets (at - 1) 0) (get_or octets at 0)
        own =
            let end : at - 1 + 1 ≡ at = omega arith in
            all (at - 1) (get_or octets (at - 1) 0) (get_or octets at 0) (omega arith) (slice_get-get_or octets (at - 1) 0 (omega arith))
            (rw end (slice_get-get_or octets at 0 fits))
