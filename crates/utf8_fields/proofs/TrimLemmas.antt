-- White is cut off at the ends of a text.
use Rattle.std.proofs.Common.{◌≡◌, ℕ, Bool, true, false, inl, inr, List, [], ◌∷◌, ◌++◌, refl, sym, ap, ◌∙◌}
use Rattle.std.proofs.lemmas.Bool.{and_parts, and_from, both_ways, cases_Bool}
use Rattle.std.proofs.lemmas.List.{append_assoc, append-nil}
use Rattle.std.specs.List.{list_all}
use Rattle.mail_wire.specs.Octets.{is_white}
use Rattle.mail_wire.specs.Spans.{Stops, StopsAfter, IsSpan, IsTrimmed}
use Rattle.utf8_fields.specs.private.Steps.{TrimsEnd}

-- white alone was cut off so far
pub record TrimsTo (octets rest : List ℕ) : Type 0 where
  pub trail : List ℕ
  pub white : list_all is_white trail ≡ true
  pub whole : octets ≡ rest ++ trail

pub TrimsTo-start : (octets : List ℕ) → TrimsTo octets octets
TrimsTo-start octets = record { trail = []; white = refl; whole = sym (append-nil octets) }

pub TrimsTo-turn : (octets rest front : List ℕ) (last : ℕ) → TrimsTo octets rest → rest ≡ front ++ last ∷ [] → is_white last ≡ true → TrimsTo octets front
TrimsTo-turn octets rest front last t e white = record {
  trail = last ∷ t.trail;
  white = and_from (is_white last) (list_all is_white t.trail) white t.white;
  whole = t.whole ∙ ap (λ r. r ++ t.trail) e ∙ append_assoc front (last ∷ []) t.trail;
}

stops_after : (front : List ℕ) (last : ℕ) → is_white last ≡ false → StopsAfter is_white (front ++ last ∷ [])
stops_after [] last no_white = no_white
stops_after (x ∷ []) last no_white = no_white
stops_after (x ∷ y ∷ front) last no_white = stops_after (y ∷ front) last no_white

pub TrimsEnd-stop : (octets rest front : List ℕ) (last : ℕ) → TrimsTo octets rest → rest ≡ front ++ last ∷ [] → is_white last ≡ false → TrimsEnd octets rest
TrimsEnd-stop octets rest front last t e no_white = record { trail = t.trail; white = t.white; whole = t.whole; ends = rw e (stops_after front last no_white) }

pub TrimsEnd-none : (octets rest : List ℕ) → TrimsTo octets rest → rest ≡ [] → TrimsEnd octets rest
TrimsEnd-none octets rest t e = record { trail = t.trail; white = t.white; whole = t.whole; ends = rw e tt }

stops_front : (xs ys : List ℕ) → Stops is_white (xs ++ ys) → Stops is_white xs
stops_front [] ys stops = tt
stops_front (x ∷ xs) ys stops = stops

pub IsTrimmed-both : (octets lead rest trimmed : List ℕ) → IsSpan is_white octets lead rest → TrimsEnd rest trimmed → IsTrimmed is_white octets trimmed
IsTrimmed-both octets lead rest trimmed span ends = record {
  lead = lead;
  trail = ends.trail;
  lead_passes = span.passes;
  trail_passes = ends.white;
  begins = stops_front trimmed ends.trail (rw (ends.whole) at span.stops);
  ends = ends.ends;
  whole = span.whole ∙ ap (λ r. lead ++ r) ends.whole;
}

-- a text without what passes at its end, ...
trimmed_end : (p : ℕ → Bool) (xs : List ℕ) → (front : List ℕ) × (trail : List ℕ) × (list_all p trail ≡ true) × StopsAfter p front × (xs ≡ front ++ trail)
trimmed_end p [] = ([], [], refl, tt, refl)
trimmed_end p (x ∷ xs) = let r = trimmed_end p xs in by r.0 r.1 r.2 r.3 r.4
  where
    by : (front trail : List ℕ) → list_all p trail ≡ true → StopsAfter p front → xs ≡ front ++ trail
        → (front : List ℕ) × (trail : List ℕ) × (list_all p trail ≡ true) × StopsAfter p front × (x ∷ xs ≡ front ++ trail)
    by [] trail all stops e = elim (cases_Bool (p x)) [
      | inl t ↦ ([], x ∷ trail, and_from (p x) (list_all p trail) t all, tt, ap (λ r. x ∷ r) e)
      | inr fails ↦ (x ∷ [], trail, all, fails, ap (λ r. x ∷ r) e)
    ]
    by (y ∷ front) trail all stops e = (x ∷ y ∷ front, trail, all, stops, ap (λ r. x ∷ r) e)

-- ... and at its start too
pub trimmed : (p : ℕ → Bool) (xs : List ℕ) → (text : List ℕ) × IsTrimmed p xs text
trimmed p [] = ([], record { lead = []; trail = []; lead_passes = refl; trail_passes = refl; begins = tt; ends = tt; whole = refl })
trimmed p (x ∷ xs) = elim (cases_Bool (p x)) [
  | inl t ↦
      let r = trimmed p xs in (
        r.0,
        record {
          lead = x ∷ r.1.lead;
          trail = r.1.trail;
          lead_passes = and_from (p x) (list_all p r.1.lead) t r.1.lead_passes;
          trail_passes = r.1.trail_passes;
          begins = r.1.begins;
          ends = r.1.ends;
          whole = ap (λ ys. x ∷ ys) r.1.whole;
        },
      )
  | inr fails ↦ let r = trimmed_end p (x ∷ xs) in by fails r.0 r.1 r.2 r.3 r.4
]
  where
    by : p x ≡ false → (front trail : List ℕ) → list_all p trail ≡ true → StopsAfter p front → x ∷ xs ≡ front ++ trail → (text : List ℕ) × IsTrimmed p (x ∷ xs) text
    by fails [] trail all stops e = absurd (both_ways (p x) fails (and_parts (p x) (list_all p xs) (ap (list_all p) e ∙ all)).0)
    by fails (y ∷ front) trail all stops e =
        let same : x ≡ y = cc e in
        (y ∷ front, record { lead = []; trail = trail; lead_passes = refl; trail_passes = all; begins = rw (← same) fails; ends = stops; whole = e })
