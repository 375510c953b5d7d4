-- Every list has a longest front that passes.
use Rattle.std.proofs.Common.{ℕ, Bool, List, [], ◌∷◌, refl, ap, inl, inr}
use Rattle.std.proofs.lemmas.Bool.{and_from, cases_Bool}
use Rattle.std.specs.List.{list_all}
use Rattle.mail_wire.specs.Spans.{IsSpan}

pub span_of : (p : ℕ → Bool) (xs : List ℕ) → (front : List ℕ) × (rest : List ℕ) × IsSpan p xs front rest
span_of p [] = ([], [], record { whole = refl; passes = refl; stops = tt })
span_of p (x ∷ xs) = elim (cases_Bool (p x)) [
  | inl is ↦ let s = span_of p xs in (x ∷ s.0, s.1, record { whole = ap (λ t. x ∷ t) s.2.whole; passes = and_from (p x) (list_all p s.0) is s.2.passes; stops = s.2.stops })
  | inr fails ↦ ([], x ∷ xs, record { whole = refl; passes = refl; stops = fails })
]
