-- The shape of a date, octet by octet, and the characters of a folder's name.
use Rattle.std.proofs.Common.{◌≡◌, ℕ, ◌+◌, ◌<◌, Bool, true, false, List, length, get_or, MatchBool, refl, subst, sym, arith, inl, inr}
use Rattle.std.specs.Prelude.{◌↔◌, IsTrue}
use Rattle.std.specs.List.{All, AllWithin, HoldsAt}
use Rattle.std.proofs.lemmas.Bool.{cases_eq, false≢true}
use Rattle.std.proofs.lemmas.List.Elements.{All-from_all_within}
use Rattle.journal_records.specs.Grammar.{date_shape, fits_letter, IsNameChar}

-- so many octets fit
abbrev pub FitsBelow : List ℕ → ℕ → Type 0
FitsBelow date end = (at : ℕ) → at < end → fits_letter (get_or date_shape at 0) (get_or date at 0) ≡ true

pub FitsBelow-next : (date : List ℕ) (end : ℕ) → FitsBelow date end → fits_letter (get_or date_shape end 0) (get_or date end 0) ≡ true → FitsBelow date (end + 1)
FitsBelow-next date end so_far fits at within =
    elim (cases_eq at end) [
      | inl same ↦ subst (λ (k : ℕ). fits_letter (get_or date_shape k 0) (get_or date k 0) ≡ true) (sym same) fits
      | inr other ↦ so_far at (omega (arith, other))
    ]

-- a search for a character that a name may not have tells whether there is one
pub names_each : (found : Bool) (cs : List ℕ) → MatchBool found (AllWithin IsNameChar cs 0 (length cs)) ((k : ℕ) × (k < length cs) × HoldsAt (λ c. IsNameChar c → ⊥) cs k)
    → IsTrue found ↔ All IsNameChar cs
names_each true cs h = (λ _. All-from_all_within IsNameChar cs h, λ _. refl)
names_each false cs h = (λ e. absurd (false≢true e), λ all. absurd (h.2 0 (all h.0 0 h.1)))
