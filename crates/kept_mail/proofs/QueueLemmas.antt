-- Recipients of the queue who aren't settled.
use Rattle.std.proofs.Common.{◌≡◌, ℕ, ◌+◌, ◌<◌, ◌≤◌, Bool, true, false, List, length, get_or, set, Option, Some, sym, ap, subst, ◌∙◌, inl, inr}
use Rattle.std.specs.Prelude.{slice_get}
use Rattle.std.proofs.lemmas.Bool.{cases_lt, ltb-false}
use Rattle.std.proofs.lemmas.Option.{slice_get-get_or, slice_get_past}
use Rattle.kept_mail.specs.declared.limits.TheConstants.{THINGS_MAX}
use Rattle.kept_mail.specs.declared.kept.Recipient.{Recipient}
use Rattle.kept_mail.specs.declared.kept.Entry.{Entry}
use Rattle.kept_mail.specs.Records.{are_too_many, IsWaiting, IsUnsettled}
use Rattle.kept_mail.specs.Kept.{change_at, without}
use Rattle.kept_mail.proofs.Places.{set-change_at}

waiting_within : (rs : List Recipient) (index : ℕ) → IsWaiting (slice_get rs index) → index < length rs
waiting_within rs index h =
    elim (cases_lt index (length rs)) [
      | inl lt ↦ lt
      | inr le ↦ absurd (subst IsWaiting (slice_get_past rs index le) h)
    ]

-- a recipient who isn't settled is within the list
pub unsettled_within : (es : List Entry) (at index : ℕ) (x : Entry) → IsUnsettled (slice_get es at) index → x ≡ get_or es at x → (at < length es) × (index < length x.recipients)
unsettled_within es at index x h is =
    elim (cases_lt at (length es)) [
      | inl lt ↦ (lt, waiting_within x.recipients index (subst (λ (o : Option Entry). IsUnsettled o index) (slice_get-get_or es at x lt ∙ ap (λ (e : Entry). Some e) (sym is)) h))
      | inr le ↦ absurd (subst (λ (o : Option Entry). IsUnsettled o index) (slice_get_past es at le) h)
    ]

-- an entry with one recipient settled
pub set-without : (es : List Entry) (at index : ℕ) (x made : Entry) → at < length es → x ≡ get_or es at x → made ≡ without index x → set es at made ≡ change_at (without index) es at
set-without es at index x made within is e = ap (λ (y : Entry). set es at y) e ∙ set-change_at (without index) es at x within is

-- ---- what tests say

pub refutes : {b : Bool} → b ≡ false → b ≡ true → ⊥
refutes e h = cc

pub few_enough : (b : Bool) (count more : ℕ) → b ≡ are_too_many count more → b ≡ false → count + more ≤ THINGS_MAX
few_enough b count more is e = ltb-false THINGS_MAX (count + more) (sym is ∙ e)
