-- What stands at a place of a list, changed.
use Rattle.std.proofs.Common.{◌≡◌, ℕ, zero, suc, ◌<◌, List, [], ◌∷◌, length, get_or, set, ap, arith}
use Rattle.kept_mail.specs.Kept.{change_at}

-- setting what a change makes of it is changing it there
pub set-change_at : {T : Type 0} (change : T → T) (xs : List T) (at : ℕ) (x : T) → at < length xs → x ≡ get_or xs at x → set xs at (change x) ≡ change_at change xs at
set-change_at change [] at x within is = absurd (omega arith)
set-change_at change (y ∷ xs) zero x within is = ap (λ z. change z ∷ xs) is
set-change_at change (y ∷ xs) (suc at) x within is = ap (λ l. y ∷ l) (set-change_at change xs at x (omega arith) is)
