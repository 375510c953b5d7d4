-- A keeper over several calls.
use Rattle.std.proofs.Common.{◌≡◌, ◌≤◌, arith, Result, Err}
use Rattle.std.specs.Prelude.{IsTrue}
use Rattle.mail_wire.specs.KeeperState.{KeeperState}
use Rattle.mail_wire.specs.Keeping.{HasKeeperCause}
use Rattle.mail_wire.proofs.Moving.{Rose-earlier}

-- The count of faults doesn't fall, and a keeper that tells that it never fails goes on telling so.
pub record KeepsOn (before now : KeeperState) : Type 0 where
  pub later : before.faults ≤ now.faults
  pub sure : IsTrue before.never_fails → IsTrue now.never_fails

pub KeepsOn-nil : (a : KeeperState) → KeepsOn a a
KeepsOn-nil a = record { later = omega arith; sure = λ sure. sure }

pub KeepsOn-trans : (a b c : KeeperState) → KeepsOn a b → KeepsOn b c → KeepsOn a c
KeepsOn-trans a b c one two = record { later = let early = one.later in let late = two.later in omega arith; sure = λ sure. two.sure (one.sure sure) }

pub KeepsOn-of : {T E : Type 0} (a b : KeeperState) (result : Result T E) (fault : E) → HasKeeperCause a b result fault → KeepsOn a b
KeepsOn-of a b result fault cause = record { later = cause.later; sure = λ sure. (cause.sure sure).0 }

-- one more call
pub KeepsOn-more : {T E : Type 0} (a b c : KeeperState) (result : Result T E) (fault : E) → KeepsOn a b → HasKeeperCause b c result fault → KeepsOn a c
KeepsOn-more a b c result fault one two = KeepsOn-trans a b c one (KeepsOn-of b c result fault two)

-- the cause of a call after others
pub HasKeeperCause-after : {T E : Type 0} (a b c : KeeperState) (result : Result T E) (fault : E) → KeepsOn a b → HasKeeperCause b c result fault → HasKeeperCause a c result fault
HasKeeperCause-after a b c result fault one two = record {
  later = let early = one.later in let late = two.later in omega arith;
  rose = λ failed. Rose-earlier a.faults b.faults c.faults one.later (two.rose failed);
  sure = λ sure. two.sure (one.sure sure);
}

-- an answer that is no fault of the keeper
pub HasKeeperCause-fine : {T E : Type 0} (a b : KeeperState) (result : Result T E) (fault : E) → KeepsOn a b → (result ≡ Err fault → ⊥) → HasKeeperCause a b result fault
HasKeeperCause-fine a b result fault one fine = record { later = one.later; rose = λ failed. absurd (fine failed); sure = λ sure. (one.sure sure, fine) }
