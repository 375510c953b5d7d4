-- What several calls leave as it was.
use Rattle.std.proofs.Common.{◌≡◌, Option, None, Some, Result, refl, ◌∙◌, arith}
use Rattle.mail_wire.specs.KeeperState.{KeeperState}
use Rattle.mail_wire.specs.Keeping.{HasKeeperCause}
use Rattle.mail_wire.specs.declared.outside.Fault.{Fault}
use Rattle.mail_wire.specs.declared.outside.Fault.TheVariants as fault
use Rattle.mail_wire.proofs.Moving.{GoesOn-nil, GoesOn-of, HasWireCause-after, HasWireCause-fine}
use Rattle.session_core.specs.Around.{Around}
use Rattle.session_core.specs.Desks.{IsOpen}
use Rattle.session_core.specs.Keeps.{Keeps, answer_of}

-- ---- the keeper

pub keeper_still : (a : KeeperState) → HasKeeperCause a a (answer_of None) fault.Keeper
keeper_still a = record { later = omega arith; rose = λ bad. absurd cc; sure = λ sure. (sure, λ bad. cc) }

keeper_then : (a b c : KeeperState) (met : Option Fault) → HasKeeperCause a b (answer_of None) fault.Keeper → HasKeeperCause b c (answer_of met) fault.Keeper → HasKeeperCause a c (answer_of met) fault.Keeper
keeper_then a b c met one two = record {
  later = let early = one.later in let late = two.later in omega arith;
  rose = λ failed. let early = one.later in let late = two.rose failed in omega arith;
  sure = λ sure. two.sure (one.sure sure).0;
}

-- an answer that is no fault of the keeper
pub keeper_fine : {T E : Type 0} (a b : KeeperState) (first : Result T E) (second : Option Fault) (met : E) → HasKeeperCause a b first met → ¬ (second ≡ Some fault.Keeper)
    → HasKeeperCause a b (answer_of second) fault.Keeper
keeper_fine a b first None met one fine = record { later = one.later; rose = λ bad. absurd cc; sure = λ sure. ((one.sure sure).0, λ bad. cc) }
keeper_fine a b first (Some fault.Keeper) met one fine = absurd (fine refl)
keeper_fine a b first (Some fault.Wire) met one fine = record { later = one.later; rose = λ bad. absurd cc; sure = λ sure. ((one.sure sure).0, λ bad. cc) }
keeper_fine a b first (Some fault.Memory) met one fine = record { later = one.later; rose = λ bad. absurd cc; sure = λ sure. ((one.sure sure).0, λ bad. cc) }

-- ---- calls

pub Keeps-nil : (a : Around) → Keeps a a None
Keeps-nil a = record {
  wire = HasWireCause-fine a.wire a.wire (answer_of None) fault.Wire (GoesOn-nil a.wire) (λ bad. cc);
  keeper = keeper_still a.keeper;
  works = λ fine opens. opens;
  limit = refl;
  name = refl;
  limits = refl;
  clock = refl;
  loans = refl;
}

-- a call after others
pub Keeps-then : (a b c : Around) (met : Option Fault) → Keeps a b None → Keeps b c met → Keeps a c met
Keeps-then a b c met one two = record {
  wire = HasWireCause-after a.wire b.wire c.wire (answer_of met) fault.Wire (GoesOn-of a.wire b.wire (answer_of None) fault.Wire one.wire) two.wire;
  keeper = keeper_then a.keeper b.keeper c.keeper met one.keeper two.keeper;
  works = λ fine opens. two.works fine (one.works (λ bad. cc) opens);
  limit = two.limit ∙ one.limit;
  name = two.name ∙ one.name;
  limits = two.limits ∙ one.limits;
  clock = two.clock ∙ one.clock;
  loans = two.loans ∙ one.loans;
}

-- want of memory after calls that answered no fault
pub Keeps-memory : (a b : Around) → Keeps a b None → Keeps a b (Some fault.Memory)
Keeps-memory a b kept = record {
  wire = HasWireCause-fine a.wire b.wire (answer_of (Some fault.Memory)) fault.Wire (GoesOn-of a.wire b.wire (answer_of None) fault.Wire kept.wire) (λ bad. cc);
  keeper = keeper_fine a.keeper b.keeper (answer_of None) (Some fault.Memory) fault.Keeper kept.keeper (λ bad. cc);
  works = λ fine opens. kept.works (λ bad. cc) opens;
  limit = kept.limit;
  name = kept.name;
  limits = kept.limits;
  clock = kept.clock;
  loans = kept.loans;
}

pub Keeps-opens : (a b : Around) → Keeps a b None → IsOpen a.desk → IsOpen b.desk
Keeps-opens a b keeps opens = keeps.works (λ bad. cc) opens
