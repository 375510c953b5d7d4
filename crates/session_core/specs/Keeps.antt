-- How far a call came, and what every call leaves as it was.
use Rattle.std.specs.Prelude.{◌≡◌, Option, None, Some, Result, Ok, Err}
use Rattle.mail_wire.specs.Keeping.{HasKeeperCause}
use Rattle.mail_wire.specs.Moves.{HasWireCause}
use Rattle.mail_wire.specs.declared.outside.Fault.{Fault}
use Rattle.mail_wire.specs.declared.outside.Fault.TheVariants as fault
use Rattle.kept_mail.specs.Kept.{name_of}
use Rattle.session_core.specs.Around.{Around}
use Rattle.session_core.specs.Desks.{IsOpen}

-- the fault that broke a call off
abbrev pub fault_of : {T : Type 0} → Result T Fault → Option Fault
fault_of (Ok x) = None
fault_of (Err met) = Some met

-- the answer of a call that this broke off
abbrev pub answer_of : Option Fault → Result (Unit {0}) Fault
answer_of None = Ok tt
answer_of (Some met) = Err met

-- A fault of the wire or of the keeper comes only where it failed. Unless the keeper failed, a desk that is open stays so. The limits, the
-- store's limit and its name stay, as do what the clock tells and what is lent.
pub record Keeps (before now : Around) (met : Option Fault) : Type 0 where
  pub wire : HasWireCause before.wire now.wire (answer_of met) fault.Wire
  pub keeper : HasKeeperCause before.keeper now.keeper (answer_of met) fault.Keeper
  pub works : ¬ (met ≡ Some fault.Keeper) → IsOpen before.desk → IsOpen now.desk
  pub limit : now.desk.store.message_max ≡ before.desk.store.message_max
  pub name : name_of now.desk.store.kept ≡ name_of before.desk.store.kept
  pub limits : now.desk.limits ≡ before.desk.limits
  pub clock : now.clock ≡ before.clock
  pub loans : now.loans ≡ before.loans
