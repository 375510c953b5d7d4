-- The outside of a session, as contracts see it.
use Rattle.std.specs.Prelude.{◌≡◌, ℕ, Option}
use Rattle.std.specs.Borrow.{GName}
use Rattle.mail_wire.specs.KeeperState.{KeeperState}
use Rattle.mail_wire.specs.WireState.{WireState}
use Rattle.session_core.specs.declared.desk.Desk.{Desk}

-- which of the caller's values are lent
pub record Loans : Type 0 where
  pub wire : GName
  pub keeper : GName
  pub clock : GName

-- The outside of a session: its wire, its keeper and its clock, and the desk.
pub record Around : Type 0 where
  pub wire : WireState
  pub keeper : KeeperState
  -- the reading of a clock that tells a fixed one
  pub clock : Option ℕ
  -- the store, the cache and the limits: what a session's state may speak of
  pub desk : Desk
  pub loans : Loans

-- the desk and the keeper are as before
pub record LeavesDesk (before now : Around) : Type 0 where
  pub desk : now.desk ≡ before.desk
  pub keeper : now.keeper ≡ before.keeper
