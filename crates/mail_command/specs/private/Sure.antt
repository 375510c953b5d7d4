-- A wire and a keeper that never fail.
use Rattle.std.specs.Prelude.{IsTrue}
use Rattle.session_core.specs.Around.{Around}

-- neither the wire nor the keeper ever fails
pub record IsSure (outside : Around) : Type 0 where
  pub wire : IsTrue outside.wire.never_fails
  pub keeper : IsTrue outside.keeper.never_fails
