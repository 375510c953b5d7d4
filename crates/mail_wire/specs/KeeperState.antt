-- What a keeper tells of itself.
use Rattle.std.specs.Prelude.{ℕ, List, Option, Bool}

-- What a keeper tells of itself, which keeps the octets of a journal.
pub record KeeperState : Type 0 where
  -- the octets that it keeps, where it tells
  pub octets : Option (List ℕ)
  -- how many appends were made, where it tells
  pub appends : Option ℕ
  -- how often the outside has failed
  pub faults : ℕ
  -- it tells that it never fails
  pub never_fails : Bool
