-- What a wire tells of itself.
use Rattle.std.specs.Prelude.{ℕ, List, Option, Bool}
use Rattle.mail_wire.specs.declared.outside.Entry.{Entry}

-- What a wire tells of itself: a connection, or what a command reads and writes.
pub record WireState : Type 0 where
  -- the octets that are left to take, where it tells
  pub left : Option (List ℕ)
  -- what was taken and given so far, where it tells
  pub transcript : Option (List Entry)
  -- how often the outside has failed
  pub faults : ℕ
  -- it tells that it never fails
  pub never_fails : Bool
