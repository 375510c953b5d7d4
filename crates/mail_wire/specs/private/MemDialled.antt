-- A dial in memory, as contracts see it.
use Rattle.std.specs.Prelude.{ℕ, List, Bool}
use Rattle.mail_wire.specs.declared.outside.Entry.{Entry}

pub record MemDialled : Type 0 where
  -- what each server sends
  pub sends : List ℕ
  -- no call of a wire to a server is on the list of those that are to fail
  pub server_never_fails : Bool
  -- what was taken and given over the connection that was handed back last
  pub entries : List Entry
  -- the hosts that were asked for, in order
  pub asked : List (List ℕ)
  -- how often a call has failed
  pub faults : ℕ
