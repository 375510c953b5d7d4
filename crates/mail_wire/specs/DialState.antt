-- What a dial tells of itself, and what a connection tells that it made.
use Rattle.std.specs.Prelude.{◌≡◌, ◌⊎◌, ℕ, List, [], ◌∷◌, ◌++◌, Option, Bool, IsTrue, IfSome, option_map, Result, Ok, Err}
use Rattle.std.specs.Io.KnownBytes.{Keeps}
use Rattle.mail_wire.specs.declared.outside.Entry.{Entry}
use Rattle.mail_wire.specs.declared.outside.Failed.{Failed}
use Rattle.mail_wire.specs.declared.outside.Failed.TheVariants.{Outside, Memory}
use Rattle.mail_wire.specs.WireState.{WireState}

-- What a dial tells of itself, which makes connections to other servers.
pub record DialState : Type 0 where
  -- the octets that the next server sends, where it tells
  pub sends : Option (List ℕ)
  -- it tells that the wire to the next server never fails
  pub server_never_fails : Bool
  -- the transcript of the connection that was handed back last, where it tells
  pub transcript : Option (List Entry)
  -- the hosts that it was asked for, in order, where it tells
  pub asked : Option (List (List ℕ))
  -- how often the outside has failed
  pub faults : ℕ

-- Nothing went over the connection yet, and of its server it tells what the dial told.
pub record IsDialled (dial : DialState) (wire : WireState) : Type 0 where
  pub left : Keeps dial.sends wire.left
  pub nothing_yet : IfSome wire.transcript (λ entries. entries ≡ [])
  pub sure : IsTrue dial.server_never_fails → IsTrue wire.never_fails

-- the hosts that a dial was asked for, where they are told, and this one after them
abbrev pub with_host : Option (List (List ℕ)) → List ℕ → Option (List (List ℕ))
with_host asked host = option_map (λ hosts. hosts ++ host ∷ []) asked

-- A dial was asked for this host once more, or for none.
abbrev pub AsksAtMost : Option (List (List ℕ)) → Option (List (List ℕ)) → List ℕ → Type 0
AsksAtMost old new host = (new ≡ old) ⊎ (new ≡ with_host old host)

-- `dial` asked for this host, whether it was reached or not; for want of memory it may have asked for none
abbrev pub AsksHost : {T : Type 0} → Option (List (List ℕ)) → Option (List (List ℕ)) → Result T Failed → List ℕ → Type 0
AsksHost old new (Ok conn) host = new ≡ with_host old host
AsksHost old new (Err Outside) host = new ≡ with_host old host
AsksHost old new (Err Memory) host = AsksAtMost old new host
