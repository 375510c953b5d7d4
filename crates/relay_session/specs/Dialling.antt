-- What the relay does by a dial, which connects it to the next server.
use Rattle.std.specs.Prelude.{◌≡◌, ◌≢◌, ℕ, List, [], Option, None, Some, Result, Ok, Err, IsTrue}
use Rattle.address_grammar.specs.declared.Address.{Address}
use Rattle.journal_records.specs.Addresses.{WithPaths}
use Rattle.mail_store.specs.Queue.{IsQueue, open_numbers, told_count}
use Rattle.mail_store.specs.declared.queue.Queued.{Queued}
use Rattle.mail_wire.specs.Causes.{Rose}
use Rattle.mail_wire.specs.DialState.{AsksAtMost, DialState, IsDialled, with_host}
use Rattle.mail_wire.specs.KeeperState.{KeeperState}
use Rattle.mail_wire.specs.WireState.{WireState}
use Rattle.mail_wire.specs.declared.outside.Fault.{Fault}
use Rattle.mail_wire.specs.declared.outside.Fault.TheVariants as fault
use Rattle.session_core.specs.Around.{Around, Loans}
use Rattle.session_core.specs.declared.desk.Desk.{Desk}
use Rattle.relay_session.specs.Relaying.{RelaysBy}
use Rattle.relay_session.specs.declared.ends.LeftCause.TheVariants as cause
use Rattle.relay_session.specs.declared.ends.RelayEnd.{RelayEnd}

-- the outside of a relay that isn't connected, as contracts see it
pub record AroundDial : Type 0 where
  pub dial : DialState
  pub keeper : KeeperState
  -- the reading of a clock that tells a fixed one
  pub clock : Option ℕ
  pub desk : Desk

-- The outside of a relay with a wire to a server in the place of the dial.
abbrev pub over_wire : AroundDial → WireState → Loans → Around
over_wire around wire loans = record { wire = wire; keeper = around.keeper; clock = around.clock; desk = around.desk; loans = loans }

-- Nothing was sent, and the desk and the keeper are as before.
pub record StaysHome (before now : AroundDial) : Type 0 where
  pub desk : now.desk ≡ before.desk
  pub keeper : now.keeper ≡ before.keeper
  pub transcript : now.dial.transcript ≡ before.dial.transcript

-- The dial made a connection to the host, on which nothing went yet, and the queue was relayed over it. Then the dial was handed it back.
pub record RelaysOverDialled (path_of : List ℕ → Option (Option Address)) (host : List ℕ) (before now : AroundDial) (result : Result RelayEnd Fault) : Type 0 where
  pub asked : now.dial.asked ≡ with_host before.dial.asked host
  pub opened : WireState
  pub closed : WireState
  pub loans : Loans
  pub dialled : IsDialled before.dial opened
  pub relays : RelaysBy path_of (over_wire before opened loans) (over_wire now closed loans) result
  pub handed_back : now.dial.transcript ≡ closed.transcript

-- what the relay does by a dial, which is asked for this host once at most, by its answer
pub data RelaysQueueBy (path_of : List ℕ → Option (Option Address)) (host : List ℕ) (before now : AroundDial) (result : Result RelayEnd Fault) : Type 0 where
  -- there was no memory for the queue, or for a connection
  unbegun : result ≡ Err fault.Memory → StaysHome before now → AsksAtMost before.dial.asked now.dial.asked host → RelaysQueueBy path_of host before now result
  -- Nobody waits in the queue, and nobody is dialled.
  nobody_waits : open_numbers before.desk.store.kept.entries ≡ [] → now ≡ before
      → result ≡ Ok (record { sent = 0; reported = 0; left = 0; cause = None }) → RelaysQueueBy path_of host before now result
  -- the dial failed, and everybody is left
  unreached : (queue : List Queued) → IsQueue before.desk.store.kept.entries queue → queue ≢ [] → StaysHome before now → now.dial.asked ≡ with_host before.dial.asked host
      → Rose before.dial.faults now.dial.faults → result ≡ Ok (record { sent = 0; reported = 0; left = told_count queue; cause = Some cause.Dial })
      → RelaysQueueBy path_of host before now result
  connected : open_numbers before.desk.store.kept.entries ≢ [] → RelaysOverDialled path_of host before now result → RelaysQueueBy path_of host before now result

-- What a relay of the queue does, whatever function reads paths.
abbrev pub RelaysQueue : List ℕ → AroundDial → AroundDial → Result RelayEnd Fault → Type 0
RelaysQueue host before now result = WithPaths (λ path_of. RelaysQueueBy path_of host before now result)

-- ---- why recipients are left

-- The dial is told to have failed only where its count of faults rose, and the wire only where the dial didn't tell that it never fails.
pub record HasDialCause (before now : DialState) (end : RelayEnd) : Type 0 where
  pub dial : end.cause ≡ Some cause.Dial → Rose before.faults now.faults
  pub wire : IsTrue before.server_never_fails → end.cause ≢ Some cause.Wire
