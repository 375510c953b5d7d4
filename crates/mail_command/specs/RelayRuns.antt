-- What the command does that sends the queue to the next server, by its status.
use Rattle.std.specs.Prelude.{◌≡◌, ◌≢◌, ℕ, List, [], ◌++◌, codes, decimal, Option, Result, Ok, Err, IfOk, IfSome, ◌==◌, if◌then◌else◌}
use Rattle.address_grammar.specs.declared.Address.{Address}
use Rattle.journal_records.specs.Addresses.{WithPaths}
use Rattle.mail_wire.specs.DialState.{DialState}
use Rattle.mail_wire.specs.KeeperState.{KeeperState}
use Rattle.mail_wire.specs.Lines.{crlf}
use Rattle.mail_wire.specs.Moves.{Gives, GivesPrefix}
use Rattle.mail_wire.specs.WireState.{WireState}
use Rattle.mail_wire.specs.declared.outside.Fault.{Fault}
use Rattle.mail_wire.specs.declared.outside.Fault.TheVariants as fault
use Rattle.mail_store.specs.Answers.{LeavesRecords}
use Rattle.relay_choice.specs.declared.mail_objects.Act.{Act as ClientAct}
use Rattle.relay_choice.specs.declared.replies.Reply.{Reply}
use Rattle.session_core.specs.Acts.{Act, changes_in}
use Rattle.session_core.specs.Around.{Around}
use Rattle.session_core.specs.Desks.{IsOpen}
use Rattle.session_core.specs.declared.desk.Desk.{Desk}
use Rattle.session_core.specs.declared.desk.Limits.{Limits}
use Rattle.relay_session.specs.Dialling.{HasDialCause, RelaysQueue}
use Rattle.relay_session.specs.MailObjects.{Mailbag}
use Rattle.relay_session.specs.Relaying.{Carried, HasLeftCause}
use Rattle.relay_session.specs.declared.ends.RelayEnd.{RelayEnd}
use Rattle.setup_command.specs.Running.{BreaksSessionOff, HoldsBegun, HoldsStore, IsBrokenOff, IsUnopened, OpensStore}
use Rattle.setup_command.specs.Statuses.{status_of}
use Rattle.setup_command.specs.declared.statuses.TheConstants.{DONE, LEFT_QUEUED}

-- what the parts of the outside tell
pub record OutsideState : Type 0 where
  pub wire : WireState
  pub keeper : KeeperState
  pub dial : DialState
  -- the reading of a clock that tells a fixed one
  pub clock : Option ℕ

-- the line that tells how a relay ended
abbrev pub relay_line : RelayEnd → List ℕ
relay_line end =
    (codes "sent " ++ decimal end.sent) ++ ((codes ", reported " ++ decimal end.reported) ++ ((codes ", left " ++ decimal end.left) ++ crlf))

-- the work is done, or somebody is left in the queue
abbrev pub relay_status : RelayEnd → ℕ
relay_status end = if end.left == 0 then DONE else LEFT_QUEUED

-- The keeper opens with the records of the store, and the first of those that acts of the client's run bring.
pub record KeepsFirst (path_of : List ℕ → Option (Option Address)) (before : Around) (octets : Option (List ℕ)) : Type 0 where
  pub bag : Mailbag before.desk.store.kept
  pub replies : List Reply
  pub first : List ClientAct
  pub acts : List (Act (List ℕ))
  pub count : ℕ
  pub carried : Carried path_of before bag replies first acts count
  pub holds : HoldsBegun octets before.desk.store (changes_in acts)

-- The keeper opens with the records of the store, and the first of those that acts of a run from this desk bring.
abbrev pub KeepsFirstOf : (path_of : List ℕ → Option (Option Address)) → Desk → (clock : Option ℕ) → Option (List ℕ) → Type 0
KeepsFirstOf path_of desk clock octets = (before : Around) × (before.desk ≡ desk) × (before.clock ≡ clock) × KeepsFirst path_of before octets

-- A desk was opened over the keeper's records, and its queue was relayed to the host, with this answer. Unless the keeper failed, it holds the
-- journal of the store that came of it; and where it failed, it opens with the old records and the first of the new ones.
pub record SendsQueue (limits : Limits) (host : List ℕ) (before now : OutsideState) (result : Result RelayEnd Fault) : Type 0 where
  pub desk : Desk
  pub after : Desk
  pub opened : KeeperState
  pub opens : OpensStore before.keeper.octets opened.octets desk.store
  pub works : IsOpen desk
  pub limits_are : desk.limits ≡ limits
  pub relays : RelaysQueue host (record { dial = before.dial; keeper = opened; clock = before.clock; desk = desk })
      (record { dial = now.dial; keeper = now.keeper; clock = now.clock; desk = after }) result
  pub left : IfOk result HasLeftCause
  pub cause : IfOk result (HasDialCause before.dial now.dial)
  pub holds : result ≢ Err fault.Keeper → HoldsStore now.keeper.octets after.store
  pub begun : result ≡ Err fault.Keeper → WithPaths (λ path_of. IfSome before.keeper.octets (λ octets. KeepsFirstOf path_of desk before.clock now.keeper.octets))

-- how far the command came that was broken off and ended so
pub data BreaksRelay (limits : Limits) (host : List ℕ) (before now : OutsideState) (ended : ℕ) : Type 0 where
  -- the journal wasn't opened
  InJournal : Gives before.wire now.wire [] → LeavesRecords before.keeper.octets now.keeper.octets → now.dial ≡ before.dial
      → BreaksRelay limits host before now ended
  -- the line that tells why it can't be
  InLine : (status : ℕ) (line : List ℕ) → IsUnopened before.keeper.octets now.keeper.octets status line → GivesPrefix before.wire now.wire line
      → LeavesRecords before.keeper.octets now.keeper.octets → now.dial ≡ before.dial → BreaksRelay limits host before now ended
  InRelay : (met : Fault) → SendsQueue limits host before now (Err met) → ended ≡ status_of (Err met) → Gives before.wire now.wire [] → BreaksRelay limits host before now ended
  -- the line that tells how the relay ended
  InEnd : (end : RelayEnd) → SendsQueue limits host before now (Ok end) → IsBrokenOff ended → GivesPrefix before.wire now.wire (relay_line end)
      → BreaksRelay limits host before now ended

-- what the command does that sends the queue to this host, by its status
pub data RunsRelay (limits : Limits) (host : List ℕ) (before now : OutsideState) (status : ℕ) : Type 0 where
  -- the line tells how it ended
  Relayed : (end : RelayEnd) → SendsQueue limits host before now (Ok end) → Gives before.wire now.wire (relay_line end) → status ≡ relay_status end
      → RunsRelay limits host before now status
  -- the journal was told to be bad
  Unopened : (line : List ℕ) → IsUnopened before.keeper.octets now.keeper.octets status line → Gives before.wire now.wire line → now.dial ≡ before.dial
      → RunsRelay limits host before now status
  -- it was broken off
  Broken : BreaksSessionOff status → BreaksRelay limits host before now status → RunsRelay limits host before now status
