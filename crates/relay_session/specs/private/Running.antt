-- A run in the midst of its replies.
use Rattle.std.specs.Prelude.{◌≡◌, ◌⊎◌, ℕ, ◌+◌, ◌-◌, ◌*◌, ◌<◌, ◌≤◌, List, [], ◌∷◌, ◌++◌, length, Bool, true, false, IsTrue, Option, None, Some, Result, Ok, Err}
use Rattle.address_grammar.specs.declared.Address.{Address}
use Rattle.journal_records.specs.Addresses.{WithPaths}
use Rattle.kept_mail.specs.Kept.{name_of}
use Rattle.kept_mail.specs.declared.limits.TheConstants.{THINGS_MAX}
use Rattle.mail_store.specs.Queue.{told_count}
use Rattle.mail_store.specs.declared.queue.Queued.{Queued}
use Rattle.mail_wire.specs.Causes.{Rose}
use Rattle.mail_wire.specs.Moves.{Moves}
use Rattle.mail_wire.specs.Transcript.{given_of, taken_of}
use Rattle.mail_wire.specs.declared.outside.Entry.{Entry}
use Rattle.mail_wire.specs.declared.outside.Fault.{Fault}
use Rattle.relay_choice.specs.Pieces.{HasBegunReply}
use Rattle.relay_choice.specs.Relay.{after_acts, finished, left_count, sent_count, sent_octets, stopped, waits}
use Rattle.relay_choice.specs.Replies.{IsNoFront, IsReply}
use Rattle.relay_choice.specs.Standing.{TakesLeave as LeavesLast, replies_left, rest_of, standing_of}
use Rattle.relay_choice.specs.declared.client.Turn.{Turn}
use Rattle.relay_choice.specs.declared.client.Turn.TheVariants as turn
use Rattle.relay_choice.specs.declared.mail_objects.Act.{Act as ClientAct}
use Rattle.relay_choice.specs.declared.replies.TheConstants.{REPLY_LINES, REPLY_LINE_MAX}
use Rattle.relay_choice.specs.declared.replies.Reply.{Reply}
use Rattle.relay_choice.specs.declared.states.Client.{Client}
use Rattle.session_core.specs.Around.{Around}
use Rattle.relay_session.specs.MailObjects.{Mailbag, messages_of}
use Rattle.relay_session.specs.Relaying.{DoesRun, RelaysTo, SpeaksInTurn, run_of}
use Rattle.relay_session.specs.Streams.{AreReplies}
use Rattle.relay_session.specs.declared.ends.LeftCause.{LeftCause}
use Rattle.relay_session.specs.declared.ends.LeftCause.TheVariants as cause
use Rattle.relay_session.specs.declared.ends.RelayEnd.{RelayEnd}
use Rattle.relay_session.specs.declared.ends.Tally.{Tally}
use Rattle.relay_session.specs.declared.running.Advance.{Advance}
use Rattle.relay_session.specs.declared.running.Advance.TheVariants as advance
use Rattle.relay_session.specs.declared.running.Run.{Run}
use Rattle.relay_session.specs.private.Acting.{AreKnown, AreOpenFrom, settled_count}

-- The run awaits a reply, and of what was taken these octets weren't looked at. The entries that its acts have not settled are open.
pub record IsAtWork (before now : Around) (bag : Mailbag before.desk.store.kept) (run : Run) (pending : List ℕ) : Type 0 where
  pub entries : List Entry
  pub moves : Moves before.wire now.wire entries
  pub in_turn : SpeaksInTurn before bag entries
  pub replies : List Reply
  pub are : AreReplies (taken_of entries) replies (run.reader.octets ++ pending)
  pub begun : HasBegunReply run.reader
  pub given : given_of entries ≡ sent_octets (messages_of before.desk.store.kept bag.queue) (run_of before bag.mail_objects replies).acts
  pub messages : messages_of now.desk.store.kept bag.queue ≡ messages_of before.desk.store.kept bag.queue
  pub name : name_of now.desk.store.kept ≡ name_of before.desk.store.kept
  pub clock : now.clock ≡ before.clock
  pub faults : before.wire.faults ≤ now.wire.faults
  pub few : told_count bag.queue ≤ THINGS_MAX
  pub few_mail_objects : length bag.mail_objects ≤ THINGS_MAX
  pub known : AreKnown now.desk.store.kept bag.queue
  pub unsettled : AreOpenFrom now.desk.store.kept bag.queue (settled_count (run_of before bag.mail_objects replies).acts)
  pub waiting : (run_of before bag.mail_objects replies).end ≡ waits
  pub goes : (left : List Reply) → run_of before bag.mail_objects (replies ++ left) ≡ after_acts (run_of before bag.mail_objects replies).acts (rest_of run.client left)
  pub sent : run.tally.sent ≡ sent_count (run_of before bag.mail_objects replies).acts
  pub left : run.tally.left ≡ left_count bag.mail_objects (run_of before bag.mail_objects replies).acts
  pub reported : run.tally.reported ≤ settled_count (run_of before bag.mail_objects replies).acts

-- and all was done over the replies so far
pub record IsRunning (path_of : List ℕ → Option (Option Address)) (before now : Around) (bag : Mailbag before.desk.store.kept) (run : Run) (pending : List ℕ) : Type 0 where
  pub work : IsAtWork before now bag run pending
  pub does : DoesRun path_of before now bag work.replies (given_of work.entries)
  pub reported : run.tally.reported ≡ does.count

-- what holds of a run that goes on
abbrev pub OnGoes : (Run → Type 0) → Advance → Type 0
OnGoes P (advance.Goes run) = P run
OnGoes P (advance.Ends end) = Unit {0}

-- what holds of the end of a run
abbrev pub OnEnds : (RelayEnd → Type 0) → Advance → Type 0
OnEnds P (advance.Goes run) = Unit {0}
OnEnds P (advance.Ends end) = P end

-- the run goes on, or this is how it ended
abbrev pub AdvancesTo : (path_of : List ℕ → Option (Option Address)) (before now : Around) (bag : Mailbag before.desk.store.kept) (pending : List ℕ) → Result Advance Fault → Type 0
AdvancesTo path_of before now bag pending (Ok (advance.Goes run)) = IsRunning path_of before now bag run pending
AdvancesTo path_of before now bag pending (Ok (advance.Ends end)) = RelaysTo path_of before now bag (Ok end)
AdvancesTo path_of before now bag pending (Err met) = RelaysTo path_of before now bag (Err met)

-- how many octets a run takes at most
abbrev pub octets_left : Run → ℕ
octets_left run = replies_left (standing_of run.client) * (REPLY_LINES * REPLY_LINE_MAX) - length run.reader.octets

-- it takes so many octets fewer
abbrev pub StaysShort : Run → (taken : List ℕ) → Advance → Type 0
StaysShort run taken advance = OnGoes (λ next. octets_left next + length taken ≤ octets_left run) advance

-- the wire is told to have failed only where it did
abbrev pub IsWireCause : Around → Around → RelayEnd → Type 0
IsWireCause before now end = end.cause ≡ Some cause.Wire → Rose before.wire.faults now.wire.faults × ¬ IsTrue before.wire.never_fails

-- ---- what a reply comes to

-- a reply after which the client goes on with these acts, and awaits fewer
pub record TurnsOn (client : Client) (octets : List ℕ) (next : Client) (acts : List ClientAct) : Type 0 where
  pub reply : Reply
  pub is : IsReply octets reply
  pub comes : (left : List Reply) → rest_of client (reply ∷ left) ≡ after_acts acts (rest_of next left)
  pub fewer : replies_left (standing_of next) < replies_left (standing_of client)

-- one after which it does these acts and takes leave
pub record TurnsLast (client : Client) (octets : List ℕ) (acts : List ClientAct) : Type 0 where
  pub reply : Reply
  pub is : IsReply octets reply
  pub comes : (left : List Reply) → rest_of client (reply ∷ left) ≡ record { acts = acts; end = finished }
  pub leave : LeavesLast acts

-- one that stops the run
pub record StopsBy (client : Client) (octets : List ℕ) : Type 0 where
  pub reply : Reply
  pub is : IsReply octets reply
  pub comes : (left : List Reply) → rest_of client (reply ∷ left) ≡ record { acts = []; end = stopped reply }

-- The turn of a client after octets that are a reply. Octets that begin none stop the run, as some replies do.
abbrev pub TurnsBy : Client → (octets : List ℕ) → Turn → Type 0
TurnsBy client octets (turn.Goes next acts) = TurnsOn client octets next acts
TurnsBy client octets (turn.Ends acts) = TurnsLast client octets acts
TurnsBy client octets turn.Stops = StopsBy client octets ⊎ IsNoFront octets

-- the end of a run that did so much
abbrev pub end_of : Tally → Option LeftCause → RelayEnd
end_of tally cause = record { sent = tally.sent; reported = tally.reported; left = tally.left; cause = cause }

-- what a run comes to whose acts were done, unless the wire or another fault broke them off
abbrev pub going_on : Run → (done : Result Bool Fault) → Result Advance Fault
going_on run (Ok true) = Ok (advance.Goes run)
going_on run (Ok false) = Ok (advance.Ends (end_of run.tally (Some cause.Wire)))
going_on run (Err met) = Err met

-- and one whose last acts were done, the end of which need not arrive
abbrev pub ending_with : Tally → (done : Result Bool Fault) → Result Advance Fault
ending_with tally (Ok arrived) = Ok (advance.Ends (end_of tally None))
ending_with tally (Err met) = Err met

-- ---- whatever run it is

-- the run is one over this queue, and these octets are the first that it didn't look at
abbrev pub IsOfSome : (now : Around) → List Queued → Run → (octets : List ℕ) → Type 0
IsOfSome now queue run octets = (before : Around) × (bag : Mailbag before.desk.store.kept) × (rest : List ℕ) × (bag.queue ≡ queue) × IsAtWork before now bag run (octets ++ rest)

-- what each such run comes to by them
abbrev pub AdvancesBy : (old new : Around) → List Queued → Run → (octets : List ℕ) → Result Advance Fault → Type 0
AdvancesBy old new queue run octets result =
    WithPaths (λ path_of. (before : Around) (bag : Mailbag before.desk.store.kept) (rest : List ℕ) → bag.queue ≡ queue → IsRunning path_of before old bag run (octets ++ rest)
    → AdvancesTo path_of before new bag rest result)

-- where it goes on, it is at work
abbrev pub StaysAtWork : (old new : Around) → List Queued → Run → (octets : List ℕ) → Advance → Type 0
StaysAtWork old new queue run octets advance =
    OnGoes (λ next. (before : Around) (bag : Mailbag before.desk.store.kept) (rest : List ℕ) → bag.queue ≡ queue → IsAtWork before old bag run (octets ++ rest) → IsAtWork before new bag next rest) advance
