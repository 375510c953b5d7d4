-- What the relay does over a wire to a next server, by all that the server sends (RFC 5321, 4.3.2).
use Rattle.std.specs.Prelude.{◌≡◌, ◌≢◌, ◌⊎◌, ℕ, ◌<◌, List, [], ◌∷◌, ◌++◌, Option, None, Some, Result, Ok, Err}
use Rattle.std.specs.Io.KnownBytes.{IsAtEnd}
use Rattle.std.specs.List.{All}
use Rattle.address_grammar.specs.declared.Address.{Address}
use Rattle.kept_mail.specs.Kept.{name_of}
use Rattle.mail_store.specs.Following.{Follows, records_of}
use Rattle.mail_store.specs.Queue.{open_numbers}
use Rattle.journal_records.specs.Addresses.{WithPaths}
use Rattle.mail_wire.specs.Causes.{Rose}
use Rattle.mail_wire.specs.Moves.{Moves}
use Rattle.mail_wire.specs.Transcript.{given_of, taken_of}
use Rattle.mail_wire.specs.declared.outside.Entry.{Entry}
use Rattle.mail_wire.specs.declared.outside.Entry.TheVariants.{Taken}
use Rattle.mail_wire.specs.declared.outside.Fault.{Fault}
use Rattle.mail_wire.specs.declared.outside.Fault.TheVariants as fault
use Rattle.relay_choice.specs.Relay.{Run, finished, left_count, relay_of, sent_count, sent_octets, stopped, waits}
use Rattle.relay_choice.specs.Replies.{IsNoFront, IsReply}
use Rattle.relay_choice.specs.Said.{quit_line}
use Rattle.relay_choice.specs.declared.mail_objects.Act.{Act as ClientAct}
use Rattle.relay_choice.specs.declared.mail_objects.MailObject.{MailObject}
use Rattle.relay_choice.specs.declared.replies.Reply.{Reply}
use Rattle.session_core.specs.Acts.{Act, changes_in}
use Rattle.session_core.specs.Around.{Around}
use Rattle.session_core.specs.Done.{IsDone, given_by}
use Rattle.session_core.specs.Moments.{IsTold, Moment}
use Rattle.relay_session.specs.Carrying.{CarriesActs}
use Rattle.relay_session.specs.MailObjects.{Mailbag, messages_of}
use Rattle.relay_session.specs.Streams.{AreReplies, IsUndecided}
use Rattle.relay_session.specs.declared.ends.LeftCause.{LeftCause}
use Rattle.relay_session.specs.declared.ends.LeftCause.TheVariants as cause
use Rattle.relay_session.specs.declared.ends.RelayEnd.{RelayEnd}

-- the run of the client over these replies
abbrev pub run_of : (before : Around) → List MailObject → List Reply → Run
run_of before mail_objects replies = relay_of (name_of before.desk.store.kept) mail_objects replies

-- what is given is what the client says to the replies that were taken, and it awaits a further one
pub record IsAnswered (before : Around) (bag : Mailbag before.desk.store.kept) (taken given : List ℕ) : Type 0 where
  pub replies : List Reply
  pub following : List ℕ
  pub are : AreReplies taken replies following
  pub undecided : IsUndecided following
  pub waits_for_more : (run_of before bag.mail_objects replies).end ≡ waits
  pub given_is : given ≡ sent_octets (messages_of before.desk.store.kept bag.queue) (run_of before bag.mail_objects replies).acts

-- before each take all was said that was due, and a reply was awaited
abbrev pub SpeaksInTurn : (before : Around) → Mailbag before.desk.store.kept → List Entry → Type 0
SpeaksInTurn before bag entries =
    (front : List Entry) (octets : List ℕ) (rest : List Entry) → entries ≡ front ++ Taken octets ∷ rest → IsAnswered before bag (taken_of front) (given_of front)

-- ---- how far it came

-- The first acts of the client's run over these replies, which carry these acts and so many reports, at moments that the clock told.
pub record Carried (path_of : List ℕ → Option (Option Address)) (before : Around) (bag : Mailbag before.desk.store.kept) (replies : List Reply) (first : List ClientAct) (acts : List (Act (List ℕ))) (count : ℕ) : Type 0 where
  pub others : List ClientAct
  pub run_acts : (run_of before bag.mail_objects replies).acts ≡ first ++ others
  pub told : List Moment
  pub are_told : All (IsTold before.clock) told
  pub carries : CarriesActs path_of before.desk.store bag.queue (messages_of before.desk.store.kept bag.queue) told first acts count

-- what was done of acts, where nothing or this broke them off
abbrev pub Done : (before now : Around) → Option Fault → List (Act (List ℕ)) → (given : List ℕ) → Type 0
Done before now met acts given = IsDone (λ octets. octets) before.desk.store now.desk.store before.keeper.octets now.keeper.octets met acts given

-- A run was broken off in the last of these acts, or after them.
pub record BreaksRunOff (path_of : List ℕ → Option (Option Address)) (before now : Around) (bag : Mailbag before.desk.store.kept) (replies : List Reply) (given : List ℕ) (met : Fault) : Type 0 where
  pub first : List ClientAct
  pub acts : List (Act (List ℕ))
  pub count : ℕ
  pub carried : Carried path_of before bag replies first acts count
  pub done : Done before now (Some met) acts given

-- all was done that the client does over these replies
pub record DoesRun (path_of : List ℕ → Option (Option Address)) (before now : Around) (bag : Mailbag before.desk.store.kept) (replies : List Reply) (given : List ℕ) : Type 0 where
  pub acts : List (Act (List ℕ))
  pub count : ℕ
  pub carried : Carried path_of before bag replies (run_of before bag.mail_objects replies).acts acts count
  pub done : Done before now None acts given

-- All was done but that QUIT may have arrived in part, or not at all, where the wire failed.
pub record LeavesServer (path_of : List ℕ → Option (Option Address)) (before now : Around) (bag : Mailbag before.desk.store.kept) (replies : List Reply) (given : List ℕ) : Type 0 where
  pub acts : List (Act (List ℕ))
  pub count : ℕ
  pub carried : Carried path_of before bag replies (run_of before bag.mail_objects replies).acts acts count
  pub begun : List ℕ
  pub missing : List ℕ
  pub leave : quit_line ≡ begun ++ missing
  pub given_is : given_by (λ octets. octets) acts ≡ given ++ missing
  pub arrives : (missing ≡ []) ⊎ Rose before.wire.faults now.wire.faults
  pub follows : Follows before.desk.store now.desk.store before.keeper.octets now.keeper.octets (records_of (changes_in acts))

-- ---- how it ends

-- the numbers that these acts of the client come to, with so many reports
pub record HasNumbers (mail_objects : List MailObject) (first : List ClientAct) (count : ℕ) (end : RelayEnd) : Type 0 where
  pub sent : end.sent ≡ sent_count first
  pub reported : end.reported ≡ count
  pub left : end.left ≡ left_count mail_objects first

-- Somebody is left exactly where a cause is told.
pub record HasLeftCause (end : RelayEnd) : Type 0 where
  pub nobody : end.cause ≡ None → end.left ≡ 0
  pub some : end.cause ≢ None → 0 < end.left

-- every mail object is done with
pub record Finishes (path_of : List ℕ → Option (Option Address)) (before now : Around) (bag : Mailbag before.desk.store.kept) (replies : List Reply) (given : List ℕ) (end : RelayEnd) : Type 0 where
  pub finishes : (run_of before bag.mail_objects replies).end ≡ finished
  pub leaves : LeavesServer path_of before now bag replies given
  pub counts : HasNumbers bag.mail_objects (run_of before bag.mail_objects replies).acts leaves.count end

-- Why octets in a reply's place stop the run: they are a reply that does, which stands after the others in what was taken, or the
-- least that begin none, or nothing more comes.
pub data StopsRun (now : Around) (run : Run) (taken : List ℕ) (replies : List Reply) (following octets : List ℕ) : Type 0 where
  by_reply : (reply : Reply) (front : List Reply) → replies ≡ front ++ reply ∷ [] → IsReply octets reply → AreReplies taken front (octets ++ following) → run.end ≡ stopped reply → StopsRun now run taken replies following octets
  by_no_reply : (more : List ℕ) → run.end ≡ waits → following ≡ octets ++ more → IsNoFront octets → StopsRun now run taken replies following octets
  by_end : run.end ≡ waits → following ≡ octets → IsUndecided octets → IsAtEnd now.wire.left → StopsRun now run taken replies following octets

-- the octets stop the run, and all was done before
pub record StopsByOctets (path_of : List ℕ → Option (Option Address)) (before now : Around) (bag : Mailbag before.desk.store.kept) (taken : List ℕ) (replies : List Reply) (following given octets : List ℕ) (end : RelayEnd) : Type 0 where
  pub stops : StopsRun now (run_of before bag.mail_objects replies) taken replies following octets
  pub does : DoesRun path_of before now bag replies given
  pub counts : HasNumbers bag.mail_objects (run_of before bag.mail_objects replies).acts does.count end

-- the wire failed, and a further reply would have been awaited
pub record FailsOnWire (path_of : List ℕ → Option (Option Address)) (before now : Around) (bag : Mailbag before.desk.store.kept) (replies : List Reply) (given : List ℕ) (end : RelayEnd) : Type 0 where
  pub goes_on : (run_of before bag.mail_objects replies).end ≡ waits
  pub breaks : BreaksRunOff path_of before now bag replies given fault.Wire
  pub counts : HasNumbers bag.mail_objects breaks.first breaks.count end

-- What a run has done by its end: it finished, the wire failed, or a reply stopped it.
abbrev pub EndsRun : (path_of : List ℕ → Option (Option Address)) (before now : Around) (bag : Mailbag before.desk.store.kept) (entries : List Entry) (replies : List Reply) (following : List ℕ) (end : RelayEnd) → Option LeftCause → Type 0
EndsRun path_of before now bag entries replies following end None = Finishes path_of before now bag replies (given_of entries) end
EndsRun path_of before now bag entries replies following end (Some cause.Dial) = ⊥
EndsRun path_of before now bag entries replies following end (Some cause.Wire) = FailsOnWire path_of before now bag replies (given_of entries) end
EndsRun path_of before now bag entries replies following end (Some (cause.Reply octets)) = StopsByOctets path_of before now bag (taken_of entries) replies following (given_of entries) octets end

-- What a run has done by its answer: it came to this end, or was broken off by a fault of the keeper or for want of memory.
abbrev pub AnswersRelay : (path_of : List ℕ → Option (Option Address)) (before now : Around) (bag : Mailbag before.desk.store.kept) (entries : List Entry) (replies : List Reply) (following : List ℕ) → Result RelayEnd Fault → Type 0
AnswersRelay path_of before now bag entries replies following (Ok end) = EndsRun path_of before now bag entries replies following end end.cause
AnswersRelay path_of before now bag entries replies following (Err fault.Wire) = ⊥
AnswersRelay path_of before now bag entries replies following (Err fault.Keeper) = BreaksRunOff path_of before now bag replies (given_of entries) fault.Keeper
AnswersRelay path_of before now bag entries replies following (Err fault.Memory) = BreaksRunOff path_of before now bag replies (given_of entries) fault.Memory

-- The client's acts over the replies that were taken, and no others.
pub record RelaysTo (path_of : List ℕ → Option (Option Address)) (before now : Around) (bag : Mailbag before.desk.store.kept) (result : Result RelayEnd Fault) : Type 0 where
  pub entries : List Entry
  pub moves : Moves before.wire now.wire entries
  pub in_turn : SpeaksInTurn before bag entries
  pub replies : List Reply
  pub following : List ℕ
  pub are : AreReplies (taken_of entries) replies following
  pub answers : AnswersRelay path_of before now bag entries replies following result

-- What the relay does, by its answer.
pub data RelaysBy (path_of : List ℕ → Option (Option Address)) (before now : Around) (result : Result RelayEnd Fault) : Type 0 where
  -- there was no memory for the queue
  unbegun : result ≡ Err fault.Memory → now ≡ before → RelaysBy path_of before now result
  -- Nobody waits in the queue, and nothing is done.
  idle : open_numbers before.desk.store.kept.entries ≡ [] → now ≡ before → result ≡ Ok (record { sent = 0; reported = 0; left = 0; cause = None }) → RelaysBy path_of before now result
  begun : (bag : Mailbag before.desk.store.kept) → bag.queue ≢ [] → RelaysTo path_of before now bag result → RelaysBy path_of before now result

-- What the relay does over a wire, whatever function reads paths.
abbrev pub Relays : Around → Around → Result RelayEnd Fault → Type 0
Relays before now result = WithPaths (λ path_of. RelaysBy path_of before now result)

-- ---- by all that the server sends

-- What was given is a front of what the client says to these replies.
pub record SaysFrontOf (before now : Around) (replies : List Reply) : Type 0 where
  pub entries : List Entry
  pub moves : Moves before.wire now.wire entries
  pub says : (given_of entries ≡ [])
      ⊎ ((bag : Mailbag before.desk.store.kept) × (missing : List ℕ)
      × (sent_octets (messages_of before.desk.store.kept bag.queue) (run_of before bag.mail_objects replies).acts ≡ given_of entries ++ missing))
