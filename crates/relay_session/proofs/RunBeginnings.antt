-- The queue that a run begins with, and the run before its first reply.
use Rattle.std.proofs.Common.{◌≡◌, ◌≢◌, ℕ, ◌+◌, ◌<◌, ◌≤◌, Bool, true, false, List, [], ◌∷◌, ◌++◌, length, Option, Result, refl, sym, ap, subst, ◌∙◌, arith, inl, inr}
use Rattle.std.specs.Prelude.{slice_get}
use Rattle.std.specs.List.{AllByRecursion, AllZip, list_any}
use Rattle.std.specs.Option.{option_map_or}
use Rattle.std.proofs.lemmas.Bool.{cases_Bool, false≢true}
use Rattle.std.proofs.lemmas.List.Elements.{All-nil}
use Rattle.std.proofs.lemmas.List.Sums.{sum_by-cons}
use Rattle.std.proofs.lemmas.Slice.Zip.{AllZip-long}
use Rattle.address_grammar.specs.declared.Address.{Address}
use Rattle.journal_records.specs.Addresses.{WithPaths}
use Rattle.kept_mail.specs.Kept.{Kept, name_of}
use Rattle.kept_mail.specs.declared.kept.Entry.{Entry}
use Rattle.kept_mail.specs.declared.limits.TheConstants.{THINGS_MAX}
use Rattle.mail_store.specs.Queue.{IsQueue, IsQueuedAt, IsUnsettledAt, is_open, open_numbers, places_where, told_count, waits}
use Rattle.mail_store.specs.declared.queue.Queued.{Queued}
use Rattle.mail_store.proofs.FollowLemmas.{Follows-nil}
use Rattle.mail_wire.specs.declared.outside.Fault.{Fault}
use Rattle.mail_wire.proofs.Moving.{Moves-nil}
use Rattle.relay_choice.specs.Pieces.{HasBegunReply}
use Rattle.relay_choice.specs.Relay.{relay_of}
use Rattle.relay_choice.specs.Standing.{rest_of}
use Rattle.relay_choice.specs.declared.mail_objects.MailObject.{MailObject}
use Rattle.relay_choice.specs.declared.replies.Reply.{Reply}
use Rattle.session_core.specs.Around.{Around}
use Rattle.session_core.specs.Moments.{IsTold}
use Rattle.relay_session.specs.MailObjects.{IsMailObjectAt, Mailbag}
use Rattle.relay_session.specs.Relaying.{Relays, RelaysTo, SpeaksInTurn, begun}
use Rattle.relay_session.specs.Streams.{AreReplies}
use Rattle.relay_session.specs.declared.ends.RelayEnd.{RelayEnd}
use Rattle.relay_session.specs.declared.running.Run.{Run}
use Rattle.relay_session.specs.private.Running.{IsAtWork, IsRunning}
use Rattle.relay_session.proofs.ClientActs.{mail_objects_open}
use Rattle.relay_session.proofs.QueueFacts.{are_known, are_open}
use Rattle.relay_session.proofs.RisingPlaces.{places_pass}

-- ---- how many wait

abbrev width : Queued → ℕ
width queued = length queued.unsettled

-- where one passes, there is a place
some_place : {T : Type 0} (test : T → Bool) (at : ℕ) (xs : List T) → list_any test xs ≡ true → 0 < length (places_where test at xs)
some_place test at [] any = absurd (false≢true any)
some_place test at (x ∷ xs) any =
    elim (cases_Bool (test x)) [
      | inl here ↦ rw here (omega arith)
      | inr other ↦ rw other (some_place test (at + 1) xs (rw other at any))
    ]

abbrev IsOpenAt : List Entry → (number : ℕ) → Type 0
IsOpenAt es number = option_map_or is_open (slice_get es number) false ≡ true

numbers_open : (es : List Entry) → AllByRecursion (IsOpenAt es) (open_numbers es)
numbers_open es = places_pass is_open (IsOpenAt es) 0 es (λ i entry there still.
    (let plain : i ≡ 0 + i = omega arith in subst (IsOpenAt es) plain (ap (λ (o : Option Entry). option_map_or is_open o false) there ∙ still)))

-- somebody waits in an entry that is told
some_wait : (es : List Entry) (number : ℕ) (queued : Queued) → IsQueuedAt es number queued → IsOpenAt es number → 0 < width queued
some_wait es number queued told still =
    let entry = told.entry in
    let here : is_open entry ≡ true = sym (ap (λ (o : Option Entry). option_map_or is_open o false) told.there) ∙ still in
    let some = some_place waits 0 entry.recipients here in
    let same = AllZip-long (IsUnsettledAt entry.recipients) (places_where waits 0 entry.recipients) queued.unsettled told.queued.unsettled_are in
    omega (arith, some, same)

few_entries : (es : List Entry) (numbers : List ℕ) (queue : List Queued) → AllZip (IsQueuedAt es) numbers queue → AllByRecursion (IsOpenAt es) numbers → length queue ≤ told_count queue
few_entries es [] [] told still = omega arith
few_entries es [] (queued ∷ queue) told still = absurd told
few_entries es (number ∷ numbers) [] told still = absurd told
few_entries es (number ∷ numbers) (queued ∷ queue) told still =
    let whole = sum_by-cons width queued queue in
    let some = some_wait es number queued told.0 still.0 in
    let more = few_entries es numbers queue told.1 still.1 in
    omega (arith, whole, some, more)

-- no more entries wait than recipients
pub queue_short : (kept : Kept) (queue : List Queued) → IsQueue kept.entries queue → length queue ≤ told_count queue
queue_short kept queue told = few_entries kept.entries (open_numbers kept.entries) queue told (numbers_open kept.entries)

-- ---- before the first reply

in_turn_first : (before : Around) (bag : Mailbag before.desk.store.kept) → SpeaksInTurn before bag []
in_turn_first before bag [] octets rest h = cc
in_turn_first before bag (one ∷ front) octets rest h = cc

none_taken : (octets : List ℕ) → octets ≡ [] → AreReplies [] [] (octets ++ [])
none_taken octets none = record { texts = []; are = tt; whole = rw none refl }

-- What a run begins with.
pub record Begins (before : Around) (queue : List Queued) (mail_objects : List MailObject) (run : Run) : Type 0 where
  pub told : IsQueue before.desk.store.kept.entries queue
  pub all : AllZip (IsMailObjectAt before.desk.store.kept) queue mail_objects
  pub few : told_count queue ≤ THINGS_MAX
  pub octets : run.reader.octets ≡ []
  pub begun : HasBegunReply run.reader
  pub client : (left : List Reply) → rest_of run.client left ≡ relay_of (name_of before.desk.store.kept) mail_objects left
  pub sent : run.tally.sent ≡ 0
  pub reported : run.tally.reported ≡ 0
  pub left : run.tally.left ≡ told_count queue

abbrev bag_of : (before : Around) (queue : List Queued) (mail_objects : List MailObject) (run : Run) → Begins before queue mail_objects run → Mailbag before.desk.store.kept
bag_of before queue mail_objects run begins = record { queue = queue; is_queue = begins.told; mail_objects = mail_objects; are_mail_objects = begins.all }

abbrev work_first : (before : Around) (queue : List Queued) (mail_objects : List MailObject) (run : Run) → (begins : Begins before queue mail_objects run)
    → IsAtWork before before (bag_of before queue mail_objects run begins) run []
work_first before queue mail_objects run begins = record {
  entries = [];
  moves = Moves-nil before.wire;
  in_turn = in_turn_first before (bag_of before queue mail_objects run begins);
  faults = omega arith;
  replies = [];
  are = none_taken run.reader.octets begins.octets;
  begun = begins.begun;
  given = refl;
  messages = refl;
  name = refl;
  clock = refl;
  few = begins.few;
  few_mail_objects =
      let short = queue_short before.desk.store.kept queue begins.told in
      let same = AllZip-long (IsMailObjectAt before.desk.store.kept) queue mail_objects begins.all in
      let few = begins.few in
      omega (arith, short, same, few);
  known = are_known before.desk.store.kept queue begins.told;
  unsettled = are_open before.desk.store.kept queue begins.told;
  waiting = refl;
  goes = λ left. sym (begins.client left);
  sent = begins.sent;
  left =
      let all = mail_objects_open before.desk.store.kept queue mail_objects begins.all in
      let is = begins.left in
      omega (arith, all, is);
  reported = let none = begins.reported in omega (arith, none);
}

-- the run is at work
pub at_work : (before : Around) (queue : List Queued) (mail_objects : List MailObject) (run : Run) → Begins before queue mail_objects run
    → (around : Around) × (bag : Mailbag around.desk.store.kept) × (bag.queue ≡ queue) × IsAtWork around before bag run []
at_work before queue mail_objects run begins = (before, bag_of before queue mail_objects run begins, refl, work_first before queue mail_objects run begins)

running_first : (path_of : List ℕ → Option (Option Address)) (before : Around) (queue : List Queued) (mail_objects : List MailObject) (run : Run) → (begins : Begins before queue mail_objects run)
    → IsRunning path_of before before (bag_of before queue mail_objects run begins) run []
running_first path_of before queue mail_objects run begins = record {
  work = work_first before queue mail_objects run begins;
  does = record {
    acts = [];
    count = 0;
    carried = record { others = []; run_acts = refl; told = []; are_told = All-nil (IsTold before.clock); carries = (refl, refl) };
    done = (refl, Follows-nil before.desk.store before.keeper.octets);
  };
  reported = begins.reported;
}

-- what it comes to is what the relay does
pub relays_begun : (before now : Around) (queue : List Queued) (mail_objects : List MailObject) (run : Run) (result : Result RelayEnd Fault) → Begins before queue mail_objects run → queue ≢ []
    → WithPaths (λ path_of. (around : Around) (bag : Mailbag around.desk.store.kept) → bag.queue ≡ queue → IsRunning path_of around before bag run [] → RelaysTo path_of around now bag result)
    → Relays before now result
relays_begun before now queue mail_objects run result begins some relays path_of reads =
    let bag = bag_of before queue mail_objects run begins in
    begun bag some (relays path_of reads before bag refl (running_first path_of before queue mail_objects run begins))
