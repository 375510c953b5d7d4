-- What single acts of a client come to.
use Rattle.std.specs.Prelude.{◌≡◌, ◌⊎◌, ℕ, ◌+◌, ◌-◌, ◌<◌, ◌≤◌, ◌^◌, List, [], ◌∷◌, ◌++◌, length, map, Bool, true, false, if◌then◌else◌, Option, None, Some, Result, Ok, Err, drop, slice_get}
use Rattle.std.specs.List.{All, flat_map}
use Rattle.std.specs.List.Sorted.{IsStrictlyIncreasing}
use Rattle.address_grammar.specs.declared.Address.{Address}
use Rattle.journal_records.specs.Addresses.{IsSendable, WithPaths}
use Rattle.journal_records.specs.declared.records.Record.{Record}
use Rattle.kept_mail.specs.Kept.{Kept}
use Rattle.mail_store.specs.Changing.{is_unsettled}
use Rattle.mail_store.specs.Queue.{HasPaths}
use Rattle.mail_store.specs.declared.queue.Queued.{Queued}
use Rattle.mail_store.specs.declared.queue.Unsettled.{Unsettled}
use Rattle.mail_wire.specs.declared.outside.Fault.{Fault}
use Rattle.mail_wire.specs.declared.outside.Fault.TheVariants as fault
use Rattle.relay_choice.specs.Relay.{outcomes_in, sent_count}
use Rattle.relay_choice.specs.Settling.{IsFitOutcome}
use Rattle.relay_choice.specs.declared.mail_objects.Act.{Act as ClientAct}
use Rattle.relay_choice.specs.declared.mail_objects.Act.TheVariants as act
use Rattle.relay_choice.specs.declared.mail_objects.Outcome.{Outcome}
use Rattle.session_core.specs.Acts.{Act, changes, gives}
use Rattle.session_core.specs.Around.{Around}
use Rattle.session_core.specs.Doing.{Does, Makes, Replies}
use Rattle.session_core.specs.Keeps.{Keeps}
use Rattle.session_core.specs.Moments.{IsTold, Moment}
use Rattle.relay_session.specs.Carrying.{CarriesActs, IsSettled}
use Rattle.relay_session.specs.MailObjects.{entry_octets, messages_of}
use Rattle.relay_session.specs.Reporting.{Reports}
use Rattle.relay_session.specs.declared.ends.Tally.{Tally}
use Rattle.relay_session.specs.declared.reporting.Destination.{Destination}
use Rattle.relay_session.specs.declared.reporting.Destination.TheVariants.{Account, Nowhere, Queue}

-- ---- what is known of the queue

-- an entry that is there, with addresses that can be written, and recipients at rising places
pub record IsKnownEntry (kept : Kept) (queued : Queued) : Type 0 where
  pub there : queued.entry < length kept.entries
  pub paths : HasPaths queued
  pub rising : IsStrictlyIncreasing (map (λ (one : Unsettled). one.index) queued.unsettled)

-- the entries are known, and rise too
pub record AreKnown (kept : Kept) (queue : List Queued) : Type 0 where
  pub each : All (IsKnownEntry kept) queue
  pub rising : IsStrictlyIncreasing (map (λ (queued : Queued). queued.entry) queue)

-- the recipients who are told to wait do so
abbrev pub IsOpenIn : Kept → Queued → Type 0
IsOpenIn kept queued = All (λ (one : Unsettled). is_unsettled kept queued.entry one.index ≡ true) queued.unsettled

-- so do those of the entries from this place on
abbrev pub AreOpenFrom : Kept → List Queued → (place : ℕ) → Type 0
AreOpenFrom kept queue place = All (IsOpenIn kept) (drop place queue)

-- ---- reports

-- a place to deliver to that is there
abbrev pub IsDestinationIn : Kept → (path : Address) → Destination → Type 0
IsDestinationIn kept path (Account account) = account < length kept.accounts
IsDestinationIn kept path Queue = IsSendable path
IsDestinationIn kept path Nowhere = Unit {0}

-- the changes of a report, which were made, or this broke them off
pub record MadeReport (path_of : List ℕ → Option (Option Address)) (before now : Around) (queued : Queued) (outcomes : List Outcome) (count : ℕ) (met : Option Fault) : Type 0 where
  pub told : List Moment
  pub are_told : All (IsTold before.clock) told
  pub changes : List (List Record)
  pub reports : Reports path_of before.desk.store queued (entry_octets before.desk.store.kept queued.entry) outcomes told [] changes count
  pub makes : Makes before now met changes

abbrev pub MakesReport : (List ℕ → Option (Option Address)) → Around → Around → Queued → List Outcome → Result Bool Fault → Type 0
MakesReport path_of before now queued outcomes (Ok kept) = MadeReport path_of before now queued outcomes (if kept then 1 else 0) None
MakesReport path_of before now queued outcomes (Err fault.Wire) = ⊥
MakesReport path_of before now queued outcomes (Err fault.Keeper) = (count : ℕ) × MadeReport path_of before now queued outcomes count (Some fault.Keeper)
MakesReport path_of before now queued outcomes (Err fault.Memory) = Makes before now (Some fault.Memory) []

-- ---- settling

-- what is done, of acts that give octets as they are
abbrev pub DoesActs : (before now : Around) → Option Fault → List (Act (List ℕ)) → Type 0
DoesActs before now met acts = Does (λ octets. octets) before now met acts

-- how many of these outcomes are that of a recipient to whom the mail object was sent
abbrev pub sent_among : List Outcome → ℕ
sent_among outcomes = sent_count (act.Settle 0 outcomes ∷ [])

-- a tally with these outcomes and so many reports more
abbrev pub counted : Tally → List Outcome → (count : ℕ) → Tally
counted tally outcomes count = record { sent = tally.sent + sent_among outcomes; reported = tally.reported + count; left = tally.left - length outcomes }

-- the changes of an entry that is done with
pub record MadeSettled (path_of : List ℕ → Option (Option Address)) (before now : Around) (queued : Queued) (outcomes : List Outcome) (count : ℕ) (met : Option Fault) : Type 0 where
  pub told : List Moment
  pub are_told : All (IsTold before.clock) told
  pub made : List (List Record)
  pub settled : IsSettled path_of before.desk.store queued outcomes told [] made count
  pub does : DoesActs before now met (map changes made)

-- they were made, or broken off; or there was no memory for the report
abbrev pub Settles : (List ℕ → Option (Option Address)) → Around → Around → Queued → List Outcome → (old new : Tally) → Option Fault → Type 0
Settles path_of before now queued outcomes old new None = (count : ℕ) × MadeSettled path_of before now queued outcomes count None × (new ≡ counted old outcomes count)
Settles path_of before now queued outcomes old new (Some fault.Wire) = ⊥
Settles path_of before now queued outcomes old new (Some fault.Keeper) = (count : ℕ) × MadeSettled path_of before now queued outcomes count (Some fault.Keeper)
Settles path_of before now queued outcomes old new (Some fault.Memory) =
    ((count : ℕ) × MadeSettled path_of before now queued outcomes count (Some fault.Memory)) ⊎ DoesActs before now (Some fault.Memory) []

-- ---- acts

-- the act is of an entry of the queue, with an outcome for each of its recipients
abbrev pub IsActIn : List Queued → ClientAct → Type 0
IsActIn queue (act.Say octets) = Unit {0}
IsActIn queue (act.SayData number) = number < length queue
IsActIn queue (act.Settle number outcomes) =
    (queued : Queued) × (slice_get queue number ≡ Some queued) × (length outcomes ≡ length queued.unsettled) × All IsFitOutcome outcomes

-- the acts settle the entries from this place on, in order
abbrev pub SettleFrom : (place : ℕ) → List ClientAct → Type 0
SettleFrom place [] = Unit {0}
SettleFrom place (act.Say octets ∷ acts) = SettleFrom place acts
SettleFrom place (act.SayData number ∷ acts) = SettleFrom place acts
SettleFrom place (act.Settle number outcomes ∷ acts) = (number ≡ place) × SettleFrom (place + 1) acts

-- how many entries these acts settle
abbrev pub settled_count : List ClientAct → ℕ
settled_count [] = 0
settled_count (act.Say octets ∷ acts) = settled_count acts
settled_count (act.SayData number ∷ acts) = settled_count acts
settled_count (act.Settle number outcomes ∷ acts) = 1 + settled_count acts

-- a tally has room for what these acts come to
pub record CanCount (tally : Tally) (acts : List ClientAct) : Type 0 where
  pub sent : tally.sent + length (flat_map outcomes_in acts) < 2 ^ 32
  pub reported : tally.reported + settled_count acts < 2 ^ 32
  pub left : length (flat_map outcomes_in acts) ≤ tally.left

-- Over acts the entries stay known, with the same messages; and where the acts settle those from a place on, the ones after stay open.
pub record KeepsQueue (before now : Around) (queue : List Queued) (acts : List ClientAct) : Type 0 where
  pub known : AreKnown now.desk.store.kept queue
  pub messages : messages_of now.desk.store.kept queue ≡ messages_of before.desk.store.kept queue
  pub unsettled : (place : ℕ) → AreOpenFrom before.desk.store.kept queue place → SettleFrom place acts → AreOpenFrom now.desk.store.kept queue (place + settled_count acts)

-- a tally with what these acts come to
abbrev pub tallied : Tally → List ClientAct → (count : ℕ) → Tally
tallied tally [] count = record tally { reported = tally.reported + count }
tallied tally (act.Say octets ∷ acts) count = tallied tally acts count
tallied tally (act.SayData number ∷ acts) count = tallied tally acts count
tallied tally (act.Settle number outcomes ∷ acts) count = tallied (counted tally outcomes 0) acts count

-- the first of the client's acts, and the acts that they carry: all of these were done, or they were broken off
pub record ActsDone (path_of : List ℕ → Option (Option Address)) (before now : Around) (queue : List Queued) (first : List ClientAct) (acts : List (Act (List ℕ))) (count : ℕ) (met : Option Fault) : Type 0 where
  pub told : List Moment
  pub are_told : All (IsTold before.clock) told
  pub carries : CarriesActs path_of before.desk.store queue (messages_of before.desk.store.kept queue) told first acts count
  pub does : DoesActs before now met acts

-- broken off in the last of some acts, or after them
pub record ActsBroken (path_of : List ℕ → Option (Option Address)) (before now : Around) (queue : List Queued) (all : List ClientAct) (met : Fault) : Type 0 where
  pub first : List ClientAct
  pub others : List ClientAct
  pub all_are : all ≡ first ++ others
  pub acts : List (Act (List ℕ))
  pub count : ℕ
  pub done : ActsDone path_of before now queue first acts count (Some met)

-- broken off in the octets of an act, where the wire failed: all acts before it were done
pub record SaysInPart (path_of : List ℕ → Option (Option Address)) (before now : Around) (queue : List Queued) (all : List ClientAct) (old new : Tally) : Type 0 where
  pub between : Around
  pub front : List ClientAct
  pub one : ClientAct
  pub others : List ClientAct
  pub all_are : all ≡ front ++ one ∷ others
  pub acts : List (Act (List ℕ))
  pub count : ℕ
  pub done : ActsDone path_of before between queue front acts count None
  pub octets : List ℕ
  pub says : CarriesActs path_of between.desk.store queue (messages_of before.desk.store.kept queue) [] (one ∷ []) (gives octets ∷ []) 0
  pub part : Replies between now (Some fault.Wire) octets
  pub tally : new ≡ tallied old front count

abbrev pub ActsBy : (List ℕ → Option (Option Address)) → Around → Around → List Queued → List ClientAct → (old new : Tally) → Option Fault → Type 0
ActsBy path_of before now queue all old new None =
    (acts : List (Act (List ℕ))) × (count : ℕ) × ActsDone path_of before now queue all acts count None × (new ≡ tallied old all count)
ActsBy path_of before now queue all old new (Some fault.Wire) = SaysInPart path_of before now queue all old new
ActsBy path_of before now queue all old new (Some fault.Keeper) = ActsBroken path_of before now queue all fault.Keeper
ActsBy path_of before now queue all old new (Some fault.Memory) = ActsBroken path_of before now queue all fault.Memory

-- the fault that broke acts off, where the answer is whether the wire took what they give
abbrev pub met_by : Result Bool Fault → Option Fault
met_by (Ok true) = None
met_by (Ok false) = Some fault.Wire
met_by (Err met) = Some met

-- all acts were done, or the wire or another fault broke them off
pub record WereDone (before now : Around) (queue : List Queued) (acts : List ClientAct) (old new : Tally) (done : Result Bool Fault) : Type 0 where
  pub acts_by : WithPaths (λ path_of. ActsBy path_of before now queue acts old new (met_by done))
  pub stays : done ≡ Ok true → KeepsQueue before now queue acts
  pub fine : ¬ (done ≡ Err fault.Wire)
  pub keeps : Keeps before now (met_by done)
