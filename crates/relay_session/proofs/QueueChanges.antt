-- What settling an entry leaves of the queue: its report is a delivery, and then its recipients are taken off.
use Rattle.std.proofs.Common.{◌≡◌, ℕ, zero, suc, ◌+◌, ◌<◌, Bool, true, false, cond, List, [], ◌∷◌, ◌++◌, length, map, drop, Option, Some, None, sym, ap, subst, ◌∙◌, arith}
use Rattle.std.specs.Prelude.{◌==◌, slice_get}
use Rattle.std.specs.List.{All, AllByRecursion}
use Rattle.std.proofs.lemmas.List.Elements.{All-from_recursion, recursion_from_All}
use Rattle.address_grammar.specs.declared.Address.{Address}
use Rattle.journal_records.specs.declared.records.Record.{Record}
use Rattle.journal_records.specs.declared.records.Record.TheVariants as records
use Rattle.kept_mail.specs.Deliveries.{copy_for, delivered, inboxes_of, queued as queued_by}
use Rattle.kept_mail.specs.Kept.{Kept, after_all}
use Rattle.kept_mail.specs.declared.delivery.Delivery.{Delivery}
use Rattle.mail_store.specs.Changing.{delivery_refusal}
use Rattle.mail_store.specs.Following.{records_of}
use Rattle.mail_store.specs.StoreState.{StoreState}
use Rattle.mail_store.specs.declared.changing.StoreFault.{StoreFault}
use Rattle.mail_store.specs.declared.queue.Queued.{Queued}
use Rattle.mail_store.specs.declared.queue.Unsettled.{Unsettled}
use Rattle.mail_store.proofs.FollowLemmas.{records_of-append}
use Rattle.mail_wire.proofs.AllLemmas.{all-append}
use Rattle.relay_choice.specs.declared.mail_objects.Outcome.{Outcome}
use Rattle.session_core.specs.Changes.{unless_refused}
use Rattle.session_core.specs.Moments.{Moment}
use Rattle.relay_session.specs.Carrying.{IsSettled, taken_off}
use Rattle.relay_session.specs.Reporting.{Reports, nobody, report_changes, told_once, unsigned}
use Rattle.relay_session.specs.private.Acting.{AreKnown, AreOpenFrom, IsOpenIn}
use Rattle.relay_session.proofs.QueueFacts.{AddsNoDomain, IsOpenIn-records, Spares, StandsOn, StandsOn-records}
use Rattle.relay_session.proofs.RisingPlaces.{above_place}

-- ---- the records of a delivery

-- it holds of each message, and of each entry of the queue
pub record HoldsOfMail (P : Record → Type 0) : Type 0 where
  pub message : (folder flags : ℕ) (mark : Option ℕ) (date octets : List ℕ) → P (records.Message folder flags mark date octets)
  pub entry : (path : List ℕ) (addresses : List (List ℕ)) (mark : Option ℕ) (octets : List ℕ) → P (records.Queue path addresses mark octets)

copies_are : (P : Record → Type 0) → HoldsOfMail P → (date : List ℕ) (mark : ℕ) (octets folders : List ℕ) → AllByRecursion P (map (copy_for date mark octets) folders)
copies_are P holds date mark octets [] = tt
copies_are P holds date mark octets (folder ∷ folders) = (holds.message folder 0 (Some mark) date octets, copies_are P holds date mark octets folders)

entry_is : (P : Record → Type 0) (none : Bool) (one : Record) → P one → AllByRecursion P (cond none [] (one ∷ []))
entry_is P true one holds = tt
entry_is P false one holds = (holds, tt)

pub delivered_are : (P : Record → Type 0) → HoldsOfMail P → (kept : Kept) (delivery : Delivery) → AllByRecursion P (delivered kept delivery)
delivered_are P holds kept delivery =
    all-append P (map (copy_for delivery.date delivery.local_mark delivery.local_octets) (inboxes_of kept delivery.local)) (queued_by delivery)
    (copies_are P holds delivery.date delivery.local_mark delivery.local_octets (inboxes_of kept delivery.local)) (entry_is P (length delivery.remote == 0) _ (holds.entry _ _ _ _))

unless_are : (P : Record → Type 0) (refusal : Option StoreFault) (all : List Record) → AllByRecursion P all → AllByRecursion P (records_of (unless_refused refusal all))
unless_are P None all holds = all-append P all [] holds tt
unless_are P (Some refusal) all holds = tt

report_are : (P : Record → Type 0) → HoldsOfMail P → (store : StoreState) (delivery : Option Delivery) → AllByRecursion P (records_of (report_changes store delivery))
report_are P holds store None = tt
report_are P holds store (Some delivery) = unless_are P (delivery_refusal store delivery) (delivered store.kept delivery) (delivered_are P holds store.kept delivery)

none_are : (P : Record → Type 0) (changes : List (List Record)) → changes ≡ [] → AllByRecursion P (records_of changes)
none_are P changes none = rw none tt

-- what is changed for a report
pub reported_are : (P : Record → Type 0) → HoldsOfMail P → (path_of : List ℕ → Option (Option Address)) (store : StoreState) (queued : Queued) (message : List ℕ) (outcomes : List Outcome)
    (told later : List Moment) (changes : List (List Record)) (count : ℕ) → Reports path_of store queued message outcomes told later changes count → AllByRecursion P (records_of changes)
reported_are P holds path_of store queued message outcomes told later changes count (nobody fine left none count_is) = none_are P changes none
reported_are P holds path_of store queued message outcomes told later changes count (unsigned null left none count_is) = none_are P changes none
reported_are P holds path_of store queued message outcomes told later changes count (told_once moment path text mark delivery signed some at is marked made_is made count_is) =
    subst (λ (all : List (List Record)). AllByRecursion P (records_of all)) (sym made) (report_are P holds store delivery)

-- ---- the records of an entry that is done with

taken_are : (P : Record → Type 0) (entry : ℕ) → ((index : ℕ) → P (records.Settle entry index)) → (unsettled : List Unsettled) (outcomes : List Outcome)
    → AllByRecursion P (records_of (taken_off entry unsettled outcomes))
taken_are P entry holds [] outcomes = tt
taken_are P entry holds (one ∷ unsettled) [] = tt
taken_are P entry holds (one ∷ unsettled) (outcome ∷ outcomes) = (holds one.index, taken_are P entry holds unsettled outcomes)

settled_are : (P : Record → Type 0) → HoldsOfMail P → (path_of : List ℕ → Option (Option Address)) (store : StoreState) (queued : Queued) (outcomes : List Outcome)
    (told later : List Moment) (made : List (List Record)) (count : ℕ) → ((index : ℕ) → P (records.Settle queued.entry index))
    → IsSettled path_of store queued outcomes told later made count → AllByRecursion P (records_of made)
settled_are P mail path_of store queued outcomes told later made count taken settled =
    let joined : records_of made ≡ records_of settled.reported ++ records_of (taken_off queued.entry queued.unsettled outcomes) =
    ap (λ (all : List (List Record)). records_of all) settled.made_are ∙ records_of-append settled.reported (taken_off queued.entry queued.unsettled outcomes) in
    subst (AllByRecursion P) (sym joined)
    (all-append P (records_of settled.reported) (records_of (taken_off queued.entry queued.unsettled outcomes))
    (reported_are P mail path_of store queued _ outcomes told later settled.reported count settled.reports)
    (taken_are P queued.entry taken queued.unsettled outcomes))

mail_domains : HoldsOfMail AddsNoDomain
mail_domains = record { message = λ folder flags mark date octets. tt; entry = λ path addresses mark octets. tt }

mail_spares : (entry index : ℕ) → HoldsOfMail (Spares entry index)
mail_spares entry index = record { message = λ folder flags mark date octets. tt; entry = λ path addresses mark octets. tt }

-- ---- what a report leaves

pub stands_reported : (path_of : List ℕ → Option (Option Address)) (store : StoreState) (queued : Queued) (message : List ℕ) (outcomes : List Outcome) (told later : List Moment)
    (changes : List (List Record)) (count : ℕ) → Reports path_of store queued message outcomes told later changes count → StandsOn store.kept (after_all store.kept (records_of changes))
stands_reported path_of store queued message outcomes told later changes count reports =
    StandsOn-records store.kept (records_of changes) (reported_are AddsNoDomain mail_domains path_of store queued message outcomes told later changes count reports)

-- whoever waits still does
pub open_reported : (path_of : List ℕ → Option (Option Address)) (store : StoreState) (queued : Queued) (message : List ℕ) (outcomes : List Outcome) (told later : List Moment)
    (changes : List (List Record)) (count : ℕ) (other : Queued) → Reports path_of store queued message outcomes told later changes count → IsOpenIn store.kept other
    → IsOpenIn (after_all store.kept (records_of changes)) other
open_reported path_of store queued message outcomes told later changes count other reports still =
    IsOpenIn-records store.kept (records_of changes) other
    (λ index. reported_are (Spares other.entry index) (mail_spares other.entry index) path_of store queued message outcomes told later changes count reports) still

-- ---- what an entry that is done with leaves

pub stands_settled : (path_of : List ℕ → Option (Option Address)) (store : StoreState) (queued : Queued) (outcomes : List Outcome) (told later : List Moment) (made : List (List Record)) (count : ℕ)
    → IsSettled path_of store queued outcomes told later made count → StandsOn store.kept (after_all store.kept (records_of made))
stands_settled path_of store queued outcomes told later made count settled =
    StandsOn-records store.kept (records_of made) (settled_are AddsNoDomain mail_domains path_of store queued outcomes told later made count (λ index. tt) settled)

-- whoever waits in another entry still does
pub open_settled : (path_of : List ℕ → Option (Option Address)) (store : StoreState) (queued : Queued) (outcomes : List Outcome) (told later : List Moment) (made : List (List Record)) (count : ℕ)
    (other : Queued) → IsSettled path_of store queued outcomes told later made count → (queued.entry ≡ other.entry → ⊥) → IsOpenIn store.kept other
    → IsOpenIn (after_all store.kept (records_of made)) other
open_settled path_of store queued outcomes told later made count other settled differ still =
    IsOpenIn-records store.kept (records_of made) other
    (λ index. settled_are (Spares other.entry index) (mail_spares other.entry index) path_of store queued outcomes told later made count
    (λ at same here. differ same) settled) still

open_above : (old new : Kept) (entry : ℕ) → ((other : Queued) → entry < other.entry → IsOpenIn old other → IsOpenIn new other) → (queue : List Queued)
    → AllByRecursion (λ (other : Queued). entry < other.entry) queue → AllByRecursion (IsOpenIn old) queue → AllByRecursion (IsOpenIn new) queue
open_above old new entry stays [] above still = tt
open_above old new entry stays (other ∷ queue) above still = (stays other above.0 still.0, open_above old new entry stays queue above.1 still.1)

one_fewer : {T : Type 0} (P : T → Type 0) (xs : List T) (place : ℕ) → AllByRecursion P (drop place xs) → AllByRecursion P (drop (suc place) xs)
one_fewer P [] zero holds = tt
one_fewer P [] (suc place) holds = tt
one_fewer P (x ∷ xs) zero holds = holds.1
one_fewer P (x ∷ xs) (suc place) holds = one_fewer P xs place holds

-- the entries after it are open as before
pub open_after : (path_of : List ℕ → Option (Option Address)) (store : StoreState) (queue : List Queued) (place : ℕ) (queued : Queued) (outcomes : List Outcome) (told later : List Moment)
    (made : List (List Record)) (count : ℕ) → AreKnown store.kept queue → slice_get queue place ≡ Some queued → IsSettled path_of store queued outcomes told later made count
    → AreOpenFrom store.kept queue place → AreOpenFrom (after_all store.kept (records_of made)) queue (place + 1)
open_after path_of store queue place queued outcomes told later made count known there settled still =
    let new = after_all store.kept (records_of made) in
    let next : suc place ≡ place + 1 = omega arith in
    let above = above_place (λ (one : Queued). one.entry) queue place queued known.rising there in
    let following = one_fewer (IsOpenIn store.kept) queue place (recursion_from_All (IsOpenIn store.kept) (drop place queue) still) in
    subst (λ (n : ℕ). All (IsOpenIn new) (drop n queue)) next
    (All-from_recursion (IsOpenIn new) (drop (suc place) queue)
    (open_above store.kept new queued.entry (λ other over was. open_settled path_of store queued outcomes told later made count other settled (λ same. omega (arith, same, over)) was) (drop (suc place) queue) above following))
