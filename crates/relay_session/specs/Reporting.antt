-- Who is told of recipients that couldn't be served (RFC 5321, 4.5.5 and 6.1; RFC 3461, 6).
use Rattle.std.specs.Prelude.{◌≡◌, ◌≢◌, ◌==◌, ℕ, List, [], ◌∷◌, ◌++◌, Bool, false, not, is_some, Option, None, Some, codes, decimal, length, nat_le, if◌then◌else◌}
use Rattle.std.specs.Option.{option_map_or}
use Rattle.address_grammar.specs.Addresses.{address_text}
use Rattle.address_grammar.specs.declared.Address.{Address}
use Rattle.journal_records.specs.Stored.{HasMark}
use Rattle.journal_records.specs.declared.limits.TheConstants.{TEXT_MAX}
use Rattle.journal_records.specs.declared.records.Record.{Record}
use Rattle.kept_mail.specs.Kept.{Kept, find_account, is_local, name_of}
use Rattle.kept_mail.specs.declared.delivery.Delivery.{Delivery}
use Rattle.mail_store.specs.Changing.{delivery_refusal}
use Rattle.mail_store.specs.StoreState.{StoreState}
use Rattle.mail_store.specs.declared.queue.Queued.{Queued}
use Rattle.mail_store.specs.declared.queue.Unsettled.{Unsettled}
use Rattle.relay_choice.specs.declared.mail_objects.Outcome.{Outcome}
use Rattle.relay_choice.specs.declared.mail_objects.Outcome.TheVariants as outcome
use Rattle.session_core.specs.Changes.{changes_of}
use Rattle.session_core.specs.Moments.{IsMoment, Moment}
use Rattle.utf8_reports.specs.Reports.{IsReportOn}
use Rattle.utf8_reports.specs.declared.failure.FailedRecipient.{FailedRecipient}
use Rattle.relay_session.specs.declared.reporting.Destination.{Destination}
use Rattle.relay_session.specs.declared.reporting.Destination.TheVariants.{Account, Queue, Nowhere}

-- ---- who failed

-- the status of a failure with this detail (RFC 3463, 3.7; RFC 6531, 3.7.1), or of one of which the next server's code tells
abbrev pub status_text : (detail : ℕ) → List ℕ
status_text detail = if detail == 0 then codes "5.0.0" else codes "5.6." ++ decimal detail

-- a recipient, if this outcome is a failure
abbrev pub failed_by : Address → Outcome → List FailedRecipient
failed_by address outcome.Sent = []
failed_by address (outcome.Refused detail code) = record { address = address; status = status_text detail; code = code } ∷ []

-- the recipients who failed, each with the outcome in the same place
abbrev pub failed_of : List Unsettled → List Outcome → List FailedRecipient
failed_of [] outcomes = []
failed_of (one ∷ others) [] = []
failed_of (one ∷ others) (outcome ∷ outcomes) = failed_by one.address outcome ++ failed_of others outcomes

-- ---- where a report goes

-- into the queue, unless the address has no text that can be kept
abbrev pub remote_destination : (path : Address) → Destination
remote_destination path = if nat_le (length (address_text path)) TEXT_MAX then Queue else Nowhere

-- to the account of the path where its domain is local, and nowhere where that isn't there; and else into the queue
abbrev pub destination_of : (List ℕ → Option (Option Address)) → Kept → (path : Address) → Destination
destination_of path_of kept path = if is_local kept path.domain then option_map_or Account (find_account path_of kept path) Nowhere else remote_destination path

-- exactly the report's octets are delivered, with their mark, from the null path
abbrev pub delivery_to : Destination → (path : Address) → (report : List ℕ) → (mark : ℕ) → (date : List ℕ) → Option Delivery
delivery_to (Account account) path report mark date =
    Some (record { path = None; local = account ∷ []; local_octets = report; local_mark = mark; remote = []; remote_octets = []; remote_mark = 0; date = date })
delivery_to Queue path report mark date =
    Some (record { path = None; local = []; local_octets = []; local_mark = 0; remote = path ∷ []; remote_octets = report; remote_mark = mark; date = date })
delivery_to Nowhere path report mark date = None

-- one for which there is no room is dropped
abbrev pub report_changes : StoreState → Option Delivery → List (List Record)
report_changes store None = []
report_changes store (Some delivery) = changes_of store delivery

-- There is a report, and the store has room for it.
abbrev pub is_report_kept : StoreState → Option Delivery → Bool
is_report_kept store None = false
is_report_kept store (Some delivery) = not (is_some (delivery_refusal store delivery))

-- ---- the report of an entry

-- a report to this path of these failures, in which this message is shown, from a server of this name, at this moment
pub record IsReportAt (moment : Moment) (name : List ℕ) (path : Address) (failed : List FailedRecipient) (message report : List ℕ) : Type 0 where
  pub seconds : ℕ
  pub is : IsMoment seconds moment
  pub report_is : IsReportOn (record { path = path; name = name; failed = failed; seconds = seconds }) message report

-- What is changed for the report of an entry with this message, how many reports are kept, and which of the moments are left.
pub data Reports (path_of : List ℕ → Option (Option Address)) (store : StoreState) (queued : Queued) (message : List ℕ) (outcomes : List Outcome)
    (told later : List Moment) (changes : List (List Record)) (count : ℕ) : Type 0 where
  -- nobody failed
  nobody : failed_of queued.unsettled outcomes ≡ [] → later ≡ told → changes ≡ [] → count ≡ 0 → Reports path_of store queued message outcomes told later changes count
  -- the null path is told nothing
  unsigned : queued.path ≡ None → later ≡ told → changes ≡ [] → count ≡ 0 → Reports path_of store queued message outcomes told later changes count
  -- one report tells of all who failed
  told_once : (moment : Moment) (path : Address) (text : List ℕ) (mark : ℕ) (delivery : Option Delivery) → queued.path ≡ Some path → failed_of queued.unsettled outcomes ≢ []
      → told ≡ moment ∷ later → IsReportAt moment (name_of store.kept) path (failed_of queued.unsettled outcomes) message text
      → HasMark text mark → delivery ≡ delivery_to (destination_of path_of store.kept path) path text mark moment.internal
      → changes ≡ report_changes store delivery → count ≡ (if is_report_kept store delivery then 1 else 0)
      → Reports path_of store queued message outcomes told later changes count
