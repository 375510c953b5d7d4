-- Reports as deliveries.
use Rattle.std.specs.Prelude.{◌≡◌, ℕ, List, Option}
use Rattle.address_grammar.specs.declared.Address.{Address}
use Rattle.journal_records.specs.Stored.{HasMark}
use Rattle.kept_mail.specs.Kept.{Kept, name_of}
use Rattle.kept_mail.specs.declared.delivery.Delivery.{Delivery}
use Rattle.mail_store.specs.declared.queue.Queued.{Queued}
use Rattle.session_core.specs.Moments.{Moment}
use Rattle.utf8_reports.specs.declared.failure.FailedRecipient.{FailedRecipient}
use Rattle.relay_session.specs.MailObjects.{entry_octets}
use Rattle.relay_session.specs.Reporting.{IsReportAt, delivery_to, destination_of}

-- the report of these failures at a moment, as a delivery to where it goes
pub record IsReported (path_of : List ℕ → Option (Option Address)) (kept : Kept) (queued : Queued) (path : Address) (failed : List FailedRecipient) (moment : Moment) (delivery : Option Delivery) : Type 0 where
  pub text : List ℕ
  pub report : IsReportAt moment (name_of kept) path failed (entry_octets kept queued.entry) text
  pub mark : ℕ
  pub marked : HasMark text mark
  pub delivery_is : delivery ≡ delivery_to (destination_of path_of kept path) path text mark moment.internal
