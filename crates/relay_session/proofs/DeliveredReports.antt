-- What comes of a report, over a store.
use Rattle.std.proofs.Common.{◌≡◌, ◌≢◌, ◌⊎◌, inl, inr, ℕ, ◌<◌, Bool, false, List, [], ◌∷◌, length, Option, None, Some, IfOk, IfSome, Result, Ok, Err, if◌then◌else◌, arith, refl, ap, subst, ◌∙◌}
use Rattle.std.proofs.lemmas.List.Elements.{All-cons, All-nil}
use Rattle.mail_wire.specs.declared.outside.Fault.{Fault}
use Rattle.mail_wire.specs.declared.outside.Fault.TheVariants as fault
use Rattle.address_grammar.specs.declared.Address.{Address}
use Rattle.journal_records.specs.Addresses.{IsSendable, WithPaths}
use Rattle.journal_records.specs.Grammar.{IsDate}
use Rattle.journal_records.specs.Stored.{HasMark}
use Rattle.kept_mail.specs.Kept.{Kept, name_of}
use Rattle.kept_mail.specs.declared.delivery.Delivery.{Delivery}
use Rattle.mail_store.specs.Changing.{IsDeliverable}
use Rattle.mail_store.specs.StoreState.{StoreState}
use Rattle.mail_store.specs.declared.queue.Queued.{Queued}
use Rattle.mail_store.proofs.FollowLemmas.{Follows-nil}
use Rattle.relay_choice.specs.declared.mail_objects.Outcome.{Outcome}
use Rattle.session_core.specs.Around.{Around}
use Rattle.session_core.specs.Doing.{Makes}
use Rattle.session_core.specs.Keeps.{fault_of}
use Rattle.session_core.specs.Moments.{IsMoment, IsTold, Moment, moment_of}
use Rattle.session_core.specs.declared.outside.Timestamp.{Timestamp}
use Rattle.utf8_reports.specs.Reports.{IsReportOn}
use Rattle.utf8_reports.specs.declared.failure.FailedRecipient.{FailedRecipient}
use Rattle.relay_session.specs.MailObjects.{entry_octets}
use Rattle.relay_session.specs.Reporting.{delivery_to, destination_of, failed_of, is_report_kept, nobody, report_changes, told_once, unsigned}
use Rattle.relay_session.specs.declared.reporting.Destination.{Destination}
use Rattle.relay_session.specs.declared.reporting.Destination.TheVariants.{Account, Nowhere, Queue}
use Rattle.relay_session.specs.private.Acting.{IsDestinationIn, MadeReport, MakesReport}
use Rattle.relay_session.specs.private.Reported.{IsReported}
use Rattle.relay_session.proofs.ReportMarks.{marked-nothing}

-- ---- what is delivered

-- to a place that is there
pub deliverable : (store : StoreState) (destination : Destination) (path : Address) (report : List ℕ) (mark : ℕ) (date : List ℕ) (delivery : Option Delivery) → delivery ≡ delivery_to destination path report mark date
    → IsDestinationIn store.kept path destination → HasMark report mark → IsDate date → IfSome delivery (IsDeliverable store)
deliverable store (Account account) path report mark date delivery is there marked dated = rw is (record {
  known = All-cons (λ (a : ℕ). a < length store.kept.accounts) account [] there (All-nil (λ (a : ℕ). a < length store.kept.accounts));
  dated = dated;
  local_marked = marked;
  remote_marked = marked-nothing;
  path = tt;
  addresses = All-nil IsSendable;
  few = omega arith;
})
deliverable store Queue path report mark date delivery is there marked dated = rw is (record {
  known = All-nil (λ (a : ℕ). a < length store.kept.accounts);
  dated = dated;
  local_marked = marked-nothing;
  remote_marked = marked;
  path = tt;
  addresses = All-cons IsSendable path [] there (All-nil IsSendable);
  few = omega arith;
})
deliverable store Nowhere path report mark date delivery is there marked dated = rw is tt

-- so it is of what a call makes
pub deliverable_made : {E : Type 0} (store : StoreState) (destination : Destination) (path : Address) (report : List ℕ) (mark : ℕ) (date : List ℕ) (result : Result (Option Delivery) E)
    → IfOk result (λ delivery. delivery ≡ delivery_to destination path report mark date) → IsDestinationIn store.kept path destination → HasMark report mark → IsDate date
    → IfOk result (λ delivery. IfSome delivery (IsDeliverable store))
deliverable_made store destination path report mark date (Ok delivery) is there marked dated = deliverable store destination path report mark date delivery is there marked dated
deliverable_made store destination path report mark date (Err met) is there marked dated = tt

-- it is the report of these failures at a moment
pub reported_as : {E : Type 0} (kept : Kept) (queued : Queued) (path : Address) (failed : List FailedRecipient) (timestamp : Timestamp) (destination : Destination) (text : List ℕ) (mark : ℕ)
    (result : Result (Option Delivery) E) → IsMoment timestamp.seconds (moment_of timestamp)
    → IsReportOn (record { path = path; name = name_of kept; failed = failed; seconds = timestamp.seconds }) (entry_octets kept queued.entry) text → HasMark text mark
    → WithPaths (λ path_of. destination ≡ destination_of path_of kept path) → IfOk result (λ delivery. delivery ≡ delivery_to destination path text mark timestamp.internal)
    → IfOk result (λ delivery. WithPaths (λ path_of. IsReported path_of kept queued path failed (moment_of timestamp) delivery))
reported_as kept queued path failed timestamp destination text mark (Ok delivery) moment report marked goes is = λ path_of reads. record {
  text = text;
  report = record { seconds = timestamp.seconds; is = moment; report_is = report };
  mark = mark;
  marked = marked;
  delivery_is = subst (λ (d : Destination). delivery ≡ delivery_to d path text mark timestamp.internal) (goes path_of reads) is;
}
reported_as kept queued path failed timestamp destination text mark (Err met) moment report marked goes is = tt

-- ---- what a report comes to

-- nothing is made
makes_nothing : (a : Around) → Makes a a None []
makes_nothing a = record { wire = refl; cache = refl; changes = Follows-nil a.desk.store a.keeper.octets }

-- no report is due
pub unreported : (path_of : List ℕ → Option (Option Address)) (before now : Around) (queued : Queued) (outcomes : List Outcome) → now ≡ before
    → (queued.path ≡ None) ⊎ (failed_of queued.unsettled outcomes ≡ []) → MakesReport path_of before now queued outcomes (Ok false)
unreported path_of before now queued outcomes same (inl none) =
    rw same (record { told = []; are_told = All-nil (IsTold before.clock); changes = []; reports = unsigned none refl refl refl; makes = makes_nothing before })
unreported path_of before now queued outcomes same (inr none) =
    rw same (record { told = []; are_told = All-nil (IsTold before.clock); changes = []; reports = nobody none refl refl refl; makes = makes_nothing before })

-- an answer of another type with the same fault
pub no_wire : {S T : Type 0} (met : Fault) (one : Result S Fault) (other : Result T Fault) → one ≡ Err met → other ≡ Err met → ¬ (one ≡ Err fault.Wire) → ¬ (other ≡ Err fault.Wire)
no_wire met one other first second fine bad =
    let same : met ≡ fault.Wire = cc in
    fine (first ∙ ap Err same)

-- The report of failures that there are, as a delivery, and at a moment that was told.
pub record IsDue (path_of : List ℕ → Option (Option Address)) (before : Around) (queued : Queued) (outcomes : List Outcome) (path : Address) (failed : List FailedRecipient) (moment : Moment) (delivery : Option Delivery) : Type 0 where
  pub path_is : queued.path ≡ Some path
  pub failed_are : failed ≡ failed_of queued.unsettled outcomes
  pub some : failed ≢ []
  pub told : IsTold before.clock moment
  pub reported : IsReported path_of before.desk.store.kept queued path failed moment delivery

told_report : (path_of : List ℕ → Option (Option Address)) (before now : Around) (queued : Queued) (outcomes : List Outcome) (path : Address) (failed : List FailedRecipient) (moment : Moment)
    (delivery : Option Delivery) (met : Option Fault) → IsDue path_of before queued outcomes path failed moment delivery → Makes before now met (report_changes before.desk.store delivery)
    → MadeReport path_of before now queued outcomes (if is_report_kept before.desk.store delivery then 1 else 0) met
told_report path_of before now queued outcomes path failed moment delivery met due makes = record {
  told = moment ∷ [];
  are_told = All-cons (IsTold before.clock) moment [] due.told (All-nil (IsTold before.clock));
  changes = report_changes before.desk.store delivery;
  reports = told_once moment path due.reported.text due.reported.mark delivery due.path_is (λ none. due.some (due.failed_are ∙ none)) refl (rw due.failed_are at due.reported.report)
      due.reported.marked due.reported.delivery_is refl refl;
  makes = makes;
}

-- it was delivered, or that broke off
pub delivered_report : (path_of : List ℕ → Option (Option Address)) (before now : Around) (queued : Queued) (outcomes : List Outcome) (path : Address) (failed : List FailedRecipient) (moment : Moment)
    (delivery : Option Delivery) (result : Result Bool Fault) → IsDue path_of before queued outcomes path failed moment delivery → IfOk result (λ kept. kept ≡ is_report_kept before.desk.store delivery)
    → Makes before now (fault_of result) (report_changes before.desk.store delivery) → ¬ (result ≡ Err fault.Wire) → MakesReport path_of before now queued outcomes result
delivered_report path_of before now queued outcomes path failed moment delivery (Ok kept) due is makes fine =
    rw is (told_report path_of before now queued outcomes path failed moment delivery None due makes)
delivered_report path_of before now queued outcomes path failed moment delivery (Err fault.Keeper) due is makes fine =
    (_, told_report path_of before now queued outcomes path failed moment delivery (Some fault.Keeper) due makes)
delivered_report path_of before now queued outcomes path failed moment delivery (Err fault.Memory) due is makes fine =
    record { wire = makes.wire; cache = makes.cache; changes = makes.changes }
delivered_report path_of before now queued outcomes path failed moment delivery (Err fault.Wire) due is makes fine = absurd (fine refl)

-- it goes nowhere
pub dropped_report : (path_of : List ℕ → Option (Option Address)) (before now : Around) (queued : Queued) (outcomes : List Outcome) (path : Address) (failed : List FailedRecipient) (moment : Moment)
    (delivery : Option Delivery) → now ≡ before → IsDue path_of before queued outcomes path failed moment delivery → delivery ≡ None → MakesReport path_of before now queued outcomes (Ok false)
dropped_report path_of before now queued outcomes path failed moment delivery same due none =
    rw same (delivered_report path_of before before queued outcomes path failed moment None (Ok false) (rw none at due) refl (makes_nothing before) (λ bad. cc))
