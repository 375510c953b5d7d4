-- An entry that is done with: its report is made, and then its recipients are taken off.
use Rattle.std.proofs.Common.{◌≡◌, ℕ, ◌+◌, List, [], ◌++◌, map, Bool, true, false, if◌then◌else◌, Option, None, Some, Result, Ok, Err, refl, sym, ap, subst, ◌∙◌, inl, inr}
use Rattle.std.specs.Int.{from_bool}
use Rattle.std.specs.Prelude.{OnOk}
use Rattle.std.proofs.lemmas.List.{map-append}
use Rattle.address_grammar.specs.declared.Address.{Address}
use Rattle.journal_records.specs.Addresses.{WithPaths}
use Rattle.kept_mail.specs.Kept.{Kept, after_all}
use Rattle.mail_store.specs.Following.{records_of}
use Rattle.mail_store.specs.StoreState.{StoreState}
use Rattle.mail_store.specs.declared.queue.Queued.{Queued}
use Rattle.mail_wire.specs.declared.outside.Fault.{Fault}
use Rattle.mail_wire.specs.declared.outside.Fault.TheVariants as fault
use Rattle.relay_choice.specs.declared.mail_objects.Outcome.{Outcome}
use Rattle.session_core.specs.Acts.{Act, changes}
use Rattle.session_core.specs.Around.{Around}
use Rattle.session_core.specs.Keeps.{fault_of}
use Rattle.session_core.proofs.DoingLemmas.{Does-then, DoesFirst-before}
use Rattle.session_core.proofs.MeaningLemmas.{oracles_given}
use Rattle.relay_session.specs.Carrying.{taken_off}
use Rattle.relay_session.specs.MailObjects.{entry_octets}
use Rattle.relay_session.specs.private.Acting.{DoesActs, IsKnownEntry, IsOpenIn, MadeReport, MadeSettled, MakesReport, Settles, counted}
use Rattle.relay_session.specs.declared.ends.Tally.{Tally}
use Rattle.relay_session.proofs.QueueChanges.{open_reported, stands_reported}
use Rattle.relay_session.proofs.QueueFacts.{IsKnown-on}
use Rattle.relay_session.proofs.TakingOff.{Does-made}
use Rattle.relay_session.proofs.TallyLemmas.{counted-reported}

abbrev report_count : (kept : Bool) → ℕ
report_count kept = if kept then 1 else 0

-- ---- after the report

module _ (path_of : List ℕ → Option (Option Address)) (before mid : Around) (queued : Queued) (outcomes : List Outcome) (count : ℕ) (report : MadeReport path_of before mid queued outcomes count None) where
  kept_is : mid.desk.store.kept ≡ after_all before.desk.store.kept (records_of report.changes)
  kept_is = ap (λ (s : StoreState). s.kept) report.makes.changes.store

  known_by : IsKnownEntry before.desk.store.kept queued → IsKnownEntry mid.desk.store.kept queued
  known_by known =
      subst (λ (kept : Kept). IsKnownEntry kept queued) (sym kept_is)
      (IsKnown-on before.desk.store.kept (after_all before.desk.store.kept (records_of report.changes)) queued
      (stands_reported path_of before.desk.store queued (entry_octets before.desk.store.kept queued.entry) outcomes report.told _ report.changes count report.reports) known)

  open_by : IsOpenIn before.desk.store.kept queued → IsOpenIn mid.desk.store.kept queued
  open_by still =
      subst (λ (kept : Kept). IsOpenIn kept queued) (sym kept_is)
      (open_reported path_of before.desk.store queued (entry_octets before.desk.store.kept queued.entry) outcomes report.told _ report.changes count queued report.reports still)

  settled_by : (now : Around) (met : Option Fault) → DoesActs mid now met (map changes (taken_off queued.entry queued.unsettled outcomes)) → MadeSettled path_of before now queued outcomes count met
  settled_by now met does =
      let taken = taken_off queued.entry queued.unsettled outcomes in
      record {
        told = report.told;
        are_told = report.are_told;
        made = report.changes ++ taken;
        settled = record { reported = report.changes; reports = report.reports; made_are = refl };
        does = subst (λ (acts : List (Act (List ℕ))). DoesActs before now met acts) (sym (map-append changes report.changes taken))
            (Does-then (λ octets. octets) before mid now met (map changes report.changes) (map changes taken) (Does-made (λ octets. octets) before mid None report.changes report.makes) does);
      }

-- whatever function reads paths: there is one
pub known_after : (before mid : Around) (queued : Queued) (outcomes : List Outcome) (kept : Bool) → WithPaths (λ path_of. MakesReport path_of before mid queued outcomes (Ok kept))
    → IsKnownEntry before.desk.store.kept queued → IsKnownEntry mid.desk.store.kept queued
known_after before mid queued outcomes kept report known =
    known_by oracles_given.0.path_of before mid queued outcomes (report_count kept) (report oracles_given.0.path_of oracles_given.1.paths) known

pub open_after_report : (before mid : Around) (queued : Queued) (outcomes : List Outcome) (kept : Bool) → WithPaths (λ path_of. MakesReport path_of before mid queued outcomes (Ok kept))
    → IsOpenIn before.desk.store.kept queued → IsOpenIn mid.desk.store.kept queued
open_after_report before mid queued outcomes kept report still =
    open_by oracles_given.0.path_of before mid queued outcomes (report_count kept) (report oracles_given.0.path_of oracles_given.1.paths) still

-- ---- what is answered

broken_by : (path_of : List ℕ → Option (Option Address)) (before now : Around) (queued : Queued) (outcomes : List Outcome) (count : ℕ) (met : Fault)
    → MadeReport path_of before now queued outcomes count (Some met) → MadeSettled path_of before now queued outcomes count (Some met)
broken_by path_of before now queued outcomes count met report =
    let taken = taken_off queued.entry queued.unsettled outcomes in
    record {
      told = report.told;
      are_told = report.are_told;
      made = report.changes ++ taken;
      settled = record { reported = report.changes; reports = report.reports; made_are = refl };
      does = subst (λ (acts : List (Act (List ℕ))). DoesActs before now (Some met) acts) (sym (map-append changes report.changes taken))
          (DoesFirst-before (λ octets. octets) before now met (map changes report.changes) (map changes taken) (Does-made (λ octets. octets) before now (Some met) report.changes report.makes));
    }

-- the report was broken off
pub settles_unmade : (path_of : List ℕ → Option (Option Address)) (before now : Around) (queued : Queued) (outcomes : List Outcome) (old new : Tally) (met : Fault)
    → MakesReport path_of before now queued outcomes (Err met) → Settles path_of before now queued outcomes old new (Some met)
settles_unmade path_of before now queued outcomes old new fault.Wire report = absurd report
settles_unmade path_of before now queued outcomes old new fault.Keeper report = (report.0, broken_by path_of before now queued outcomes report.0 fault.Keeper report.1)
settles_unmade path_of before now queued outcomes old new fault.Memory report = inr (Does-made (λ octets. octets) before now (Some fault.Memory) [] report)

-- the report was made, and this came of taking the recipients off
pub settles_with : {T : Type 0} (path_of : List ℕ → Option (Option Address)) (before mid now : Around) (queued : Queued) (outcomes : List Outcome) (kept : Bool) (old between new : Tally) (result : Result T Fault)
    → MakesReport path_of before mid queued outcomes (Ok kept) → DoesActs mid now (fault_of result) (map changes (taken_off queued.entry queued.unsettled outcomes)) → ¬ (result ≡ Err fault.Wire)
    → between.sent ≡ old.sent → between.reported ≡ old.reported + report_count kept → between.left ≡ old.left → OnOk result (new ≡ counted between outcomes 0)
    → Settles path_of before now queued outcomes old new (fault_of result)
settles_with path_of before mid now queued outcomes kept old between new (Ok done) report does fine sent reported left tally = (
  report_count kept,
  settled_by path_of before mid queued outcomes (report_count kept) report now None does,
  tally ∙ counted-reported old between outcomes (report_count kept) sent reported left,
)
settles_with path_of before mid now queued outcomes kept old between new (Err fault.Wire) report does fine sent reported left tally = absurd (fine refl)
settles_with path_of before mid now queued outcomes kept old between new (Err fault.Keeper) report does fine sent reported left tally =
    (report_count kept, settled_by path_of before mid queued outcomes (report_count kept) report now (Some fault.Keeper) does)
settles_with path_of before mid now queued outcomes kept old between new (Err fault.Memory) report does fine sent reported left tally =
    inl (report_count kept, settled_by path_of before mid queued outcomes (report_count kept) report now (Some fault.Memory) does)

-- a report that is kept is one more
pub report_counted : (kept : Bool) (n : ℕ) → n ≡ from_bool kept → n ≡ report_count kept
report_counted true n is = is
report_counted false n is = is
