use Rattle.std.proofs.Common.{All, Some, inl, inr, refl, sym, subst, ◌∙◌}
use Rattle.std.proofs.lemmas.Bool.{both_ways}
use Rattle.std.proofs.lemmas.Result.{err_from_is_err_and}
use Rattle.session_core.proofs.KeepsLemmas.{Keeps-memory, Keeps-nil}
use Rattle.session_core.specs.Moments.{moment_of}
use Rattle.utf8_reports.specs.Recipients.{IsFailed}
use Rattle.relay_session.proofs.DeliveredReports.{IsDue, delivered_report, dropped_report, unreported}
use Rattle.relay_session.proofs.ReportedFailures.{failed_are}
use Rattle.relay_session.proofs.reporting.report.Goals as goal

pub returns-in_default-clause-reports : goal.returns-in_default-clause-reports
returns-in_default-clause-reports g c = λ path_of reads.
    unreported path_of c.args.outside.now c.args.outside.now c.args.queued.now c.args.outcomes.now refl (inl c.in_default.is)

pub returns-then-is_empty-clause-reports : goal.returns-then-is_empty-clause-reports
returns-then-is_empty-clause-reports g c = λ path_of reads.
    unreported path_of c.args.outside.now c.args.outside.now c.args.queued.now c.args.outcomes.now refl (inr (sym c.in_ok-failed.ensures ∙ c.is_empty.ensures.0 c.if-is_empty.true))

pub reported-requires-clause-named : goal.reported-requires-clause-named
reported-requires-clause-named g c = rw (c.store.ensures, c.in_ok-timestamp.ensures.same) c.requires.opens.named

pub reported-requires-clause-failed : goal.reported-requires-clause-failed
reported-requires-clause-failed g c =
    subst (All IsFailed) (sym c.in_ok-failed.ensures) (failed_are c.args.queued.now.unsettled c.args.outcomes.now c.requires.known.paths.unsettled c.requires.fit)

pub returns-in_err-delivery-clause-keeps : goal.returns-in_err-delivery-clause-keeps
returns-in_err-delivery-clause-keeps g c =
    let before = c.args.outside.now in
    let failed = err_from_is_err_and c.from_residual-in_err-delivery.result c.from_residual-in_err-delivery.ensures.1 in
    rw (failed.1, failed.2, c.now.ensures.same) (Keeps-memory before before (Keeps-nil before))

pub returns-in-Some-2-clause-reports : goal.returns-in-Some-2-clause-reports
returns-in-Some-2-clause-reports g c = λ path_of reads.
    let before = c.args.outside.now in
    let queued = c.args.queued.now in
    let outcomes = c.args.outcomes.now in
    let path = c.in-Some.path in
    let failed = c.in_ok-failed.failed in
    let moment = moment_of c.in_ok-timestamp.timestamp in
    let delivery = Some c.in-Some-2.delivery in
    let same = c.now.ensures.same in
    let due : IsDue path_of before queued outcomes path failed moment delivery = record {
      path_is = c.in-Some.is;
      failed_are = c.in_ok-failed.ensures;
      some = λ none. both_ways c.is_empty.result c.if-is_empty.false (c.is_empty.ensures.1 none);
      told = c.in_ok-timestamp.ensures.told;
      reported = rw (c.store.ensures, same, c.in-Some-2.is) at (c.in_ok-delivery.ensures.reported path_of reads);
    } in
    delivered_report path_of before c.deliver.new.outside queued outcomes path failed moment delivery c.deliver.result due (rw same at c.deliver.ensures.kept) (rw same at c.deliver.ensures.makes) c.deliver.ensures.wire

pub returns-in-None-clause-reports : goal.returns-in-None-clause-reports
returns-in-None-clause-reports g c = λ path_of reads.
    let before = c.args.outside.now in
    let queued = c.args.queued.now in
    let outcomes = c.args.outcomes.now in
    let path = c.in-Some.path in
    let failed = c.in_ok-failed.failed in
    let moment = moment_of c.in_ok-timestamp.timestamp in
    let delivery = c.in_ok-delivery.field-0 in
    let same = c.now.ensures.same in
    let due : IsDue path_of before queued outcomes path failed moment delivery = record {
      path_is = c.in-Some.is;
      failed_are = c.in_ok-failed.ensures;
      some = λ none. both_ways c.is_empty.result c.if-is_empty.false (c.is_empty.ensures.1 none);
      told = c.in_ok-timestamp.ensures.told;
      reported = rw (c.store.ensures, same) at (c.in_ok-delivery.ensures.reported path_of reads);
    } in
    dropped_report path_of before c.now.new.self queued outcomes path failed moment delivery same due c.in-None.is

pub returns-in-None-clause-keeps : goal.returns-in-None-clause-keeps
returns-in-None-clause-keeps g c = rw c.now.ensures.same (Keeps-nil c.args.outside.now)
