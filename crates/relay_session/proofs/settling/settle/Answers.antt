use Rattle.std.proofs.Common.{refl, ap, ◌+◌, ℕ}
use Rattle.std.proofs.lemmas.Result.{err_from_is_err_and}
use Rattle.session_core.specs.Keeps.{fault_of}
use Rattle.session_core.proofs.KeepsLemmas.{Keeps-opens, Keeps-then}
use Rattle.relay_session.proofs.EntrySettled.{known_after, open_after_report, report_counted, settles_unmade, settles_with}
use Rattle.relay_session.proofs.settling.settle.Goals as goal

pub settle_all-requires-clause-opens : goal.settle_all-requires-clause-opens
settle_all-requires-clause-opens g c = Keeps-opens c.args.outside.now c.report.new.outside c.in_ok-kept.ensures.keeps c.requires.opens

pub settle_all-requires-clause-known : goal.settle_all-requires-clause-known
settle_all-requires-clause-known g c = known_after c.args.outside.now c.report.new.outside c.args.queued.now c.args.outcomes.now c.in_ok-kept.kept c.in_ok-kept.ensures.reports c.requires.known

pub settle_all-requires-clause-open : goal.settle_all-requires-clause-open
settle_all-requires-clause-open g c = open_after_report c.args.outside.now c.report.new.outside c.args.queued.now c.args.outcomes.now c.in_ok-kept.kept c.in_ok-kept.ensures.reports c.requires.«open»

pub returns-in_err-kept-clause-settles : goal.returns-in_err-kept-clause-settles
returns-in_err-kept-clause-settles g c = λ path_of reads.
    let failed = err_from_is_err_and c.from_residual.result c.from_residual.ensures.1 in
    rw (failed.1, failed.2) (settles_unmade path_of c.args.outside.now c.report.new.outside c.args.queued.now c.args.outcomes.now c.args.tally.now c.args.tally.now c.in_err-kept.field-0.0 (c.in_err-kept.ensures.reports path_of reads))

pub returns-in_err-kept-clause-keeps : goal.returns-in_err-kept-clause-keeps
returns-in_err-kept-clause-keeps g c =
    let failed = err_from_is_err_and c.from_residual.result c.from_residual.ensures.1 in
    rw (failed.1, failed.2) c.in_err-kept.ensures.keeps

pub returns-clause-settles : goal.returns-clause-settles
returns-clause-settles g c = λ path_of reads.
    let before = c.args.tally.now in
    let count = report_counted c.in_ok-kept.kept c.from.result c.from.ensures in
    settles_with path_of c.args.outside.now c.report.new.outside c.settle_all.new.outside c.args.queued.now c.args.outcomes.now c.in_ok-kept.kept before
    (record before { reported = before.reported + c.from.result }) c.settle_all.new.tally c.settle_all.result (c.in_ok-kept.ensures.reports path_of reads)
    c.settle_all.ensures.does c.settle_all.ensures.wire refl (ap (λ (n : ℕ). before.reported + n) count) refl c.settle_all.ensures.tally

pub returns-clause-keeps : goal.returns-clause-keeps
returns-clause-keeps g c =
    Keeps-then c.args.outside.now c.report.new.outside c.settle_all.new.outside (fault_of c.settle_all.result) c.in_ok-kept.ensures.keeps c.settle_all.ensures.keeps
