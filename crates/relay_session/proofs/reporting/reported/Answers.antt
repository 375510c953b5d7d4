use Rattle.session_core.proofs.MomentLemmas.{moment_date}
use Rattle.relay_session.proofs.DeliveredReports.{deliverable_made, reported_as}
use Rattle.relay_session.proofs.ReportedFailures.{failure_is}
use Rattle.relay_session.proofs.reporting.reported.Goals as goal

pub report_of-requires-clause-failure : goal.report_of-requires-clause-failure
report_of-requires-clause-failure c =
    failure_is c.args.path.now _ c.args.failed c.args.timestamp.seconds (rw c.requires.path at c.requires.known.paths.path) c.requires.named c.requires.some c.requires.failed c.requires.moment.bound

pub returns-clause-deliverable : goal.returns-clause-deliverable
returns-clause-deliverable c =
    deliverable_made c.args.store.now c.in_ok-destination.destination c.args.path.now c.in_ok-report.report c.in_ok-mark.mark c.args.timestamp.internal c.delivery_of.result c.delivery_of.ensures
    c.in_ok-destination.ensures.known (rw c.as_slice.ensures at c.in_ok-mark.ensures) (moment_date c.args.timestamp.seconds c.args.timestamp.internal c.requires.moment.internal)

pub returns-clause-reported : goal.returns-clause-reported
returns-clause-reported c =
    reported_as c.args.store.now.kept c.args.queued.now c.args.path.now c.args.failed c.args.timestamp c.in_ok-destination.destination c.in_ok-report.report c.in_ok-mark.mark c.delivery_of.result
    c.requires.moment c.in_ok-report.ensures.report (rw c.as_slice.ensures at c.in_ok-mark.ensures) c.in_ok-destination.ensures.destination c.delivery_of.ensures
