use Rattle.std.proofs.Common.{sym, subst}
use Rattle.mail_wire.specs.Dates.{IsDateText}
use Rattle.utf8_reports.specs.Shown.{IsShownHeader}
use Rattle.utf8_reports.proofs.MadeReports.{HasPieces, made_report}
use Rattle.utf8_reports.proofs.OneReport.{has_tree, is_ascii_report}
use Rattle.utf8_reports.proofs.writing.make_report.Goals as goal

pub returns-clause-report : goal.returns-clause-report
returns-clause-report c =
    let failure = c.args.failure.now in
    let msg = c.args.msg.now in
    let global = c.in_ok-to.to.global in
    let to = c.in_ok-to.to.text in
    let date = c.as_slice.result.now in
    let header = c.as_slice-2.result.now in
    let pieces : HasPieces failure msg to date header global = record {
      is_failure = c.requires.failure;
      to_is = c.in_ok-to.ensures.text;
      global_is = c.in_ok-to.ensures.global;
      is_date = subst (IsDateText failure.seconds) (sym c.as_slice.ensures) c.in_ok-date.ensures;
      is_shown = subst (IsShownHeader global msg) (sym c.as_slice-2.ensures) c.in_ok-header.ensures;
    } in
    made_report failure msg to date header global c.new-made.result c.push_report.new.made pieces c.new-made.ensures c.in_ok-push_report.ensures

pub returns-clause-tree : goal.returns-clause-tree
returns-clause-tree c = has_tree c.args.failure.now c.args.msg.now _ (returns-clause-report c)

pub returns-clause-ascii : goal.returns-clause-ascii
returns-clause-ascii c = is_ascii_report c.args.failure.now c.args.msg.now _ (returns-clause-report c)
