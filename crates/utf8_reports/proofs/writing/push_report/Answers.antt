use Rattle.std.proofs.lemmas.Result.{on_ok_weaker}
use Rattle.utf8_reports.proofs.MadeReports.{four_pieces}
use Rattle.utf8_reports.proofs.writing.push_report.Goals as goal

pub returns : goal.returns
returns c =
    let heading = rw (c.as_slice-name.ensures, c.as_slice.ensures) at c.in_ok-push_heading.ensures in
    let status = rw (c.as_slice-name.ensures) at c.in_ok-push_status_heading.ensures in
    let recipients = rw (c.as_slice-2.ensures) at c.in_ok-push_recipients.ensures in
    on_ok_weaker c.push_header_part.result (λ put. four_pieces _ _ _ _ c.args.made.now _ _ _ _ heading status recipients put) c.push_header_part.ensures
