use Rattle.utf8_reports.proofs.Adding.{status_heading-put}
use Rattle.utf8_reports.proofs.writing.push_status_heading.Goals as goal

pub returns : goal.returns
returns c =
    let type = c.in_ok-push_line-2.ensures in
    let is = c.status_type.ensures in
    status_heading-put c.push_field.result c.args.global c.args.name.now c.args.made.now c.push_line.new.made c.push_line-2.new.made c.push_line-3.new.made c.push_field.new.made
    c.in_ok-push_line.ensures (rw (← is) type) c.in_ok-push_line-3.ensures c.push_field.ensures
