use Rattle.utf8_reports.proofs.Adding.{heading-put}
use Rattle.utf8_reports.proofs.writing.push_heading.Goals as goal

pub returns : goal.returns
returns c =
    heading-put c.push_fixed_lines.result c.args.name.now c.args.to.now c.args.date.now c.args.made.now c.push_field.new.made c.push_field-2.new.made c.push_field-3.new.made
    c.push_fixed_lines.new.made c.in_ok-push_field.ensures c.in_ok-push_field-2.ensures c.in_ok-push_field-3.ensures c.push_fixed_lines.ensures
