use Rattle.utf8_reports.proofs.Adding.{fixed_lines-put}
use Rattle.utf8_reports.proofs.writing.push_fixed_lines.Goals as goal

pub returns : goal.returns
returns c =
    fixed_lines-put c.push_line-7.result c.args.made.now c.push_line.new.made c.push_line-2.new.made c.push_line-3.new.made c.push_line-4.new.made c.push_line-5.new.made
    c.push_line-6.new.made c.push_line-7.new.made c.in_ok-push_line.ensures c.in_ok-push_line-2.ensures c.in_ok-push_line-3.ensures c.in_ok-push_line-4.ensures
    c.in_ok-push_line-5.ensures c.in_ok-push_line-6.ensures c.push_line-7.ensures
