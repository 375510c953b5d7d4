use Rattle.utf8_reports.proofs.Adding.{diagnostic-put}
use Rattle.utf8_reports.proofs.recipients.push_diagnostic.Goals as goal

pub returns : goal.returns
returns c =
    let name = c.in_ok-push_slice.ensures.ok in
    let digits = c.in_ok-push_code.ensures in
    rw c.in-Some.is (diagnostic-put c.push_slice-2.result c.in-Some.code c.args.made.now c.push_slice.new.self c.push_code.new.made c.push_slice-2.new.self name digits c.push_slice-2.ensures.ok)
