use Rattle.utf8_reports.proofs.SomeHeaders.{own_tested}
use Rattle.utf8_reports.proofs.shown.is_own_surrogate.Goals as goal

pub returns : goal.returns
returns c =
    own_tested c.args.msg.now c.args.tree.now.entities c.requires.whole.0 c.in_ok-rope.rope c.rewritten.result c.requires.tree c.requires.whole.1 c.in_ok-rope.ensures.rope c.rewritten.ensures
