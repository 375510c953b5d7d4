use Rattle.std.proofs.Common.{◌-◌}
use Rattle.imap_views.specs.private.Reading.{seen_by}
use Rattle.imap_views.proofs.Counting.{IsCounted}
use Rattle.imap_views.proofs.structures.count_lines.Given as goal

abbrev pub invariant-loop-at : goal.invariant-loop-at
invariant-loop-at l = IsCounted (seen_by l.seeing).octets l.fn.from l.to l.at l.lines l.is_after_cr

abbrev pub decreases-loop-at : goal.decreases-loop-at
decreases-loop-at l = l.to - l.at
