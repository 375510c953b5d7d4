use Rattle.std.proofs.Common.{length, ◌-◌}
use Rattle.mime_tree.proofs.LinesAt.{HasPassedHeader}
use Rattle.mime_tree.proofs.reading.skip_header.Given as goal

abbrev pub invariant-loop-at : goal.invariant-loop-at
invariant-loop-at l = HasPassedHeader (l.boundaries) l.octets l.fn.from l.at

abbrev pub decreases-loop-at : goal.decreases-loop-at
decreases-loop-at l = length l.octets - l.at
