use Rattle.std.proofs.Common.{◌-◌}
use Rattle.surrogate_rope.specs.Served.{shown_octets}
use Rattle.imap_views.proofs.Counting.{IsReadUp}
use Rattle.imap_views.proofs.ranges.read_range.Given as goal

abbrev pub invariant-loop-at : goal.invariant-loop-at
invariant-loop-at l = IsReadUp (shown_octets l.fn.msg l.fn.shown) l.fn.span.at l.end l.at l.made

abbrev pub decreases-loop-at : goal.decreases-loop-at
decreases-loop-at l = l.end - l.at
