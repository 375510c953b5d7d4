use Rattle.std.proofs.Common.{◌≡◌, ◌-◌, length}
use Rattle.surrogate_rope.specs.Served.{shown_octets}
use Rattle.pop_session.specs.Machine.{top_length as top_length_of}
use Rattle.pop_session.proofs.TopLemmas.{IsCounted}
use Rattle.pop_session.proofs.top.top_length.Given as goal

abbrev pub invariant-loop-at : goal.invariant-loop-at
invariant-loop-at l = record {
  counted : IsCounted (shown_octets l.msg l.shown) (top_length_of l.lines (shown_octets l.msg l.shown)) l.at l.scan;
  size : l.size ≡ length (shown_octets l.msg l.shown);
}

abbrev pub decreases-loop-at : goal.decreases-loop-at
decreases-loop-at l = l.size - l.at
