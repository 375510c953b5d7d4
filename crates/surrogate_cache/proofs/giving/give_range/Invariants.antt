use Rattle.surrogate_rope.specs.Served.{shown_octets}
use Rattle.surrogate_cache.proofs.GivingLemmas.{HasGiven}
use Rattle.surrogate_cache.proofs.giving.give_range.Given as goal

abbrev pub invariant-loop-left : goal.invariant-loop-left
invariant-loop-left g l = HasGiven (g.W.Wire.observed l.fn.wire) (g.W.Wire.observed l.wire) (shown_octets l.msg l.shown) l.fn.at l.fn.len l.place l.left

abbrev pub decreases-loop-left : goal.decreases-loop-left
decreases-loop-left g l = l.left
