use Rattle.std.proofs.Common.{◌-◌}
use Rattle.surrogate_rope.specs.Ropes.{joined_pieces}
use Rattle.surrogate_rope.proofs.PieceLemmas.{IsReading}
use Rattle.surrogate_rope.proofs.pieces.Pieces.read_at.Given as goal

abbrev pub invariant-loop-count : goal.invariant-loop-count
invariant-loop-count l = IsReading (joined_pieces l.msg l.self) l.offset l.count l.most l.fn.into l.into

abbrev pub decreases-loop-count : goal.decreases-loop-count
decreases-loop-count l = l.most - l.count
