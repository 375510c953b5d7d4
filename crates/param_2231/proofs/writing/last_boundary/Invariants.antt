use Rattle.std.proofs.Common.{ℕ, ◌<◌, ◌≤◌}
use Rattle.std.specs.Str.{IsCharBoundary}
use Rattle.param_2231.proofs.writing.last_boundary.Given as goal

-- after this place there is no place between two characters
abbrev pub invariant-loop-end : goal.invariant-loop-end
invariant-loop-end l = (l.end ≤ l.fn.at) × ((i : ℕ) → l.end < i → i ≤ l.fn.at → ¬ IsCharBoundary l.fn.octets i)

abbrev pub decreases-loop-end : goal.decreases-loop-end
decreases-loop-end l = l.end
