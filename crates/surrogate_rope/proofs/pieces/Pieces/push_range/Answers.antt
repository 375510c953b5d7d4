use Rattle.std.proofs.Common.{arith}
use Rattle.surrogate_rope.proofs.PieceLemmas.{range_pushed, range_counted}
use Rattle.surrogate_rope.proofs.pieces.Pieces.push_range.Goals as goal

pub invariant_of-self-2 : goal.invariant_of-self-2
invariant_of-self-2 c =
    rw c.in_ok-push.ensures.items (range_pushed c.self.inside.octets c.self.inside.pieces.items c.self.inside.size c.args.range c.self.invariant (rw c.self.view_is c.requires)).has

pub overflow_add-self : goal.overflow_add-self
overflow_add-self c =
    omega (arith, range_counted c.self.inside.octets c.self.inside.pieces.items c.self.inside.size c.args.range.len c.self.invariant (rw c.self.view_is c.requires))
