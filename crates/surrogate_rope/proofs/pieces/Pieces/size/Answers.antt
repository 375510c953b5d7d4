use Rattle.std.proofs.Common.{ap, ◌∙◌}
use Rattle.surrogate_rope.specs.Ropes.{size_of}
use Rattle.surrogate_rope.proofs.PieceLemmas.{whole_size}
use Rattle.surrogate_rope.proofs.pieces.Pieces.size.Goals as goal

pub returns : goal.returns
returns c = whole_size c.self.inside.octets c.self.inside.pieces.items c.self.inside.size c.self.invariant ∙ ap size_of c.self.view_is
