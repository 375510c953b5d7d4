use Rattle.std.proofs.Common.{◌∙◌, ap, sym}
use Rattle.surrogate_rope.specs.Ropes.{new_size}
use Rattle.surrogate_rope.proofs.pieces.Pieces.kept.Goals as goal

pub returns : goal.returns
returns c = c.len.ensures ∙ sym c.self.invariant.new ∙ ap new_size c.self.view_is
