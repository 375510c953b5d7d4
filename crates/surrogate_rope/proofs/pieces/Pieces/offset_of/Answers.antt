use Rattle.std.proofs.Common.{ap, ◌∙◌, take}
use Rattle.surrogate_rope.specs.Ropes.{size_of}
use Rattle.surrogate_rope.proofs.PieceLemmas.{whole_offset}
use Rattle.surrogate_rope.proofs.pieces.Pieces.offset_of.Goals as goal

pub returns : goal.returns
returns c =
    whole_offset c.self.inside.octets c.self.inside.pieces.items c.self.inside.size c.args.number c.index.result.now c.self.invariant (rw c.self.view_is c.requires) c.index.ensures
    ∙ ap (λ pieces. size_of (take c.args.number pieces)) c.self.view_is
