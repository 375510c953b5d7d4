use Rattle.std.proofs.Common.{arith}
use Rattle.surrogate_rope.proofs.PieceLemmas.{whole_new, whole_range}
use Rattle.surrogate_rope.proofs.pieces.Pieces.octets_at.Goals as goal

pub overflow_add-result : goal.overflow_add-result
overflow_add-result c =
    let fits = whole_new c.self.inside.octets c.self.inside.pieces.items c.self.inside.size c.args.number c.index-piece.result.now c.self.invariant (rw c.self.view_is c.requires.number) c.index-piece.ensures c.if-piece.true in
    omega (arith, c.as_slice-octets.ensures, c.self.invariant.octets_few)

pub slice_bounds-result-end : goal.slice_bounds-result-end
slice_bounds-result-end c =
    let fits = whole_new c.self.inside.octets c.self.inside.pieces.items c.self.inside.size c.args.number c.index-piece.result.now c.self.invariant (rw c.self.view_is c.requires.number) c.index-piece.ensures c.if-piece.true in
    rw c.as_slice-octets.ensures fits

pub overflow_add-result-else-piece : goal.overflow_add-result-else-piece
overflow_add-result-else-piece c =
    let fits = whole_range c.self.inside.octets c.args.msg.now c.self.inside.pieces.items c.args.number c.index-piece.result.now (rw c.self.view_is c.requires.within) (rw c.self.view_is c.requires.number) c.index-piece.ensures c.if-piece.false in
    omega (arith, c.type_inv.msg)

pub slice_bounds-result-end-else-piece : goal.slice_bounds-result-end-else-piece
slice_bounds-result-end-else-piece c = whole_range c.self.inside.octets c.args.msg.now c.self.inside.pieces.items c.args.number c.index-piece.result.now (rw c.self.view_is c.requires.within) (rw c.self.view_is c.requires.number) c.index-piece.ensures c.if-piece.false
