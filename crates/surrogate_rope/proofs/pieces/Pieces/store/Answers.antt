use Rattle.surrogate_rope.proofs.PieceLemmas.{placed_fits}
use Rattle.surrogate_rope.proofs.StoredLemmas.{no_piece, no_piece_stored}
use Rattle.surrogate_rope.proofs.pieces.Pieces.store.Goals as goal

pub loop-piece-init : goal.loop-piece-init
loop-piece-init c = no_piece_stored c.args.stored.now

pub store_piece-requires : goal.store_piece-requires
store_piece-requires c =
    rw (c.as_slice-octets.ensures, c.as_slice-piece-items.ensures.value)
    (placed_fits c.self.inside.octets c.self.inside.pieces.items c.self.inside.size c.loop-piece.piece-index no_piece c.self.invariant (rw c.as_slice-piece-items.ensures.value at c.loop-piece-test.true))
