use Rattle.surrogate_rope.proofs.LoadLemmas.{no_piece_loaded, piece_next, piece_loaded, pieces_loaded}
use Rattle.surrogate_rope.proofs.storing.load_pieces.Goals as goal

pub loop-init : goal.loop-init
loop-init c = no_piece_loaded c.args.octets.now c.args.from c.args.count c.in_ok-pieces.pieces c.in_ok-pieces.ensures

pub load_piece-requires : goal.load_piece-requires
load_piece-requires c =
    piece_next c.args.octets.now c.args.from c.args.count c.loop.counter c.loop.at c.loop.pieces c.requires.0 c.requires.1 c.loop.invariant c.requires.2 c.loop-test.true

pub loop-preserved : goal.loop-preserved
loop-preserved c =
    piece_loaded c.args.octets.now c.args.from c.args.count c.loop.counter c.loop.at _ c.loop.pieces c.load_piece.new.pieces c.loop.invariant c.loop-test.true c.in_ok-at.ensures

pub returns : goal.returns
returns c = pieces_loaded c.args.octets.now c.args.from c.args.count c.loop.counter c.loop.at c.loop.pieces c.loop.invariant c.loop-test.false
