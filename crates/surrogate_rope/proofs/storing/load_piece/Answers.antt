use Rattle.std.proofs.Common.{refl, arith, get_or, ◌+◌}
use Rattle.std.specs.Prelude.{slice_range}
use Rattle.surrogate_rope.proofs.LoadLemmas.{piece_fits, range_fits, range_room, new_fits, range_loaded, new_loaded}
use Rattle.surrogate_rope.proofs.storing.load_piece.Goals as goal

pub number_at-first-requires : goal.number_at-first-requires
number_at-first-requires c = piece_fits c.args.octets.now c.args.at c.args.pieces.now c.requires

pub number_at-requires : goal.number_at-requires
number_at-requires c = range_fits c.args.octets.now c.args.at (get_or c.args.octets.now c.args.at 0) refl c.if-octets-at-eq0.true c.args.pieces.now c.requires

pub push_range-requires : goal.push_range-requires
push_range-requires c =
    range_room c.args.octets.now c.args.at (get_or c.args.octets.now c.args.at 0) c.number_at.result c.args.pieces.now refl c.if-octets-at-eq0.true c.number_at.ensures c.requires

pub overflow_add-following-else-octets-at-eq0 : goal.overflow_add-following-else-octets-at-eq0
overflow_add-following-else-octets-at-eq0 c =
    let fits =
    new_fits c.args.octets.now c.args.at (get_or c.args.octets.now c.args.at 0) c.number_at-first.result refl c.if-octets-at-eq0.false c.number_at-first.ensures c.args.pieces.now c.requires in
    omega arith

pub slice_bounds-push_new-end : goal.slice_bounds-push_new-end
slice_bounds-push_new-end c =
    new_fits c.args.octets.now c.args.at (get_or c.args.octets.now c.args.at 0) c.number_at-first.result refl c.if-octets-at-eq0.false c.number_at-first.ensures c.args.pieces.now c.requires

pub returns-in_ok-push_range : goal.returns-in_ok-push_range
returns-in_ok-push_range c =
    range_loaded c.args.octets.now c.args.at (get_or c.args.octets.now c.args.at 0) c.number_at-first.result c.number_at.result c.args.pieces.now c.push_range.new.self refl c.if-octets-at-eq0.true c.number_at-first.ensures
    c.number_at.ensures c.in_ok-push_range.ensures

pub returns-in_ok-push_new : goal.returns-in_ok-push_new
returns-in_ok-push_new c =
    new_loaded c.args.octets.now c.args.at (get_or c.args.octets.now c.args.at 0) c.number_at-first.result (slice_range c.args.octets.now (c.args.at + 9) (c.args.at + 9 + c.number_at-first.result)) c.args.pieces.now
    c.push_new.new.self refl c.if-octets-at-eq0.false c.number_at-first.ensures refl c.in_ok-push_new.ensures.pieces
