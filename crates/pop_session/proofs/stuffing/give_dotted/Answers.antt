use Rattle.std.proofs.Common.{◌+◌, take, drop, refl, arith}
use Rattle.std.proofs.lemmas.Result.{err_from_is_err_and}
use Rattle.mail_wire.proofs.Moving.{GoesOn-of}
use Rattle.surrogate_rope.specs.Served.{shown_octets}
use Rattle.pop_session.specs.declared.stuffing.Place.TheVariants.{LineStart}
use Rattle.pop_session.specs.private.Stuffing.{place_after, stuffed_from}
use Rattle.pop_session.proofs.StuffingLemmas.{stuffed-from}
use Rattle.pop_session.proofs.StuffedPieces.{all_given, broken_off, more_given, next_of_range, piece_split, range_end}
use Rattle.pop_session.proofs.stuffing.give_dotted.Goals as goal

pub returns-in_err-place-clause-gives : goal.returns-in_err-place-clause-gives
returns-in_err-place-clause-gives g c =
    let failed = err_from_is_err_and c.from_residual.result c.from_residual.ensures.1 in
    let shown = shown_octets c.args.msg.now c.args.shown.now in
    let octets = take c.args.len (drop c.args.at shown) in
    let place = c.loop-given.place in
    let piece = c.split_at.result.0.now in
    let rest = drop c.loop-given.given octets in
    let others = drop (c.loop-given.given + c.min-count.result) octets in
    let next = next_of_range shown c.run_at-run.result.now piece c.args.at c.args.len c.loop-given.given c.min-count.result c.run_at-run.ensures.run c.loop-given.invariant.low c.min-count.ensures
    c.split_at.ensures.front in
    rw (failed.1, stuffed-from octets)
    (broken_off (g.W.Wire.observed c.args.wire.now) (g.W.Wire.observed c.loop-given.wire) (g.W.Wire.observed c.give_stuffed.new.wire) (stuffed_from LineStart octets) (stuffed_from place piece)
    (stuffed_from (place_after place piece) others) place rest c.loop-given.invariant.given c.in_err-place.ensures.gives (piece_split place (place_after place piece) rest piece others next refl))

pub loop-given-preserved : goal.loop-given-preserved
loop-given-preserved g c =
    let shown = shown_octets c.args.msg.now c.args.shown.now in
    let octets = take c.args.len (drop c.args.at shown) in
    let place = c.loop-given.place in
    let after = c.in_ok-place.place in
    let piece = c.split_at.result.0.now in
    let rest = drop c.loop-given.given octets in
    let others = drop (c.loop-given.given + c.min-count.result) octets in
    let before = g.W.Wire.observed c.loop-given.wire in
    let now = g.W.Wire.observed c.give_stuffed.new.wire in
    let next = next_of_range shown c.run_at-run.result.now piece c.args.at c.args.len c.loop-given.given c.min-count.result c.run_at-run.ensures.run c.loop-given.invariant.low c.min-count.ensures
    c.split_at.ensures.front in
    record {
      given = more_given (g.W.Wire.observed c.args.wire.now) before now (stuffed_from LineStart octets) (stuffed_from place piece) place after rest others c.loop-given.invariant.given
          c.in_ok-place.ensures.gives (GoesOn-of before now _ _ c.in_ok-place.ensures.cause) (piece_split place after rest piece others next c.in_ok-place.ensures.place);
      low = omega (arith, c.min-count.ensures, c.loop-given.invariant.low);
    }

pub returns-clause-gives : goal.returns-clause-gives
returns-clause-gives g c =
    let octets = drop c.args.at (shown_octets c.args.msg.now c.args.shown.now) in
    rw (stuffed-from (take c.args.len octets))
    (all_given (g.W.Wire.observed c.args.wire.now) (g.W.Wire.observed c.loop-given.wire) (stuffed_from LineStart (take c.args.len octets)) c.loop-given.place (drop c.loop-given.given (take c.args.len octets))
    c.loop-given.invariant.given (range_end octets c.args.len c.loop-given.given (omega (arith, c.loop-given-test.false))))
