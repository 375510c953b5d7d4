use Rattle.std.proofs.lemmas.Result.{err_from_is_err_and}
use Rattle.pop_session.proofs.StuffingLemmas.{stuffed-from}
use Rattle.pop_session.proofs.StuffedPieces.{end_given, lines_broken_off}
use Rattle.pop_session.proofs.stuffing.StoredLinesGiving.give_to.Goals as goal

pub returns-clause-gives : goal.returns-clause-gives
returns-clause-gives g c =
    end_given (g.W.Wire.observed c.args.wire.now) (g.W.Wire.observed c.give_stuffed.new.wire) (g.W.Wire.observed c.give_plain.new.wire) c.give_plain.result c.args.msg.now c.end_of.result.now
    c.in_ok-place.place (rw stuffed-from c.in_ok-place.ensures.gives) c.in_ok-place.ensures.place c.end_of.ensures c.give_plain.ensures.gives

pub returns-in_err-place-clause-gives : goal.returns-in_err-place-clause-gives
returns-in_err-place-clause-gives g c =
    let failed = err_from_is_err_and c.from_residual.result c.from_residual.ensures.1 in
    rw failed.1 (lines_broken_off (g.W.Wire.observed c.args.wire.now) (g.W.Wire.observed c.give_stuffed.new.wire) c.args.msg.now (rw stuffed-from c.in_err-place.ensures.gives))
