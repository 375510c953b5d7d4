use Rattle.std.proofs.Common.{None}
use Rattle.std.proofs.lemmas.Result.{err_from_is_err_and}
use Rattle.session_core.proofs.GoingLemmas.{Going-start, Going-more, Going-ends, Going-fails, Going-all, none_left}
use Rattle.session_core.proofs.KeepsLemmas.{Keeps-nil, Keeps-then}
use Rattle.session_core.proofs.feeding.feed_open.Goals as goal

pub loop-rest-init : goal.loop-rest-init
loop-rest-init g c = record {
  going = Going-start g.M.Machine.protocol g.M.Machine.stands c.args.outside.now c.args.reading.machine c.args.reading.kept c.args.piece.now;
  ready = c.requires.ready;
  on = Keeps-nil c.args.outside.now;
}

pub returns-in_err-advance-clause-feeds : goal.returns-in_err-advance-clause-feeds
returns-in_err-advance-clause-feeds g c =
    let failed = err_from_is_err_and c.from_residual.result c.from_residual.ensures.1 in
    rw (failed.1, failed.2) (Going-fails g.M.Machine.protocol g.M.Machine.stands c.args.outside.now c.loop-rest.outside c.take_next.new.outside c.args.reading c.args.piece.now
    c.loop-rest.machine c.loop-rest.kept c.take_next.new.kept c.loop-rest.rest.now c.in_err-advance.field-0.0 c.loop-rest.invariant.on.clock c.loop-rest.invariant.going c.in_err-advance.ensures.steps)

pub returns-in_default-clause-feeds : goal.returns-in_default-clause-feeds
returns-in_default-clause-feeds g c =
    Going-ends g.M.Machine.protocol g.M.Machine.stands g.met.M.Machine.quiet c.args.outside.now c.loop-rest.outside c.take_next.new.outside c.args.reading c.args.piece.now
    c.loop-rest.machine c.loop-rest.kept c.take_next.new.kept c.loop-rest.rest.now c.in_ok-advance.advance c.loop-rest.invariant.on.clock c.loop-rest.invariant.going c.in_ok-advance.ensures.steps c.in_default.is

pub loop-rest-preserved : goal.loop-rest-preserved
loop-rest-preserved g c = record {
  going = rw c.split_at.ensures.back (Going-more g.M.Machine.protocol g.M.Machine.stands c.args.outside.now c.loop-rest.outside c.take_next.new.outside c.args.reading.machine c.args.reading.kept c.args.piece.now
      c.loop-rest.machine c.in-Some.next c.loop-rest.kept c.take_next.new.kept c.loop-rest.rest.now c.in_ok-advance.advance c.loop-rest.invariant.on.clock c.loop-rest.invariant.going c.in_ok-advance.ensures.steps c.in-Some.is);
  ready = rw c.in-Some.is at c.in_ok-advance.ensures.ready;
  on = Keeps-then c.args.outside.now c.loop-rest.outside c.take_next.new.outside None c.loop-rest.invariant.on c.in_ok-advance.ensures.keeps;
}

pub returns-clause-feeds : goal.returns-clause-feeds
returns-clause-feeds g c =
    Going-all g.M.Machine.protocol g.M.Machine.stands g.M.Machine.is_ready g.met.M.Machine.waits c.args.outside.now c.loop-rest.outside c.args.reading (record { kept = c.loop-rest.kept; machine = c.loop-rest.machine })
    c.args.piece.now c.loop-rest.rest.now c.loop-rest.invariant.going c.loop-rest.invariant.ready (none_left c.loop-rest.rest.now c.is_empty.result c.is_empty.ensures c.loop-rest-test.false)
