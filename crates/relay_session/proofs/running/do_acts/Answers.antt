use Rattle.std.proofs.Common.{Some}
use Rattle.std.proofs.lemmas.Result.{err_from_is_err_and}
use Rattle.session_core.proofs.KeepsLemmas.{Keeps-opens, Keeps-then}
use Rattle.relay_session.proofs.ActsLemmas.{DoneUpTo-nil, StandsAt, all_done, order_next, room_next, turn_done, turn_fails}
use Rattle.relay_session.proofs.running.do_acts.Goals as goal

pub loop-act-init : goal.loop-act-init
loop-act-init g c = DoneUpTo-nil c.args.outside.now c.args.queue.now c.args.tally.now c.requires.known

pub do_act-requires-clause-opens : goal.do_act-requires-clause-opens
do_act-requires-clause-opens g c = Keeps-opens c.args.outside.now c.loop-act.outside c.loop-act.invariant.keeps c.requires.opens

pub do_act-requires-clause-known : goal.do_act-requires-clause-known
do_act-requires-clause-known g c = c.loop-act.invariant.stays.known

pub do_act-requires-clause-order : goal.do_act-requires-clause-order
do_act-requires-clause-order g c =
    let stands : StandsAt c.args.acts.now c.loop-act.act-index c.act-item.result =
    record { within = rw c.as_slice-act-items.ensures at c.loop-act-test.true; is = rw c.as_slice-act-items.ensures at c.act-item.is } in
    order_next c.args.outside.now c.loop-act.outside c.args.queue.now c.args.acts.now c.loop-act.act-index c.act-item.result c.args.tally.now c.loop-act.tally stands c.loop-act.invariant c.requires.order

pub do_act-requires-clause-room : goal.do_act-requires-clause-room
do_act-requires-clause-room g c =
    let stands : StandsAt c.args.acts.now c.loop-act.act-index c.act-item.result =
    record { within = rw c.as_slice-act-items.ensures at c.loop-act-test.true; is = rw c.as_slice-act-items.ensures at c.act-item.is } in
    room_next c.args.outside.now c.loop-act.outside c.args.queue.now c.args.acts.now c.loop-act.act-index c.act-item.result c.args.tally.now c.loop-act.tally stands c.loop-act.invariant c.requires.room

pub returns-in_err-do_act-clause-acts : goal.returns-in_err-do_act-clause-acts
returns-in_err-do_act-clause-acts g c =
    let failed = err_from_is_err_and c.from_residual.result c.from_residual.ensures.1 in
    let stands : StandsAt c.args.acts.now c.loop-act.act-index c.act-item.result =
    record { within = rw c.as_slice-act-items.ensures at c.loop-act-test.true; is = rw c.as_slice-act-items.ensures at c.act-item.is } in
    rw (failed.1, failed.2) (turn_fails c.args.outside.now c.loop-act.outside c.do_act.new.outside c.args.queue.now c.args.acts.now c.loop-act.act-index c.act-item.result
    c.args.tally.now c.loop-act.tally c.do_act.new.tally c.in_err-do_act.field-0.0 stands c.loop-act.invariant c.in_err-do_act.ensures.acts)

pub returns-in_err-do_act-clause-keeps : goal.returns-in_err-do_act-clause-keeps
returns-in_err-do_act-clause-keeps g c =
    let failed = err_from_is_err_and c.from_residual.result c.from_residual.ensures.1 in
    rw (failed.1, failed.2) (Keeps-then c.args.outside.now c.loop-act.outside c.do_act.new.outside (Some c.in_err-do_act.field-0.0) c.loop-act.invariant.keeps c.in_err-do_act.ensures.keeps)

pub loop-act-preserved : goal.loop-act-preserved
loop-act-preserved g c =
    let stands : StandsAt c.args.acts.now c.loop-act.act-index c.act-item.result =
    record { within = rw c.as_slice-act-items.ensures at c.loop-act-test.true; is = rw c.as_slice-act-items.ensures at c.act-item.is } in
    turn_done c.args.outside.now c.loop-act.outside c.do_act.new.outside c.args.queue.now c.args.acts.now c.loop-act.act-index c.act-item.result c.args.tally.now c.loop-act.tally c.do_act.new.tally
    stands c.loop-act.invariant c.in_ok-do_act.ensures.keeps c.in_ok-do_act.ensures.queue c.in_ok-do_act.ensures.acts

pub returns-clause-acts : goal.returns-clause-acts
returns-clause-acts g c =
    (all_done c.args.outside.now c.loop-act.outside c.args.queue.now c.args.acts.now c.loop-act.act-index c.args.tally.now c.loop-act.tally (rw c.as_slice-act-items.ensures at c.loop-act-test.false) c.loop-act.invariant).acts

pub returns-clause-queue : goal.returns-clause-queue
returns-clause-queue g c =
    (all_done c.args.outside.now c.loop-act.outside c.args.queue.now c.args.acts.now c.loop-act.act-index c.args.tally.now c.loop-act.tally (rw c.as_slice-act-items.ensures at c.loop-act-test.false) c.loop-act.invariant).stays

pub returns-clause-keeps : goal.returns-clause-keeps
returns-clause-keeps g c = c.loop-act.invariant.keeps
