use Rattle.std.proofs.Common.{rules, ◌≡◌, Some}
use Rattle.std.specs.Iterator.Adapters.{zip_first, zip_second}
use Rattle.std.specs.Slice.Iter.{iter_rest}
use Rattle.std.proofs.lemmas.Iterator.{empty_from_Zip}
use Rattle.std.proofs.lemmas.Result.{err_from_is_err_and}
use Rattle.std.proofs.lemmas.Slice.Zip.{Zip-more}
use Rattle.session_core.proofs.KeepsLemmas.{Keeps-opens, Keeps-then}
use Rattle.relay_session.proofs.TakingOff.{taking-breaks, taking-ends, taking-left, taking-sent, taking-start, taking-step, taking-waits}
use Rattle.relay_session.proofs.settling.settle_all.Goals as goal

pub loop-one-init : goal.loop-one-init
loop-one-init g c =
    let items = c.into_iter-one-iterator.result in
    let others = c.zip-one-items.ensures.second.0 in
    let first : iter_rest (zip_first items) ≡ c.args.queued.now.unsettled = cc in
    let second : iter_rest (zip_second items) ≡ c.args.outcomes.now = cc in
    record {
      can_next = search rules;
      finite = search rules;
      taking = taking-start c.args.outside.now c.args.queued.now (iter_rest (zip_first items)) c.args.outcomes.now (iter_rest (zip_second items)) c.args.tally.now
          c.requires.known c.requires.«open» c.requires.each first second;
    }

pub settle-requires-clause-opens : goal.settle-requires-clause-opens
settle-requires-clause-opens g c = Keeps-opens c.args.outside.now c.loop-one.outside c.loop-one.invariant.taking.keeps c.requires.opens

pub settle-requires-clause-waits : goal.settle-requires-clause-waits
settle-requires-clause-waits g c =
    let more = Zip-more c.loop-one.one-iterator c.next.new.self c.next.result (c.in-Some.one, c.in-Some.outcome) c.in-Some.is c.next.ensures.steps in
    taking-waits c.args.outside.now c.loop-one.outside c.args.queued.now.entry c.args.queued.now.unsettled (iter_rest (zip_first c.loop-one.one-iterator)) c.args.outcomes.now
    (iter_rest (zip_second c.loop-one.one-iterator)) c.args.tally.now c.loop-one.tally c.loop-one.invariant.taking c.in-Some.one.now _ c.in-Some.outcome.now _ more.0 more.1

pub returns-in_err-settle-clause-does : goal.returns-in_err-settle-clause-does
returns-in_err-settle-clause-does g c =
    let failed = err_from_is_err_and c.from_residual.result c.from_residual.ensures.1 in
    let more = Zip-more c.loop-one.one-iterator c.next.new.self c.next.result (c.in-Some.one, c.in-Some.outcome) c.in-Some.is c.next.ensures.steps in
    rw (failed.1, failed.2)
    (taking-breaks c.args.outside.now c.loop-one.outside c.args.queued.now.entry c.args.queued.now.unsettled (iter_rest (zip_first c.loop-one.one-iterator)) c.args.outcomes.now
    (iter_rest (zip_second c.loop-one.one-iterator)) c.args.tally.now c.loop-one.tally c.loop-one.invariant.taking c.in-Some.one.now _ c.in-Some.outcome.now _ more.0 more.1
    c.settle.new.self c.in_err-settle.field-0.0 c.in_err-settle.ensures.makes)

pub returns-in_err-settle-clause-wire : goal.returns-in_err-settle-clause-wire
returns-in_err-settle-clause-wire g c =
    let failed = err_from_is_err_and c.from_residual.result c.from_residual.ensures.1 in
    rw (failed.1, failed.2) c.in_err-settle.ensures.wire

pub returns-in_err-settle-clause-keeps : goal.returns-in_err-settle-clause-keeps
returns-in_err-settle-clause-keeps g c =
    let failed = err_from_is_err_and c.from_residual.result c.from_residual.ensures.1 in
    rw (failed.1, failed.2) (Keeps-then c.args.outside.now c.loop-one.outside c.settle.new.self (Some c.in_err-settle.field-0.0) c.loop-one.invariant.taking.keeps c.in_err-settle.ensures.keeps)

pub count_outcome-requires-clause-sent : goal.count_outcome-requires-clause-sent
count_outcome-requires-clause-sent g c =
    let more = Zip-more c.loop-one.one-iterator c.next.new.self c.next.result (c.in-Some.one, c.in-Some.outcome) c.in-Some.is c.next.ensures.steps in
    taking-sent c.args.outside.now c.loop-one.outside c.args.queued.now.entry c.args.queued.now.unsettled (iter_rest (zip_first c.loop-one.one-iterator)) c.args.outcomes.now
    (iter_rest (zip_second c.loop-one.one-iterator)) c.args.tally.now c.loop-one.tally c.loop-one.invariant.taking c.in-Some.one.now _ c.in-Some.outcome.now _ more.0 more.1 c.requires.sent

pub count_outcome-requires-clause-left : goal.count_outcome-requires-clause-left
count_outcome-requires-clause-left g c =
    let more = Zip-more c.loop-one.one-iterator c.next.new.self c.next.result (c.in-Some.one, c.in-Some.outcome) c.in-Some.is c.next.ensures.steps in
    taking-left c.args.outside.now c.loop-one.outside c.args.queued.now.entry c.args.queued.now.unsettled (iter_rest (zip_first c.loop-one.one-iterator)) c.args.outcomes.now
    (iter_rest (zip_second c.loop-one.one-iterator)) c.args.tally.now c.loop-one.tally c.loop-one.invariant.taking c.in-Some.one.now _ c.in-Some.outcome.now _ more.0 more.1 c.requires.left

pub loop-one-preserved : goal.loop-one-preserved
loop-one-preserved g c =
    let more = Zip-more c.loop-one.one-iterator c.next.new.self c.next.result (c.in-Some.one, c.in-Some.outcome) c.in-Some.is c.next.ensures.steps in
    record {
      can_next = search rules;
      finite = search rules;
      taking = taking-step c.args.outside.now c.loop-one.outside c.args.queued.now.entry c.args.queued.now.unsettled (iter_rest (zip_first c.loop-one.one-iterator)) c.args.outcomes.now
          (iter_rest (zip_second c.loop-one.one-iterator)) c.args.tally.now c.loop-one.tally c.loop-one.invariant.taking c.in-Some.one.now _ c.in-Some.outcome.now _ more.0 more.1
          c.settle.new.self c.count_outcome.new.tally c.in_ok-settle.ensures.makes c.in_ok-settle.ensures.keeps c.count_outcome.ensures;
    }

pub returns-clause-does : goal.returns-clause-does
returns-clause-does g c =
    let taking = c.loop-one.invariant.taking in
    let spent = empty_from_Zip c.loop-one.one-iterator c.next.new.self c.next.result c.in-None.is c.next.ensures.steps taking.even in
    let all = taking-ends c.args.outside.now c.loop-one.outside c.args.queued.now.entry c.args.queued.now.unsettled (iter_rest (zip_first c.loop-one.one-iterator)) c.args.outcomes.now
    (iter_rest (zip_second c.loop-one.one-iterator)) c.args.tally.now c.loop-one.tally taking spent.0 spent.1 in
    all.does

pub returns-clause-tally : goal.returns-clause-tally
returns-clause-tally g c =
    let taking = c.loop-one.invariant.taking in
    let spent = empty_from_Zip c.loop-one.one-iterator c.next.new.self c.next.result c.in-None.is c.next.ensures.steps taking.even in
    let all = taking-ends c.args.outside.now c.loop-one.outside c.args.queued.now.entry c.args.queued.now.unsettled (iter_rest (zip_first c.loop-one.one-iterator)) c.args.outcomes.now
    (iter_rest (zip_second c.loop-one.one-iterator)) c.args.tally.now c.loop-one.tally taking spent.0 spent.1 in
    all.tally

pub returns-clause-keeps : goal.returns-clause-keeps
returns-clause-keeps g c = c.loop-one.invariant.taking.keeps
