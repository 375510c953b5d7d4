use Rattle.std.proofs.Common.{drop, refl, sym}
use Rattle.std.proofs.lemmas.Bool.{eqb-true}
use Rattle.std.proofs.lemmas.Result.{err_from_is_err_and}
use Rattle.session_core.proofs.KeepsLemmas.{Keeps-then}
use Rattle.relay_session.proofs.FeedLoop.{Decided, begun_running, begun_short, decided_of_some, decided_running, feeding_begins, feeding_done, feeding_front, feeding_memory, feeding_on}
use Rattle.relay_session.proofs.running.feed.Goals as goal

pub loop-rest-init : goal.loop-rest-init
loop-rest-init g c = feeding_begins c.args.outside.now c.args.queue.now c.args.run c.args.piece.now c.requires.work

pub returns-in_err-reader-clause-advance : goal.returns-in_err-reader-clause-advance
returns-in_err-reader-clause-advance g c = λ path_of reads before bag same running.
    let failed = err_from_is_err_and c.from_residual.result c.from_residual.ensures.1 in
    rw (failed.1, failed.2)
    (feeding_memory c.args.outside.now c.loop-rest.outside c.args.queue.now c.args.run c.loop-rest.run c.args.piece.now c.loop-rest.rest.now c.loop-rest.invariant path_of reads before bag same running)

pub returns-in-Begun-clause-advance : goal.returns-in-Begun-clause-advance
returns-in-Begun-clause-advance g c =
    let front = feeding_front c.args.outside.now c.loop-rest.outside c.args.queue.now c.args.run c.loop-rest.run c.args.piece.now c.loop-rest.rest.now c.loop-rest.invariant in
    begun_running c.args.outside.now c.loop-rest.outside c.args.queue.now c.args.run c.loop-rest.run c.args.piece.now c.loop-rest.rest.now c.in-Begun.reader c.loop-rest.invariant
    ((rw c.in-Begun.is at c.in_ok-reader.ensures) front)

pub returns-in-Begun-clause-short : goal.returns-in-Begun-clause-short
returns-in-Begun-clause-short g c =
    let front = feeding_front c.args.outside.now c.loop-rest.outside c.args.queue.now c.args.run c.loop-rest.run c.args.piece.now c.loop-rest.rest.now c.loop-rest.invariant in
    begun_short c.args.outside.now c.loop-rest.outside c.args.queue.now c.args.run c.loop-rest.run c.args.piece.now c.loop-rest.rest.now c.in-Begun.reader c.loop-rest.invariant
    ((rw c.in-Begun.is at c.in_ok-reader.ensures) front)

pub take_reply-requires-clause-decided : goal.take_reply-requires-clause-decided
take_reply-requires-clause-decided g c =
    let decided : Decided c.loop-rest.run c.loop-rest.rest.now c.in-Decided.octets c.in-Decided.used c.new-reader.result =
    record {
      decides = (rw c.in-Decided.is at c.in_ok-reader.ensures) (feeding_front c.args.outside.now c.loop-rest.outside c.args.queue.now c.args.run c.loop-rest.run c.args.piece.now c.loop-rest.rest.now c.loop-rest.invariant);
      anew = c.new-reader.ensures.octets;
      begun = c.new-reader.ensures.begun;
    } in
    decided.decides.decided

pub take_reply-requires-clause-work : goal.take_reply-requires-clause-work
take_reply-requires-clause-work g c =
    let decided : Decided c.loop-rest.run c.loop-rest.rest.now c.in-Decided.octets c.in-Decided.used c.new-reader.result =
    record {
      decides = (rw c.in-Decided.is at c.in_ok-reader.ensures) (feeding_front c.args.outside.now c.loop-rest.outside c.args.queue.now c.args.run c.loop-rest.run c.args.piece.now c.loop-rest.rest.now c.loop-rest.invariant);
      anew = c.new-reader.ensures.octets;
      begun = c.new-reader.ensures.begun;
    } in
    decided_of_some c.args.outside.now c.loop-rest.outside c.args.queue.now c.args.run c.loop-rest.run c.args.piece.now c.loop-rest.rest.now
    c.in-Decided.octets c.in-Decided.used c.new-reader.result c.loop-rest.invariant decided

pub returns-in_err-next-in-Decided-clause-advance : goal.returns-in_err-next-in-Decided-clause-advance
returns-in_err-next-in-Decided-clause-advance g c = λ path_of reads before bag same running.
    let decided : Decided c.loop-rest.run c.loop-rest.rest.now c.in-Decided.octets c.in-Decided.used c.new-reader.result =
    record {
      decides = (rw c.in-Decided.is at c.in_ok-reader.ensures) (feeding_front c.args.outside.now c.loop-rest.outside c.args.queue.now c.args.run c.loop-rest.run c.args.piece.now c.loop-rest.rest.now c.loop-rest.invariant);
      anew = c.new-reader.ensures.octets;
      begun = c.new-reader.ensures.begun;
    } in
    let failed = err_from_is_err_and c.from_residual-in_err-next-in-Decided.result c.from_residual-in_err-next-in-Decided.ensures.1 in
    let begun = decided_running c.args.outside.now c.loop-rest.outside c.args.queue.now c.args.run c.loop-rest.run c.args.piece.now c.loop-rest.rest.now c.in-Decided.octets c.in-Decided.used c.new-reader.result c.loop-rest.invariant decided
    path_of reads before bag same running in
    rw (failed.1, failed.2) (c.in_err-next-in-Decided.ensures.advance path_of reads before bag (drop c.in-Decided.used c.loop-rest.rest.now) same begun)

pub returns-in_err-next-in-Decided-clause-keeps : goal.returns-in_err-next-in-Decided-clause-keeps
returns-in_err-next-in-Decided-clause-keeps g c =
    let failed = err_from_is_err_and c.from_residual-in_err-next-in-Decided.result c.from_residual-in_err-next-in-Decided.ensures.1 in
    rw (failed.1, failed.2) (Keeps-then c.args.outside.now c.loop-rest.outside c.take_reply.new.outside _ c.loop-rest.invariant.keeps c.in_err-next-in-Decided.ensures.keeps)

pub returns-in-Ends-clause-advance : goal.returns-in-Ends-clause-advance
returns-in-Ends-clause-advance g c = λ path_of reads before bag same running.
    let decided : Decided c.loop-rest.run c.loop-rest.rest.now c.in-Decided.octets c.in-Decided.used c.new-reader.result =
    record {
      decides = (rw c.in-Decided.is at c.in_ok-reader.ensures) (feeding_front c.args.outside.now c.loop-rest.outside c.args.queue.now c.args.run c.loop-rest.run c.args.piece.now c.loop-rest.rest.now c.loop-rest.invariant);
      anew = c.new-reader.ensures.octets;
      begun = c.new-reader.ensures.begun;
    } in
    let begun = decided_running c.args.outside.now c.loop-rest.outside c.args.queue.now c.args.run c.loop-rest.run c.args.piece.now c.loop-rest.rest.now c.in-Decided.octets c.in-Decided.used c.new-reader.result c.loop-rest.invariant decided
    path_of reads before bag same running in
    (rw c.in-Ends.is at c.in_ok-next-in-Decided.ensures.advance) path_of reads before bag (drop c.in-Decided.used c.loop-rest.rest.now) same begun

pub returns-in-Ends-clause-keeps : goal.returns-in-Ends-clause-keeps
returns-in-Ends-clause-keeps g c = Keeps-then c.args.outside.now c.loop-rest.outside c.take_reply.new.outside _ c.loop-rest.invariant.keeps c.in_ok-next-in-Decided.ensures.keeps

pub loop-rest-preserved : goal.loop-rest-preserved
loop-rest-preserved g c =
    let decided : Decided c.loop-rest.run c.loop-rest.rest.now c.in-Decided.octets c.in-Decided.used c.new-reader.result =
    record {
      decides = (rw c.in-Decided.is at c.in_ok-reader.ensures) (feeding_front c.args.outside.now c.loop-rest.outside c.args.queue.now c.args.run c.loop-rest.run c.args.piece.now c.loop-rest.rest.now c.loop-rest.invariant);
      anew = c.new-reader.ensures.octets;
      begun = c.new-reader.ensures.begun;
    } in
    feeding_on c.args.outside.now c.loop-rest.outside c.take_reply.new.outside c.args.queue.now c.args.run c.loop-rest.run c.in-Goes.next
    c.args.piece.now c.loop-rest.rest.now c.in-Decided.octets c.in-Decided.used _ c.new-reader.result c.loop-rest.invariant decided
    (record {
      running = rw c.in-Goes.is at c.in_ok-next-in-Decided.ensures.advance;
      works = rw c.in-Goes.is at c.in_ok-next-in-Decided.ensures.work;
      short = rw c.in-Goes.is at c.in_ok-next-in-Decided.ensures.short;
      keeps = c.in_ok-next-in-Decided.ensures.keeps;
    }) refl

pub returns-clause-advance : goal.returns-clause-advance
returns-clause-advance g c =
    (feeding_done c.args.outside.now c.loop-rest.outside c.args.queue.now c.args.run c.loop-rest.run c.args.piece.now c.loop-rest.rest.now (eqb-true _ 0 (sym c.loop-rest-test.ensures)) c.loop-rest.invariant).running

pub returns-clause-work : goal.returns-clause-work
returns-clause-work g c =
    (feeding_done c.args.outside.now c.loop-rest.outside c.args.queue.now c.args.run c.loop-rest.run c.args.piece.now c.loop-rest.rest.now (eqb-true _ 0 (sym c.loop-rest-test.ensures)) c.loop-rest.invariant).works
