use Rattle.std.proofs.Common.{None, Some, Ok, Err}
use Rattle.std.proofs.lemmas.Result.{err_from_is_err_and}
use Rattle.mail_wire.specs.declared.outside.Fault.TheVariants as fault
use Rattle.session_core.proofs.KeepsLemmas.{Keeps-opens, Keeps-then}
use Rattle.relay_session.proofs.RunPieces.{IsWireCause-failed, IsWireCause-then, Keeps-past, RunsOn-ends, RunsOn-first, RunsOn-input, RunsOn-memory, RunsOn-next, RunsOn-wire, TakesTo, work_next}
use Rattle.relay_session.proofs.relaying.run_to_end.Goals as goal

pub loop-count-init : goal.loop-count-init
loop-count-init g c = RunsOn-first c.args.outside.now c.args.queue.now c.args.run c.requires.work

pub returns-in-Err-Wire-clause-relays : goal.returns-in-Err-Wire-clause-relays
returns-in-Err-Wire-clause-relays g c =
    rw c.end.ensures
    (RunsOn-wire c.args.outside.now c.loop-count.outside c.take.new.self c.args.queue.now c.args.run c.loop-count.run c.in-Err-Wire.ensures.fails c.in-Err-Wire.ensures.leaves c.loop-count.invariant)

pub returns-in-Err-Wire-clause-cause : goal.returns-in-Err-Wire-clause-cause
returns-in-Err-Wire-clause-cause g c =
    IsWireCause-failed c.args.outside.now c.take.new.self c.end.result
    (Keeps-then c.args.outside.now c.loop-count.outside c.take.new.self (Some fault.Wire) c.loop-count.invariant.keeps (rw c.in-Err-Wire.field-0-is at c.in-Err-Wire.ensures.keeps))

pub returns-in-Err-Wire-clause-keeps : goal.returns-in-Err-Wire-clause-keeps
returns-in-Err-Wire-clause-keeps g c =
    Keeps-past c.args.outside.now c.take.new.self
    (Keeps-then c.args.outside.now c.loop-count.outside c.take.new.self (Some fault.Wire) c.loop-count.invariant.keeps (rw c.in-Err-Wire.field-0-is at c.in-Err-Wire.ensures.keeps))

pub returns-in-Err-Memory-clause-relays : goal.returns-in-Err-Memory-clause-relays
returns-in-Err-Memory-clause-relays g c =
    RunsOn-memory c.args.outside.now c.loop-count.outside c.take.new.self c.args.queue.now c.args.run c.loop-count.run c.in-Err-Memory.ensures.fails c.in-Err-Memory.ensures.leaves c.loop-count.invariant

pub returns-in-Err-Memory-clause-keeps : goal.returns-in-Err-Memory-clause-keeps
returns-in-Err-Memory-clause-keeps g c =
    Keeps-then c.args.outside.now c.loop-count.outside c.take.new.self (Some fault.Memory) c.loop-count.invariant.keeps (rw c.in-Err-Memory.field-0-is at c.in-Err-Memory.ensures.keeps)

pub returns-then-count-eq0-clause-relays : goal.returns-then-count-eq0-clause-relays
returns-then-count-eq0-clause-relays g c =
    let taken : TakesTo c.loop-count.outside c.take.new.self c.in-Ok.count c.take.new.into =
    record { takes = c.in-Ok.ensures.takes; leaves = c.in-Ok.ensures.leaves; keeps = c.in-Ok.ensures.keeps } in
    rw c.end-then-count-eq0.ensures
    (RunsOn-input c.args.outside.now c.loop-count.outside c.take.new.self c.args.queue.now c.args.run c.loop-count.run c.in-Ok.count c.take.new.into c.if-count-eq0.true taken c.loop-count.invariant)

pub returns-then-count-eq0-clause-keeps : goal.returns-then-count-eq0-clause-keeps
returns-then-count-eq0-clause-keeps g c = Keeps-then c.args.outside.now c.loop-count.outside c.take.new.self None c.loop-count.invariant.keeps c.in-Ok.ensures.keeps

pub feed-requires-clause-opens : goal.feed-requires-clause-opens
feed-requires-clause-opens g c =
    Keeps-opens c.args.outside.now c.take.new.self (Keeps-then c.args.outside.now c.loop-count.outside c.take.new.self None c.loop-count.invariant.keeps c.in-Ok.ensures.keeps) c.requires.opens

pub feed-requires-clause-work : goal.feed-requires-clause-work
feed-requires-clause-work g c =
    let taken : TakesTo c.loop-count.outside c.take.new.self c.in-Ok.count c.take.new.into =
    record { takes = c.in-Ok.ensures.takes; leaves = c.in-Ok.ensures.leaves; keeps = c.in-Ok.ensures.keeps } in
    work_next c.args.outside.now c.loop-count.outside c.take.new.self c.args.queue.now c.args.run c.loop-count.run c.in-Ok.count c.take.new.into taken c.loop-count.invariant

pub returns-in_err-next-clause-relays : goal.returns-in_err-next-clause-relays
returns-in_err-next-clause-relays g c =
    let failed = err_from_is_err_and c.from_residual.result c.from_residual.ensures.1 in
    let taken : TakesTo c.loop-count.outside c.take.new.self c.in-Ok.count c.take.new.into =
    record { takes = c.in-Ok.ensures.takes; leaves = c.in-Ok.ensures.leaves; keeps = c.in-Ok.ensures.keeps } in
    rw (failed.1, failed.2)
    (RunsOn-ends c.args.outside.now c.loop-count.outside c.take.new.self c.feed.new.outside c.args.queue.now c.args.run c.loop-count.run c.in-Ok.count c.take.new.into (Err c.in_err-next.field-0.0) taken
    c.in_err-next.ensures.advance c.loop-count.invariant)

pub returns-in_err-next-clause-keeps : goal.returns-in_err-next-clause-keeps
returns-in_err-next-clause-keeps g c =
    let failed = err_from_is_err_and c.from_residual.result c.from_residual.ensures.1 in
    rw (failed.1, failed.2)
    (Keeps-then c.args.outside.now c.take.new.self c.feed.new.outside (Some c.in_err-next.field-0.0)
    (Keeps-then c.args.outside.now c.loop-count.outside c.take.new.self None c.loop-count.invariant.keeps c.in-Ok.ensures.keeps) c.in_err-next.ensures.keeps)

pub returns-in-Ends-clause-relays : goal.returns-in-Ends-clause-relays
returns-in-Ends-clause-relays g c =
    let taken : TakesTo c.loop-count.outside c.take.new.self c.in-Ok.count c.take.new.into =
    record { takes = c.in-Ok.ensures.takes; leaves = c.in-Ok.ensures.leaves; keeps = c.in-Ok.ensures.keeps } in
    RunsOn-ends c.args.outside.now c.loop-count.outside c.take.new.self c.feed.new.outside c.args.queue.now c.args.run c.loop-count.run c.in-Ok.count c.take.new.into (Ok c.in-Ends.end) taken
    (rw c.in-Ends.is at c.in_ok-next.ensures.advance) c.loop-count.invariant

pub returns-in-Ends-clause-cause : goal.returns-in-Ends-clause-cause
returns-in-Ends-clause-cause g c =
    IsWireCause-then c.args.outside.now c.take.new.self c.feed.new.outside c.in-Ends.end
    (Keeps-then c.args.outside.now c.loop-count.outside c.take.new.self None c.loop-count.invariant.keeps c.in-Ok.ensures.keeps) (rw c.in-Ends.is at c.in_ok-next.ensures.cause)

pub returns-in-Ends-clause-keeps : goal.returns-in-Ends-clause-keeps
returns-in-Ends-clause-keeps g c =
    Keeps-then c.args.outside.now c.take.new.self c.feed.new.outside None
    (Keeps-then c.args.outside.now c.loop-count.outside c.take.new.self None c.loop-count.invariant.keeps c.in-Ok.ensures.keeps) c.in_ok-next.ensures.keeps

pub loop-count-preserved : goal.loop-count-preserved
loop-count-preserved g c =
    let taken : TakesTo c.loop-count.outside c.take.new.self c.in-Ok.count c.take.new.into =
    record { takes = c.in-Ok.ensures.takes; leaves = c.in-Ok.ensures.leaves; keeps = c.in-Ok.ensures.keeps } in
    RunsOn-next c.args.outside.now c.loop-count.outside c.take.new.self c.feed.new.outside c.args.queue.now c.args.run c.loop-count.run c.in-Goes.next c.in-Ok.count c.take.new.into taken c.in_ok-next.ensures.keeps
    (rw c.in-Goes.is at c.in_ok-next.ensures.advance) (rw c.in-Goes.is at c.in_ok-next.ensures.work) c.loop-count.invariant
