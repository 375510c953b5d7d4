use Rattle.std.proofs.Common.{sym, subst}
use Rattle.std.proofs.lemmas.Result.{err_from_is_err_and}
use Rattle.relay_session.proofs.ReplyTaken.{ending, ending_done, going, going_done, stopping}
use Rattle.relay_session.proofs.RunEnds.{memory_ends}
use Rattle.relay_session.proofs.running.take_reply.Goals as goal

pub returns-in_err-turn_after-clause-advance : goal.returns-in_err-turn_after-clause-advance
returns-in_err-turn_after-clause-advance g c = λ path_of reads before bag rest same running.
    let failed = err_from_is_err_and c.from_residual.result c.from_residual.ensures.1 in
    rw (failed.1, failed.2) (memory_ends path_of before c.args.outside.now bag c.args.run _ running)

pub returns-in-Stops-clause-advance : goal.returns-in-Stops-clause-advance
returns-in-Stops-clause-advance g c =
    rw c.end.ensures (stopping c.args.outside.now c.args.queue.now c.args.run c.args.octets c.requires.anew (rw (c.as_slice.ensures, c.in-Stops.is) at c.in_ok-turn_after.ensures))

pub all_done-done-requires-clause-within : goal.all_done-done-requires-clause-within
all_done-done-requires-clause-within g c = (going_done c.args.outside.now c.args.queue.now c.args.run c.args.octets c.in-Goes.client c.in-Goes.acts c.requires.work (rw (c.as_slice.ensures, c.in-Goes.is) at c.in_ok-turn_after.ensures)).within

pub all_done-done-requires-clause-order : goal.all_done-done-requires-clause-order
all_done-done-requires-clause-order g c = (going_done c.args.outside.now c.args.queue.now c.args.run c.args.octets c.in-Goes.client c.in-Goes.acts c.requires.work (rw (c.as_slice.ensures, c.in-Goes.is) at c.in_ok-turn_after.ensures)).order

pub all_done-done-requires-clause-room : goal.all_done-done-requires-clause-room
all_done-done-requires-clause-room g c = (going_done c.args.outside.now c.args.queue.now c.args.run c.args.octets c.in-Goes.client c.in-Goes.acts c.requires.work (rw (c.as_slice.ensures, c.in-Goes.is) at c.in_ok-turn_after.ensures)).room

pub all_done-done-requires-in-Ends-clause-within : goal.all_done-done-requires-in-Ends-clause-within
all_done-done-requires-in-Ends-clause-within g c = (ending_done c.args.outside.now c.args.queue.now c.args.run c.args.octets c.in-Ends.acts c.requires.work (rw (c.as_slice.ensures, c.in-Ends.is) at c.in_ok-turn_after.ensures)).within

pub all_done-done-requires-in-Ends-clause-order : goal.all_done-done-requires-in-Ends-clause-order
all_done-done-requires-in-Ends-clause-order g c = (ending_done c.args.outside.now c.args.queue.now c.args.run c.args.octets c.in-Ends.acts c.requires.work (rw (c.as_slice.ensures, c.in-Ends.is) at c.in_ok-turn_after.ensures)).order

pub all_done-done-requires-in-Ends-clause-room : goal.all_done-done-requires-in-Ends-clause-room
all_done-done-requires-in-Ends-clause-room g c = (ending_done c.args.outside.now c.args.queue.now c.args.run c.args.octets c.in-Ends.acts c.requires.work (rw (c.as_slice.ensures, c.in-Ends.is) at c.in_ok-turn_after.ensures)).room

pub returns-in-Goes-clause-advance : goal.returns-in-Goes-clause-advance
returns-in-Goes-clause-advance g c =
    rw c.go_on.ensures (going c.args.outside.now c.all_done-done.new.outside c.args.queue.now c.args.run c.args.octets c.in-Goes.client c.in-Goes.acts c.all_done-done.new.tally c.all_done-done.result c.requires.anew
    (rw (c.as_slice.ensures, c.in-Goes.is) at c.in_ok-turn_after.ensures) c.all_done-done.ensures.done).advance_is

pub returns-in-Goes-clause-work : goal.returns-in-Goes-clause-work
returns-in-Goes-clause-work g c =
    rw c.go_on.ensures (going c.args.outside.now c.all_done-done.new.outside c.args.queue.now c.args.run c.args.octets c.in-Goes.client c.in-Goes.acts c.all_done-done.new.tally c.all_done-done.result c.requires.anew
    (rw (c.as_slice.ensures, c.in-Goes.is) at c.in_ok-turn_after.ensures) c.all_done-done.ensures.done).work

pub returns-in-Goes-clause-short : goal.returns-in-Goes-clause-short
returns-in-Goes-clause-short g c =
    rw c.go_on.ensures (going c.args.outside.now c.all_done-done.new.outside c.args.queue.now c.args.run c.args.octets c.in-Goes.client c.in-Goes.acts c.all_done-done.new.tally c.all_done-done.result c.requires.anew
    (rw (c.as_slice.ensures, c.in-Goes.is) at c.in_ok-turn_after.ensures) c.all_done-done.ensures.done).short

pub returns-in-Goes-clause-cause : goal.returns-in-Goes-clause-cause
returns-in-Goes-clause-cause g c =
    rw c.go_on.ensures (going c.args.outside.now c.all_done-done.new.outside c.args.queue.now c.args.run c.args.octets c.in-Goes.client c.in-Goes.acts c.all_done-done.new.tally c.all_done-done.result c.requires.anew
    (rw (c.as_slice.ensures, c.in-Goes.is) at c.in_ok-turn_after.ensures) c.all_done-done.ensures.done).wire

pub returns-in-Goes-clause-keeps : goal.returns-in-Goes-clause-keeps
returns-in-Goes-clause-keeps g c =
    rw c.go_on.ensures (going c.args.outside.now c.all_done-done.new.outside c.args.queue.now c.args.run c.args.octets c.in-Goes.client c.in-Goes.acts c.all_done-done.new.tally c.all_done-done.result c.requires.anew
    (rw (c.as_slice.ensures, c.in-Goes.is) at c.in_ok-turn_after.ensures) c.all_done-done.ensures.done).keeps

pub returns-in-Ends-clause-advance : goal.returns-in-Ends-clause-advance
returns-in-Ends-clause-advance g c =
    rw c.end_with.ensures (ending c.args.outside.now c.all_done-done-in-Ends.new.outside c.args.queue.now c.args.run c.args.octets c.in-Ends.acts c.all_done-done-in-Ends.new.tally c.all_done-done-in-Ends.result c.requires.anew
    (rw (c.as_slice.ensures, c.in-Ends.is) at c.in_ok-turn_after.ensures) c.all_done-done-in-Ends.ensures.done).advance_is

pub returns-in-Ends-clause-keeps : goal.returns-in-Ends-clause-keeps
returns-in-Ends-clause-keeps g c =
    rw c.end_with.ensures (ending c.args.outside.now c.all_done-done-in-Ends.new.outside c.args.queue.now c.args.run c.args.octets c.in-Ends.acts c.all_done-done-in-Ends.new.tally c.all_done-done-in-Ends.result c.requires.anew
    (rw (c.as_slice.ensures, c.in-Ends.is) at c.in_ok-turn_after.ensures) c.all_done-done-in-Ends.ensures.done).keeps
