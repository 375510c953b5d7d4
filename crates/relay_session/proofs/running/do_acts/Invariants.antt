use Rattle.std.proofs.Common.{take}
use Rattle.relay_session.proofs.ActsLemmas.{DoneUpTo}
use Rattle.relay_session.proofs.running.do_acts.Given as goal

abbrev pub invariant-loop-act : goal.invariant-loop-act
invariant-loop-act g l = DoneUpTo l.initial.outside l.outside l.queue (take l.act-index l.acts) l.initial.tally l.tally
