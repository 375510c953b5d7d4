use Rattle.std.specs.Iterator.Adapters.{zip_first, zip_second}
use Rattle.std.specs.Slice.Iter.{iter_rest}
use Rattle.relay_session.proofs.TakingOff.{IsTakingOff}
use Rattle.relay_session.proofs.settling.settle_all.Given as goal

abbrev pub invariant-loop-one : goal.invariant-loop-one
invariant-loop-one g l = record {
  can_next : (goal.iterator-loop-one g).can_next l.one-iterator;
  finite : (goal.iterator-loop-one g).is_finite l.one-iterator;
  taking : IsTakingOff l.fn.outside l.outside l.queued.entry l.queued.unsettled (iter_rest (zip_first l.one-iterator)) l.outcomes (iter_rest (zip_second l.one-iterator)) l.fn.tally l.tally;
}
