use Rattle.std.proofs.Common.{length}
use Rattle.relay_session.proofs.FeedLoop.{Feeding}
use Rattle.relay_session.proofs.running.feed.Given as goal

abbrev pub invariant-loop-rest : goal.invariant-loop-rest
invariant-loop-rest g l = Feeding l.initial.outside l.outside l.queue l.initial.run l.run l.piece l.rest

abbrev pub decreases-loop-rest : goal.decreases-loop-rest
decreases-loop-rest g l = length l.rest
