use Rattle.std.proofs.Common.{length}
use Rattle.utf8_fields.proofs.TrimLemmas.{TrimsTo}
use Rattle.utf8_fields.proofs.values.trim_end.Given as goal

abbrev pub invariant-loop-last : goal.invariant-loop-last
invariant-loop-last l = TrimsTo l.octets l.rest

abbrev pub decreases-loop-last : goal.decreases-loop-last
decreases-loop-last l = length l.rest
