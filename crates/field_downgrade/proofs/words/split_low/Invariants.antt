use Rattle.std.proofs.Common.{length}
use Rattle.field_downgrade.proofs.StretchLemmas.{PassesLow}
use Rattle.field_downgrade.proofs.words.split_low.Given as goal

abbrev pub invariant-loop-alloc : goal.invariant-loop-alloc
invariant-loop-alloc l = PassesLow l.body l.low l.rest

abbrev pub decreases-loop-alloc : goal.decreases-loop-alloc
decreases-loop-alloc l = length l.rest
