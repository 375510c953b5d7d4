use Rattle.std.proofs.Common.{length}
use Rattle.field_downgrade.proofs.StretchLemmas.{PassesCore}
use Rattle.field_downgrade.proofs.words.split_core.Given as goal

abbrev pub invariant-loop-rest : goal.invariant-loop-rest
invariant-loop-rest l = PassesCore l.body l.core l.after_core l.rest

abbrev pub decreases-loop-rest : goal.decreases-loop-rest
decreases-loop-rest l = length l.rest
