use Rattle.std.proofs.Common.{length}
use Rattle.field_downgrade.proofs.BodyWriting.{WritesSoFar}
use Rattle.field_downgrade.proofs.segments.write_body.Given as goal

abbrev pub invariant-loop-copied : goal.invariant-loop-copied
invariant-loop-copied l = WritesSoFar l.fn.body l.fn.made l.made l.copied l.rest

abbrev pub decreases-loop-copied : goal.decreases-loop-copied
decreases-loop-copied l = length l.rest
