use Rattle.surrogate_rope.proofs.BlockFields.{IsBlockSoFar}
use Rattle.surrogate_rope.proofs.building.Made.push_block.Given as goal

abbrev pub invariant-loop-field : goal.invariant-loop-field
invariant-loop-field l = IsBlockSoFar l.msg l.entity l.field-items l.field-index l.fn.self l.self
