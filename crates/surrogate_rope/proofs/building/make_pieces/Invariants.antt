use Rattle.surrogate_rope.proofs.MadePieces.{IsMadeUpTo}
use Rattle.surrogate_rope.proofs.building.make_pieces.Given as goal

abbrev pub invariant-loop-entity : goal.invariant-loop-entity
invariant-loop-entity l = IsMadeUpTo l.msg l.entity-items l.entity-index l.made l.ends.items
