use Rattle.std.proofs.Common.{◌≡◌, map, take}
use Rattle.mime_tree.specs.Outlines.{outlines_of, seen_outline}
use Rattle.mime_tree.specs.Rewriting.{moved_outline}
use Rattle.surrogate_rope.specs.private.Moving.{moved_by}
use Rattle.surrogate_rope.proofs.moving.moved_outlines.Given as goal

abbrev pub invariant-loop-entity : goal.invariant-loop-entity
invariant-loop-entity l = map seen_outline l.outlines.items ≡ map (moved_outline (moved_by 0 0 l.ends)) (outlines_of (take l.entity-index l.entities))
