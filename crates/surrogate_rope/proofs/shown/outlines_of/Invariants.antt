use Rattle.std.proofs.Common.{◌≡◌, ◌++◌, map, drop}
use Rattle.mime_tree.specs.Outlines.{outlines_of}
use Rattle.surrogate_rope.specs.Served.{seen_outline}
use Rattle.surrogate_rope.proofs.shown.outlines_of.Given as goal

abbrev pub invariant-loop-entity : goal.invariant-loop-entity
invariant-loop-entity l = map seen_outline l.made.items ++ outlines_of (drop l.entity-index l.entities) ≡ outlines_of l.entities
