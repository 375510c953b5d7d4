use Rattle.std.proofs.Common.{map, take}
use Rattle.mime_tree.specs.Outlines.{seen_outline}
use Rattle.surrogate_rope.specs.private.Storing.{StoresEntities}
use Rattle.surrogate_rope.proofs.storing.store_entities.Given as goal

abbrev pub invariant-loop-entity : goal.invariant-loop-entity
invariant-loop-entity l = StoresEntities l.fn.stored l.stored (map seen_outline (take l.entity-index l.entities))
