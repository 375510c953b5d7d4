use Rattle.std.proofs.Common.{map}
use Rattle.mime_tree.specs.Outlines.{seen_outline}
use Rattle.surrogate_rope.proofs.LoadLemmas.{EntitiesLoaded}
use Rattle.surrogate_rope.proofs.storing.load_entities.Given as goal

abbrev pub invariant-loop : goal.invariant-loop
invariant-loop l = EntitiesLoaded l.octets l.from l.count l.counter (map seen_outline l.entities.items) l.at
