use Rattle.std.proofs.Common.{map, take, get_or, subst}
use Rattle.std.proofs.lemmas.List.{map_more, take_all}
use Rattle.mime_tree.specs.Outlines.{seen_outline}
use Rattle.surrogate_rope.specs.private.Storing.{StoresEntities}
use Rattle.surrogate_rope.proofs.StoredLemmas.{no_outline, no_entity_stored, entity_stored, nth_parent}
use Rattle.surrogate_rope.proofs.storing.store_entities.Goals as goal

pub loop-entity-init : goal.loop-entity-init
loop-entity-init c = no_entity_stored c.args.stored.now

pub loop-entity-preserved : goal.loop-entity-preserved
loop-entity-preserved c =
    rw (map_more seen_outline c.args.entities.now c.loop-entity.entity-index no_outline c.loop-entity-test.true)
    (entity_stored c.args.stored.now c.loop-entity.stored c.store_entity.new.stored (map seen_outline (take c.loop-entity.entity-index c.args.entities.now))
    (seen_outline (get_or c.args.entities.now c.loop-entity.entity-index no_outline)) c.loop-entity.invariant c.in_ok-store_entity.ensures)

pub returns : goal.returns
returns c =
    subst (λ entities. StoresEntities c.args.stored.now c.loop-entity.stored (map seen_outline entities)) (take_all c.loop-entity.entity-index c.args.entities.now c.loop-entity-test.false) c.loop-entity.invariant

pub store_entity-requires : goal.store_entity-requires
store_entity-requires c = nth_parent c.args.entities.now c.loop-entity.entity-index no_outline c.requires c.loop-entity-test.true
