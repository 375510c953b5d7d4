use Rattle.std.proofs.Common.{map, arith}
use Rattle.std.proofs.lemmas.List.{map_push}
use Rattle.mime_tree.specs.Outlines.{seen_outline}
use Rattle.surrogate_rope.proofs.LoadLemmas.{entity_fits, entity_next, entity_loaded, entities_loaded}
use Rattle.surrogate_rope.proofs.storing.load_entities.Goals as goal

pub load_entity-requires : goal.load_entity-requires
load_entity-requires c =
    entity_next c.args.octets.now c.args.from c.args.count c.loop.counter c.loop.at (map seen_outline c.loop.entities.items) c.requires.0 c.loop.invariant c.requires.1 c.loop-test.true

pub loop-preserved : goal.loop-preserved
loop-preserved c =
    rw (c.in_ok-push.ensures.items, map_push seen_outline c.loop.entities.items c.load_entity.result)
    (entity_loaded c.args.octets.now c.args.from c.args.count c.loop.counter c.loop.at (map seen_outline c.loop.entities.items) (seen_outline c.load_entity.result) c.loop.invariant c.loop-test.true c.load_entity.ensures)

pub returns : goal.returns
returns c = entities_loaded c.args.octets.now c.args.from c.args.count c.loop.counter c.loop.at (map seen_outline c.loop.entities.items) c.loop.invariant c.loop-test.false

pub overflow_add-at : goal.overflow_add-at
overflow_add-at c =
    let fits = entity_fits c.args.octets.now c.loop.at
    (entity_next c.args.octets.now c.args.from c.args.count c.loop.counter c.loop.at (map seen_outline c.loop.entities.items) c.requires.0 c.loop.invariant c.requires.1 c.loop-test.true) in
    omega arith
