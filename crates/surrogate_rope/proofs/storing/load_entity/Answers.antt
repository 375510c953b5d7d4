use Rattle.std.proofs.Common.{refl, arith, get_or, ◌+◌}
use Rattle.surrogate_rope.proofs.LoadLemmas.{entity_fits, depth_fits, entity_is}
use Rattle.surrogate_rope.proofs.storing.load_entity.Goals as goal

pub number_at-requires : goal.number_at-requires
number_at-requires c = let fits = entity_fits c.args.octets.now c.args.at c.requires in omega arith

pub number_at-requires-2 : goal.number_at-requires-2
number_at-requires-2 c = let fits = entity_fits c.args.octets.now c.args.at c.requires in omega arith

pub number_at-requires-3 : goal.number_at-requires-3
number_at-requires-3 c = let fits = entity_fits c.args.octets.now c.args.at c.requires in omega arith

pub number_at-requires-4 : goal.number_at-requires-4
number_at-requires-4 c = let fits = entity_fits c.args.octets.now c.args.at c.requires in omega arith

pub number_at-requires-5 : goal.number_at-requires-5
number_at-requires-5 c = let fits = entity_fits c.args.octets.now c.args.at c.requires in omega arith

pub bounds-octets-at : goal.bounds-octets-at
bounds-octets-at c = let fits = entity_fits c.args.octets.now c.args.at c.requires in omega arith

pub overflow_cast-result : goal.overflow_cast-result
overflow_cast-result c = let fits = depth_fits c.args.octets.now c.args.at c.number_at-2.result c.requires c.number_at-2.ensures in omega arith

pub returns : goal.returns
returns c =
    entity_is c.args.octets.now c.args.at c.number_at.result c.number_at-2.result c.number_at-3.result c.number_at-4.result c.number_at-5.result (get_or c.args.octets.now (c.args.at + 40) 0) c.parent_of.result c.shape_of.result
    c.number_at.ensures c.number_at-2.ensures c.number_at-3.ensures c.number_at-4.ensures c.number_at-5.ensures refl c.parent_of.ensures c.shape_of.ensures
