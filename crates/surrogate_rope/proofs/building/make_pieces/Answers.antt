use Rattle.std.proofs.Common.{rules, refl}
use Rattle.surrogate_rope.proofs.AddedBlocks.{block_stands}
use Rattle.surrogate_rope.proofs.MadePieces.{nothing_made, block_next, block_made, last_room, all_pieces}
use Rattle.surrogate_rope.proofs.building.make_pieces.Goals as goal

pub loop-entity-init : goal.loop-entity-init
loop-entity-init c = rw c.in_ok-ends.ensures.items (nothing_made c.args.msg.now c.args.tree.now.entities c.as_slice-entity-items.result.now _ c.requires c.as_slice-entity-items.ensures c.in_ok-with_room.ensures)

pub push_entity-requires-clause-stands : goal.push_entity-requires-clause-stands
push_entity-requires-clause-stands c =
    block_next c.args.msg.now c.as_slice-entity-items.result.now c.loop-entity.entity-index c.loop-entity.made c.loop-entity.ends.items c.entity-item.result c.loop-entity-test.true c.entity-item.is c.loop-entity.invariant

pub push_entity-requires-clause-within : goal.push_entity-requires-clause-within
push_entity-requires-clause-within c =
    (block_stands c.args.msg.now c.args.tree.now.entities c.as_slice-entity-items.result.now c.loop-entity.entity-index c.entity-item.result c.requires c.as_slice-entity-items.ensures c.loop-entity-test.true c.entity-item.is).fields

pub push_entity-requires-clause-joined : goal.push_entity-requires-clause-joined
push_entity-requires-clause-joined c =
    (block_stands c.args.msg.now c.args.tree.now.entities c.as_slice-entity-items.result.now c.loop-entity.entity-index c.entity-item.result c.requires c.as_slice-entity-items.ensures c.loop-entity-test.true c.entity-item.is).joined

pub put_kept-requires : goal.put_kept-requires
put_kept-requires c =
    last_room c.args.msg.now c.as_slice-entity-items.result.now c.loop-entity.entity-index c.loop-entity.made c.loop-entity.ends.items c.loop-entity.invariant (search rules)

pub loop-entity-preserved : goal.loop-entity-preserved
loop-entity-preserved c =
    let adds = c.in_ok-push_entity.ensures in
    rw adds.ends (block_made c.args.msg.now c.as_slice-entity-items.result.now c.loop-entity.entity-index c.loop-entity.made c.push_entity.new.self c.loop-entity.ends.items c.entity-item.result _ c.loop-entity-test.true
    c.entity-item.is c.loop-entity.invariant adds.stands adds.adds refl)

pub returns : goal.returns
returns c =
    all_pieces c.args.msg.now c.args.tree.now.entities c.as_slice-entity-items.result.now c.loop-entity.entity-index c.loop-entity.made c.put_kept.new.self c.loop-entity.ends.items c.as_slice-entity-items.ensures
    c.loop-entity-test.false c.loop-entity.invariant c.in_ok-put_kept.ensures
