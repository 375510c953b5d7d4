use Rattle.std.proofs.Common.{get_or, ◌+◌}
use Rattle.utf8_fields.specs.Block.{raw_of}
use Rattle.field_downgrade.proofs.BlockFields.{no_field}
use Rattle.surrogate_rope.proofs.AddedFields.{in_entity}
use Rattle.surrogate_rope.proofs.BlockFields.{no_field_yet, field_next, field_done, block_done}
use Rattle.surrogate_rope.specs.private.Building.{written}
use Rattle.surrogate_rope.proofs.building.Made.push_block.Goals as goal

pub loop-field-init : goal.loop-field-init
loop-field-init c = no_field_yet c.args.msg.now c.args.entity.now c.as_slice-field-items.result.now c.args.self.now c.as_slice-field-items.ensures c.requires.stands c.requires.joined

pub push_field-requires-clause-stands : goal.push_field-requires-clause-stands
push_field-requires-clause-stands c =
    field_next c.args.msg.now c.args.entity.now c.as_slice-field-items.result.now c.loop-field.field-index no_field c.args.self.now c.loop-field.self c.loop-field-test.true c.loop-field.invariant

pub loop-field-preserved : goal.loop-field-preserved
loop-field-preserved c =
    let field = get_or c.as_slice-field-items.result.now c.loop-field.field-index no_field in
    field_done c.args.msg.now c.args.entity.now c.as_slice-field-items.result.now c.loop-field.field-index no_field c.args.self.now c.loop-field.self c.push_field.new.self c.loop-field-test.true c.loop-field.invariant
    c.in_ok-push_field.ensures.stands
    (in_entity c.args.msg.now c.args.entity.now c.in_ok-open_global.open_global (raw_of c.args.msg.now field) (written c.args.msg.now field.raw.at c.loop-field.self)
    (written c.args.msg.now (field.raw.at + field.raw.len) c.push_field.new.self) c.in_ok-open_global.ensures c.in_ok-push_field.ensures.adds)

pub returns-clause-stands : goal.returns-clause-stands
returns-clause-stands c =
    (block_done c.args.msg.now c.args.entity.now c.as_slice-field-items.result.now c.loop-field.field-index c.args.self.now c.loop-field.self c.as_slice-field-items.ensures c.loop-field-test.false c.loop-field.invariant).stands

pub returns-clause-adds : goal.returns-clause-adds
returns-clause-adds c =
    (block_done c.args.msg.now c.args.entity.now c.as_slice-field-items.result.now c.loop-field.field-index c.args.self.now c.loop-field.self c.as_slice-field-items.ensures c.loop-field-test.false c.loop-field.invariant).adds
