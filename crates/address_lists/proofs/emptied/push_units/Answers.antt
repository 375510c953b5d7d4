use Rattle.std.proofs.Common.{arith}
use Rattle.std.proofs.lemmas.List.{take_all}
use Rattle.encoded_words.specs.private.Values.{value_of}
use Rattle.encoded_words.specs.Written.{IsWritable}
use Rattle.address_lists.proofs.AddedPieces.{item_at, items_more}
use Rattle.address_lists.proofs.UnitsOnto.{takes_none, takes_append}
use Rattle.address_lists.proofs.emptied.push_units.Goals as goal

pub loop-unit-init : goal.loop-unit-init
loop-unit-init c = takes_none _

pub push_unit-requires : goal.push_unit-requires
push_unit-requires c = item_at IsWritable value_of c.args.said.now c.loop-unit.unit-index _ c.unit-item.is c.requires c.loop-unit-test.true

pub loop-unit-preserved : goal.loop-unit-preserved
loop-unit-preserved c =
    rw (items_more value_of c.args.said.now c.loop-unit.unit-index _ c.unit-item.is c.loop-unit-test.true) (takes_append c.args.units.now c.loop-unit.units _ _ _ c.loop-unit.invariant c.in_ok-push_unit.ensures)

pub returns : goal.returns
returns c = rw (take_all c.loop-unit.unit-index c.args.said.now (omega arith)) at c.loop-unit.invariant
