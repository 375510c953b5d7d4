use Rattle.std.proofs.Common.{subst, arith}
use Rattle.encoded_words.specs.private.Values.{value_of}
use Rattle.encoded_words.specs.Folding.{AddsLines}
use Rattle.encoded_words.specs.Written.{WritesUnit}
use Rattle.encoded_words.proofs.AddedUnits.{writes_turn, writes_all}
use Rattle.encoded_words.proofs.writing.write_units.Goals as goal

pub loop-unit-preserved : goal.loop-unit-preserved
loop-unit-preserved c =
    writes_turn c.args.units.now c.loop-unit.unit-index c.unit-item.result c.args.made.now c.loop-unit.made c.push_unit.new.made c.loop-unit-test.true c.loop-unit.invariant
    (subst (λ u. AddsLines (WritesUnit (value_of u)) c.loop-unit.made c.push_unit.new.made) c.unit-item.is c.in_ok-push_unit.ensures)

pub returns : goal.returns
returns c = writes_all c.args.units.now c.loop-unit.unit-index _ _ (omega arith) c.loop-unit.invariant
