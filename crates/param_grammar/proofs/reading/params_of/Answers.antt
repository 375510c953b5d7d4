use Rattle.std.proofs.Common.{map, refl, arith}
use Rattle.param_grammar.specs.Joining.{param_value}
use Rattle.param_grammar.proofs.ParamLemmas.{ParamsGo-turn, ParamsGo-end, placed_count}
use Rattle.param_grammar.proofs.reading.params_of.Goals as goal

pub loop-number-init : goal.loop-number-init
loop-number-init c pieces has = rw (c.new-params.ensures.items) refl

pub loop-number-preserved : goal.loop-number-preserved
loop-number-preserved c pieces has =
    let count = placed_count c.args.text.now c.args.placed.now pieces has in
    ParamsGo-turn pieces c.loop-number.number (map param_value c.loop-number.params.items) (map param_value c.push_param.new.params.items)
    (omega (arith, count, c.loop-number-test.true, c.args.placed.now.places.ok)) (c.in_ok-push_param.ensures pieces has) (c.loop-number.invariant pieces has)

pub returns : goal.returns
returns c pieces has =
    let count = placed_count c.args.text.now c.args.placed.now pieces has in
    ParamsGo-end pieces c.loop-number.number (map param_value c.loop-number.params.items) (omega (arith, count, c.loop-number-test.false, c.args.placed.now.places.ok)) (c.loop-number.invariant pieces has)
