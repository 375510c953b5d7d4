use Rattle.std.proofs.Common.{arith}
use Rattle.param_grammar.specs.Joining.{decimal_value}
use Rattle.param_grammar.proofs.NumberLemmas.{onward_past}
use Rattle.param_grammar.proofs.numbers.number_below.Goals as goal

pub returns-in_default : goal.returns-in_default
returns-in_default c below =
    let past = onward_past c.loop-digit.number c.args.bound c.args.digits.now c.loop-digit.digit-index (decimal_value c.args.digits.now) c.loop-digit-test.true c.loop-digit.invariant c.in_default.ensures.none in
    omega (arith, past, below)
