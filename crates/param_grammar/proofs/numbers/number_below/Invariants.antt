use Rattle.std.proofs.Common.{◌≡◌, drop}
use Rattle.param_grammar.specs.Joining.{decimal_onward, decimal_value}
use Rattle.param_grammar.proofs.numbers.number_below.Given as goal

abbrev pub invariant-loop-digit : goal.invariant-loop-digit
invariant-loop-digit l = decimal_onward l.number (drop l.digit-index l.digits) ≡ decimal_value l.digits
