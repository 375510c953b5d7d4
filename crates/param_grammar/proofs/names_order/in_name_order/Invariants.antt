use Rattle.std.proofs.Common.{◌≡◌}
use Rattle.param_grammar.specs.private.Ordered.{numbers_below}
use Rattle.param_grammar.proofs.names_order.in_name_order.Given as goal

abbrev pub invariant-loop-number : goal.invariant-loop-number
invariant-loop-number l = l.order.items ≡ numbers_below l.number
