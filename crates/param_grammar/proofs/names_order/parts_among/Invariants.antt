use Rattle.std.proofs.Common.{◌≡◌, filter, take}
use Rattle.param_grammar.specs.private.Ordered.{numbered_in}
use Rattle.param_grammar.proofs.names_order.parts_among.Given as goal

abbrev pub invariant-loop-number : goal.invariant-loop-number
invariant-loop-number l = l.parts.items ≡ filter (numbered_in l.named.places.now) (take l.number-index l.run)
