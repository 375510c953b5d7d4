use Rattle.std.proofs.Common.{◌≡◌, ◌++◌, drop}
use Rattle.param_grammar.specs.Escapes.{escaped}
use Rattle.param_grammar.proofs.escapes.push_escaped.Given as goal

abbrev pub invariant-loop-octet : goal.invariant-loop-octet
invariant-loop-octet l = l.made ++ escaped (drop l.octet-index l.octets) ≡ l.initial.made ++ escaped l.octets
