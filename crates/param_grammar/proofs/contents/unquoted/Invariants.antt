use Rattle.std.proofs.Common.{◌≡◌, ◌++◌, length}
use Rattle.param_grammar.specs.Bodies.{unquoted}
use Rattle.param_grammar.proofs.contents.unquoted.Given as goal

abbrev pub invariant-loop-rest : goal.invariant-loop-rest
invariant-loop-rest l = l.made ++ unquoted l.rest ≡ unquoted l.octets

abbrev pub decreases-loop-rest : goal.decreases-loop-rest
decreases-loop-rest l = length l.rest
