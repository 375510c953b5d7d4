use Rattle.std.proofs.Common.{length}
use Rattle.param_grammar.proofs.EscapeLemmas.{ReadsTo}
use Rattle.param_grammar.proofs.escapes.read_escaped.Given as goal

abbrev pub invariant-loop-rest : goal.invariant-loop-rest
invariant-loop-rest l = ReadsTo l.text l.octets l.rest

abbrev pub decreases-loop-rest : goal.decreases-loop-rest
decreases-loop-rest l = length l.rest
