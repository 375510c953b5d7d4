use Rattle.std.specs.Prelude.{codes}
use Rattle.param_2231.proofs.GivenLemmas.{PiecesLeft}
use Rattle.param_2231.proofs.rewriting.push_all_given.Given as goal

-- what the pieces so far give was put
abbrev pub invariant-loop-number : goal.invariant-loop-number
invariant-loop-number l = PiecesLeft (codes ";") l.text l.placed l.number l.fn.made l.made
