use Rattle.std.proofs.Common.{◌≡◌, ◌++◌, ◌-◌, take}
use Rattle.param_grammar.specs.Bodies.{solid}
use Rattle.param_grammar.specs.private.Marked.{tokens_of}
use Rattle.param_grammar.proofs.tokens.first_solid.Given as goal

abbrev pub invariant-loop : goal.invariant-loop
invariant-loop l = l.found.items ++ take (4 - l.counter) (solid (tokens_of l.rest)) ≡ take 4 (solid (tokens_of l.tokens))
