use Rattle.std.proofs.Common.{◌≡◌, length}
use Rattle.param_grammar.specs.Bodies.{solid}
use Rattle.param_grammar.specs.private.Marked.{tokens_of}
use Rattle.param_grammar.proofs.tokens.next_solid.Given as goal

-- none before rest is one
abbrev pub invariant-loop-token : goal.invariant-loop-token
invariant-loop-token l = solid (tokens_of l.rest) ≡ solid (tokens_of l.tokens)

abbrev pub decreases-loop-token : goal.decreases-loop-token
decreases-loop-token l = length (tokens_of l.rest)
