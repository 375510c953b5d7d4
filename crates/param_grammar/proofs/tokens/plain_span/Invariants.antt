use Rattle.std.proofs.Common.{◌∷◌, length}
use Rattle.param_grammar.specs.Bodies.{solid}
use Rattle.param_grammar.specs.private.Marked.{tokens_of}
use Rattle.param_grammar.proofs.PlacingLemmas.{PlainTo}
use Rattle.param_grammar.proofs.tokens.plain_span.Given as goal

abbrev pub invariant-loop-token : goal.invariant-loop-token
invariant-loop-token l = PlainTo l.text l.first (l.first ∷ solid (tokens_of l.others)) l.end (solid (tokens_of l.rest))

abbrev pub decreases-loop-token : goal.decreases-loop-token
decreases-loop-token l = length (solid (tokens_of l.rest))
