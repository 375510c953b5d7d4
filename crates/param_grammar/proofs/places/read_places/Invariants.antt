use Rattle.std.proofs.Common.{length}
use Rattle.param_grammar.specs.private.Marked.{tokens_of}
use Rattle.param_grammar.proofs.PlaceLemmas.{PlacesGo}
use Rattle.param_grammar.proofs.places.read_places.Given as goal

abbrev pub invariant-loop-rest : goal.invariant-loop-rest
invariant-loop-rest l = PlacesGo l.text (tokens_of l.tokens) l.places.items (tokens_of l.rest)

abbrev pub decreases-loop-rest : goal.decreases-loop-rest
decreases-loop-rest l = length (tokens_of l.rest)
