use Rattle.std.proofs.Common.{length}
use Rattle.param_grammar.specs.private.Marked.{tokens_of}
use Rattle.param_grammar.proofs.MarkedLemmas.{PassesTo}
use Rattle.param_grammar.proofs.tokens.split_section.Given as goal

abbrev pub invariant-loop-token : goal.invariant-loop-token
invariant-loop-token l = PassesTo l.text (tokens_of l.tokens) (tokens_of l.rest)

abbrev pub decreases-loop-token : goal.decreases-loop-token
decreases-loop-token l = length (tokens_of l.rest)
