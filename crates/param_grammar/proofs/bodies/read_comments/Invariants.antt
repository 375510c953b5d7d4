use Rattle.std.proofs.Common.{length}
use Rattle.param_grammar.specs.private.Marked.{tokens_of}
use Rattle.param_grammar.proofs.SectionLemmas.{CommentsGo}
use Rattle.param_grammar.proofs.bodies.read_comments.Given as goal

abbrev pub invariant-loop-token : goal.invariant-loop-token
invariant-loop-token l = CommentsGo l.text (tokens_of l.tokens) l.comments.items (tokens_of l.rest)

abbrev pub decreases-loop-token : goal.decreases-loop-token
decreases-loop-token l = length (tokens_of l.rest)
