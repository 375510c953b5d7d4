use Rattle.std.proofs.Common.{sym}
use Rattle.param_grammar.specs.private.Marked.{tokens_of}
use Rattle.param_grammar.proofs.MarkedLemmas.{filled_some, filled_none}
use Rattle.param_grammar.proofs.tokens.is_filled.Goals as goal

pub returns-in-Some : goal.returns-in-Some
returns-in-Some c = sym (filled_some (tokens_of c.args.tokens) _ _ c.in-Some.ensures.found)

pub returns-in-None : goal.returns-in-None
returns-in-None c = sym (filled_none (tokens_of c.args.tokens) c.in-None.ensures.none)
