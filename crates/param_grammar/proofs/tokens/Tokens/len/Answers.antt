use Rattle.std.proofs.Common.{sym}
use Rattle.param_grammar.proofs.MarkedLemmas.{tokens_in-length}
use Rattle.param_grammar.proofs.tokens.Tokens.len.Goals as goal

pub returns : goal.returns
returns c = sym (tokens_in-length c.args.self.end c.args.self.at c.args.self.marks.now)
