use Rattle.std.proofs.Common.{◌≤◌, ap, ◌∙◌, subst}
use Rattle.param_grammar.specs.private.Marked.{tokens_in}
use Rattle.param_grammar.proofs.MarkedLemmas.{tokens_in-length, tokens_in-take}
use Rattle.param_grammar.proofs.tokens.Tokens.front.Goals as goal

pub split_at-requires : goal.split_at-requires
split_at-requires c = subst (λ n. c.args.count ≤ n) (tokens_in-length c.args.self.end c.args.self.at c.args.self.marks.now) c.requires

pub returns : goal.returns
returns c = ap (tokens_in c.args.self.end c.args.self.at) c.split_at.ensures.front ∙ tokens_in-take c.args.count c.args.self.end c.args.self.at c.args.self.marks.now
