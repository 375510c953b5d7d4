use Rattle.std.proofs.Common.{sym, ap, ◌∷◌, ◌∙◌}
use Rattle.param_grammar.specs.Bodies.{are_quoted}
use Rattle.param_grammar.proofs.tokens.is_quoted_alone.Goals as goal

pub returns-in-Some : goal.returns-in-Some
returns-in-Some c = sym (ap (λ r. are_quoted (c.args.first ∷ r)) c.in-Some.ensures.found)

pub returns-in-None : goal.returns-in-None
returns-in-None c = c.is_quoted.ensures ∙ sym (ap (λ r. are_quoted (c.args.first ∷ r)) c.in-None.ensures.none)
