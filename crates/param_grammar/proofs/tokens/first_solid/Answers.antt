use Rattle.std.proofs.Common.{◌++◌, ◌-◌, ◌+◌, take, ap, ◌∙◌}
use Rattle.param_grammar.specs.Bodies.{solid}
use Rattle.param_grammar.specs.private.Marked.{tokens_of}
use Rattle.param_grammar.proofs.MarkedLemmas.{few_more}
use Rattle.param_grammar.proofs.tokens.first_solid.Goals as goal

pub loop-preserved : goal.loop-preserved
loop-preserved c =
    ap (λ f. f ++ take (4 - (c.loop.counter + 1)) (solid (tokens_of c.in-Some.following))) c.in_ok-push.ensures.items
    ∙ few_more c.loop.found.items _ (solid (tokens_of c.loop.rest)) (solid (tokens_of c.in-Some.following)) c.in-Some.token c.loop.counter c.loop-test.true c.in-Some.ensures.found c.loop.invariant
