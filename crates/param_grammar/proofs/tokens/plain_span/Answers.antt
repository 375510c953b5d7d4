use Rattle.std.proofs.Common.{sym, ◌∙◌}
use Rattle.param_grammar.proofs.PlacingLemmas.{PlainTo-more, not-are_plain}
use Rattle.param_grammar.proofs.tokens.plain_span.Goals as goal

pub loop-token-preserved : goal.loop-token-preserved
loop-token-preserved c = PlainTo-more c.args.text.now c.args.first c.in-Some.token _ _ _ _ c.loop-token.invariant c.in-Some.ensures.found (sym c.goes_on.ensures ∙ c.if-not-goes_on.false)

pub returns-then-not-goes_on-clause-none : goal.returns-then-not-goes_on-clause-none
returns-then-not-goes_on-clause-none c =
    not-are_plain c.args.text.now c.args.first c.in-Some.token _ _ _ _ c.loop-token.invariant c.in-Some.ensures.found (sym c.goes_on.ensures ∙ c.if-not-goes_on.true)
