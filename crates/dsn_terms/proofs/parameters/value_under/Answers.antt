use Rattle.std.proofs.Common.{sym, ap, ◌∙◌}
use Rattle.dsn_terms.specs.Parameters.{behind}
use Rattle.dsn_terms.proofs.ParameterFacts.{value-found, value-next, value-nowhere}
use Rattle.dsn_terms.proofs.parameters.value_under.Goals as goal

pub returns-then-is_some : goal.returns-then-is_some
returns-then-is_some c =
    value-found c.args.keyword.now c.args.words.now c.loop-word.word-index c.word-item.result c.behind-value.result c.loop-word.invariant c.loop-word-test.true c.word-item.is
    (c.behind-value.ensures ∙ ap (behind c.args.keyword.now) c.as_slice.ensures) (sym c.is_some.ensures ∙ c.if-is_some.true)

pub loop-word-preserved : goal.loop-word-preserved
loop-word-preserved c =
    value-next c.args.keyword.now c.args.words.now c.loop-word.word-index c.word-item.result c.behind-value.result c.loop-word.invariant c.loop-word-test.true c.word-item.is
    (c.behind-value.ensures ∙ ap (behind c.args.keyword.now) c.as_slice.ensures) (sym c.is_some.ensures ∙ c.if-is_some.false)

pub returns : goal.returns
returns c = value-nowhere c.args.keyword.now c.args.words.now c.loop-word.word-index c.loop-word.invariant c.loop-word-test.false
