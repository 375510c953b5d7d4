use Rattle.param_grammar.proofs.PlaceLemmas.{says_plain, says_some, says_none}
use Rattle.param_grammar.proofs.contents.says_some.Goals as goal

pub returns-then-not-parts-clause-some : goal.returns-then-not-parts-clause-some
returns-then-not-parts-clause-some c e = says_plain _ _ _ c.if-not-parts.true

pub returns-in_default-clause-none : goal.returns-in_default-clause-none
returns-in_default-clause-none c e =
    says_none _ _ _ c.if-not-parts.false (rw (c.in_default.is, c.is_first.ensures, c.in_ok-content.ensures) at c.in_ok-said.ensures.none)

pub returns-clause-some : goal.returns-clause-some
returns-clause-some c e =
    says_some _ _ _ _ _ c.if-not-parts.false (rw (c.in-Some.is, c.is_first.ensures, c.in_ok-content.ensures) at c.in_ok-said.ensures.found)
