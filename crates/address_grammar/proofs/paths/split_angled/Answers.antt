use Rattle.std.proofs.Common.{sym, ◌∙◌}
use Rattle.address_grammar.proofs.PathLemmas.{no_close, something_after}
use Rattle.address_grammar.proofs.paths.split_angled.Goals as goal

pub returns-in_default-split_at_mark-clause-none : goal.returns-in_default-split_at_mark-clause-none
returns-in_default-split_at_mark-clause-none c = λ before inner. no_close _ _ _ before inner c.in-Some.ensures.found c.in_default-split_at_mark.ensures.none

pub returns-then-not-are_blank-clause-none : goal.returns-then-not-are_blank-clause-none
returns-then-not-are_blank-clause-none c = λ before inner. something_after _ _ _ _ _ before inner c.in-Some.ensures.found c.in-Some-split_at_mark.ensures.found (sym c.are_blank.ensures ∙ c.if-not-are_blank.true)
