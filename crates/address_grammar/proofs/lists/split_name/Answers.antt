use Rattle.std.proofs.Common.{sym, ◌∙◌}
use Rattle.address_grammar.proofs.ListLemmas.{name_open, no_name}
use Rattle.address_grammar.proofs.lists.split_name.Goals as goal

pub returns-in_default-clause-none : goal.returns-in_default-clause-none
returns-in_default-clause-none c = no_name _ c.in_default.ensures.none

pub returns-else-lacks_mark-clause-none : goal.returns-else-lacks_mark-clause-none
returns-else-lacks_mark-clause-none c = name_open _ _ _ c.in-Some.ensures.found (sym c.lacks_mark.ensures ∙ c.if-lacks_mark.false)
