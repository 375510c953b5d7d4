use Rattle.std.proofs.lemmas.Result.{IfOk-weaker}
use Rattle.address_grammar.specs.private.ListViews.{element_value}
use Rattle.address_grammar.proofs.ListLemmas.{element_group, group_element, single_element}
use Rattle.address_grammar.proofs.WholeLists.{single_malformed}
use Rattle.address_grammar.proofs.lists.read_element.Goals as goal

pub returns-in-Some-clause-ok : goal.returns-in-Some-clause-ok
returns-in-Some-clause-ok c = IfOk-weaker c.read_group.result _ _ (λ e is. group_element _ _ _ (element_value e) c.in-Some.ensures.found is) c.read_group.ensures.ok

pub returns-in-Some-clause-malformed : goal.returns-in-Some-clause-malformed
returns-in-Some-clause-malformed c = λ e f is. c.read_group.ensures.malformed e f (element_group _ _ _ f c.in-Some.ensures.found is)

pub returns-in-None-clause-ok : goal.returns-in-None-clause-ok
returns-in-None-clause-ok c = IfOk-weaker c.read_single.result _ _ (λ e is. single_element _ (element_value e) is) c.read_single.ensures.ok

pub returns-in-None-clause-malformed : goal.returns-in-None-clause-malformed
returns-in-None-clause-malformed c = λ e. single_malformed _ c.in-None.ensures.none (c.read_single.ensures.malformed e)
