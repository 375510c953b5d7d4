use Rattle.std.proofs.Common.{sym, ◌∙◌}
use Rattle.std.proofs.lemmas.Result.{IfOk-weaker}
use Rattle.address_grammar.proofs.WholeLists.{members_malformed}
use Rattle.address_lists.proofs.ServedLists.{no_members_served, members_served}
use Rattle.address_lists.proofs.members.are_served_members.Goals as goal

pub returns-then-are_blank-clause-ok : goal.returns-then-are_blank-clause-ok
returns-then-are_blank-clause-ok c = no_members_served _ (sym c.are_blank.ensures ∙ c.if-are_blank.true)

pub returns-clause-ok : goal.returns-clause-ok
returns-clause-ok c = IfOk-weaker c.are_served.result _ _ (λ is s. members_served _ is s) c.are_served.ensures.ok

pub returns-clause-malformed : goal.returns-clause-malformed
returns-clause-malformed c = λ e. members_malformed _ (sym c.are_blank.ensures ∙ c.if-are_blank.false) (c.are_served.ensures.malformed e)
