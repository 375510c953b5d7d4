use Rattle.std.proofs.Common.{sym, ◌∙◌}
use Rattle.std.proofs.lemmas.Result.{IfOk-weaker}
use Rattle.std.proofs.lemmas.Bool.{both_ways}
use Rattle.address_lists.proofs.WritableTokens.{before_can}
use Rattle.address_grammar.proofs.WholeLists.{group_unclosed, group_followed, group_members}
use Rattle.address_lists.proofs.ServedLists.{group_served, group_unnamed}
use Rattle.address_lists.proofs.members.is_served_group.Goals as goal

pub returns-in_default-clause-malformed : goal.returns-in_default-clause-malformed
returns-in_default-clause-malformed c = λ _. group_unclosed _ _ c.in_default.ensures.none

pub returns-then-not-are_blank-clause-malformed : goal.returns-then-not-are_blank-clause-malformed
returns-then-not-are_blank-clause-malformed c = λ _. group_followed _ _ _ _ c.in-Some.ensures.found (sym c.are_blank.ensures ∙ c.if-not-are_blank.true)

pub returns-then-not-is_phrase-clause-malformed : goal.returns-then-not-is_phrase-clause-malformed
returns-then-not-is_phrase-clause-malformed c = λ _. group_unnamed _ _ (λ is. both_ways _ c.if-not-is_phrase.true (c.is_phrase.ensures.1 is))

pub are_served_members-requires : goal.are_served_members-requires
are_served_members-requires c = let s = c.in-Some.ensures.found in before_can _ _ _ s.at s.whole c.requires

pub returns-clause-ok : goal.returns-clause-ok
returns-clause-ok c = IfOk-weaker c.are_served_members.result _ _
    (λ is s. group_served _ _ _ _ is c.in-Some.ensures.found (sym c.are_blank.ensures ∙ c.if-not-are_blank.false) (c.is_phrase.ensures.0 c.if-not-is_phrase.false) s) c.are_served_members.ensures.ok

pub returns-clause-malformed : goal.returns-clause-malformed
returns-clause-malformed c = λ e. group_members _ _ _ _ c.in-Some.ensures.found (c.are_served_members.ensures.malformed e)
