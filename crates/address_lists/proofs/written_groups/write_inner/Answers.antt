use Rattle.std.proofs.Common.{sym, ◌∙◌}
use Rattle.std.proofs.lemmas.Result.{on_ok_weaker}
use Rattle.address_lists.proofs.KeptGroups.{blank_inner, some_inner, inner_mailboxes}
use Rattle.address_lists.proofs.written_groups.write_inner.Goals as goal

pub write_comments-requires : goal.write_comments-requires
write_comments-requires c = c.requires.writable.comments

pub returns-then-are_blank : goal.returns-then-are_blank
returns-then-are_blank c = on_ok_weaker c.write_comments.result (λ a. blank_inner _ _ _ (sym c.are_blank.ensures ∙ c.if-are_blank.true) a) c.write_comments.ensures

pub write_members-requires-clause-members : goal.write_members-requires-clause-members
write_members-requires-clause-members c = inner_mailboxes _ (sym c.are_blank.ensures ∙ c.if-are_blank.false) c.requires.members

pub returns : goal.returns
returns c = on_ok_weaker c.write_members.result (λ a. some_inner _ _ _ (sym c.are_blank.ensures ∙ c.if-are_blank.false) a) c.write_members.ensures
