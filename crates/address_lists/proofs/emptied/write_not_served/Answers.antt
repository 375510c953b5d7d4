use Rattle.std.proofs.lemmas.Result.{on_ok_weaker}
use Rattle.address_lists.proofs.ServedMailboxes.{emptied_mailbox}
use Rattle.address_lists.proofs.emptied.write_not_served.Goals as goal

pub write_no_members-requires : goal.write_no_members-requires
write_no_members-requires c = c.requires.writable.comments

pub returns : goal.returns
returns c = on_ok_weaker c.write_no_members.result (λ a. emptied_mailbox _ _ _ _ _ c.requires.served c.in_ok-write_units_of.ensures a) c.write_no_members.ensures
