use Rattle.std.proofs.Common.{sym, ◌∙◌}
use Rattle.address_grammar.specs.Found.{found_value}
use Rattle.address_lists.proofs.WritableTokens.{mailbox_writable}
use Rattle.address_lists.proofs.ServedMailboxes.{none_where}
use Rattle.address_lists.proofs.written_mailboxes.write_mailbox.Goals as goal

pub served-requires : goal.served-requires
served-requires c = (mailbox_writable _ (found_value c.args.mailbox.now c.requires.mailbox.0) c.requires.writable c.requires.mailbox.1).domain

pub write_not_served-requires-clause-served : goal.write_not_served-requires-clause-served
write_not_served-requires-clause-served c = sym (c.in_ok-address.ensures) ∙ none_where c.in_ok-address.field-0 c.in_default.not-Some

pub write_served-requires-clause-served : goal.write_served-requires-clause-served
write_served-requires-clause-served c = c.is_ascii_address.ensures c.if-is_ascii_address.true

pub write_served-requires-2-clause-served : goal.write_served-requires-2-clause-served
write_served-requires-2-clause-served c = sym (c.in_ok-address.ensures) ∙ c.in-Some.is
