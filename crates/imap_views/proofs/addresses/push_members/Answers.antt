use Rattle.std.proofs.Common.{sym, ◌∙◌}
use Rattle.imap_views.proofs.AddressForms.{members_malformed}
use Rattle.imap_views.proofs.addresses.push_members.Goals as goal

pub returns-clause-malformed : goal.returns-clause-malformed
returns-clause-malformed c = λ e. members_malformed _ (sym c.are_blank.ensures ∙ c.if-are_blank.false) (c.push_mailboxes.ensures.malformed e)
