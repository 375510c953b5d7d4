use Rattle.std.proofs.Common.{◌≡◌, ◌∙◌, ◌<◌, length, subst, IfSome}
use Rattle.journal_records.specs.Addresses.{WithPaths}
use Rattle.kept_mail.specs.Kept.{find_account}
use Rattle.mail_store.specs.private.Store.{kept_of, indexes_of}
use Rattle.mail_store.specs.StoreState.{StoreState}
use Rattle.mail_store.proofs.MailboxLemmas.{found_is, found_known}
use Rattle.mail_store.proofs.storing.Store.find_account.Goals as goal

pub returns-clause-found : goal.returns-clause-found
returns-clause-found c =
    subst (λ (s : StoreState). WithPaths (λ path_of. c.mailbox_number.result ≡ find_account path_of s.kept c.args.address.now)) c.self.view_is
    (found_is (kept_of c.self.inside) (indexes_of c.self.inside) c.self.invariant.indexes c.args.address.now c.requires c.as_slice.result.now c.mailbox_number.result
    (c.as_slice.ensures ∙ c.in_ok-key.ensures) c.mailbox_number.ensures)

pub returns-clause-known : goal.returns-clause-known
returns-clause-known c =
    subst (λ (s : StoreState). IfSome c.mailbox_number.result (λ account. account < length s.kept.accounts)) c.self.view_is
    (found_known (kept_of c.self.inside) (indexes_of c.self.inside) c.self.invariant.indexes c.as_slice.result.now c.mailbox_number.result c.mailbox_number.ensures)
