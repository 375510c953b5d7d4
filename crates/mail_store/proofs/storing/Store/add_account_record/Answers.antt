use Rattle.std.proofs.Common.{◌≡◌, ◌<◌, ℕ, List, length, subst, ◌∙◌, arith}
use Rattle.journal_records.specs.Addresses.{mailbox_key}
use Rattle.kept_mail.specs.declared.limits.TheConstants.{THINGS_MAX}
use Rattle.mail_store.specs.private.Adding.{HasKey}
use Rattle.kept_mail.specs.private.Names.{PutsName}
use Rattle.mail_store.specs.private.Names.{number_hashed}
use Rattle.mail_store.specs.private.Store.{kept_of, indexes_of}
use Rattle.mail_store.proofs.IndexLemmas.{AreIndexes-account}
use Rattle.mail_store.proofs.storing.Store.add_account_record.Goals as goal

pub invariant_of-self-2 : goal.invariant_of-self-2
invariant_of-self-2 c =
    let keyed : HasKey (kept_of c.self.inside) c.args.address c.args.password c.in_ok-key.key = rw (c.as_slice.ensures, c.as_slice-2.ensures, ← c.self.view_is) at c.in_ok-key.ensures in
    let more : length c.self.inside.accounts.items < THINGS_MAX = keyed.in_order.2 in
    let room : length c.self.inside.folders.items < THINGS_MAX = keyed.in_order.3 in
    let account : c.len-account.result ≡ length c.self.inside.accounts.items = omega (arith, c.len-account.ensures) in
    let after = number_hashed c.put_mailbox.new.numbers in
    let puts : PutsName (number_hashed c.self.inside.mailboxes) after (mailbox_key keyed.own) (length c.self.inside.accounts.items) =
    subst (λ (key : List ℕ). PutsName (number_hashed c.self.inside.mailboxes) after key (length c.self.inside.accounts.items)) (c.as_slice-3.ensures ∙ keyed.key_is) (subst (PutsName (number_hashed c.self.inside.mailboxes) after c.as_slice-3.result.now) account c.in_ok-put_mailbox.ensures.ok) in
    record {
      indexes = rw (
        c.put_account.ensures.accounts,
        c.put_account.ensures.folders,
        c.put_account.ensures.contents,
        c.put_account.ensures.inboxes,
        c.in_ok-inbox.ensures.accounts,
        c.in_ok-inbox.ensures.folders,
        c.in_ok-inbox.ensures.contents,
        c.in_ok-inbox.ensures.inboxes,
      ) (AreIndexes-account (kept_of c.self.inside) (indexes_of c.self.inside) after (record { address = c.args.address; password = c.args.password }) keyed.own c.in_ok-inbox.inbox c.in_ok-inbox.ensures.name c.self.invariant.indexes keyed.text more room puts);
      message_bound = c.self.invariant.message_bound;
    }
