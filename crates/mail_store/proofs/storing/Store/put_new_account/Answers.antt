use Rattle.journal_records.specs.declared.versions.Version.TheVariants as versions
use Rattle.std.proofs.Common.{◌≡◌, ℕ, ◌∷◌, [], None, length, refl, sym, ap, ap₂, subst, ◌∙◌}
use Rattle.std.proofs.lemmas.Result.{err_from_is_err_and}
use Rattle.address_grammar.proofs.WritingLemmas.{path_again}
use Rattle.journal_records.specs.declared.records.Record.TheVariants as records
use Rattle.journal_records.specs.Addresses.{IsTextOfAddress, WithPaths}
use Rattle.mail_store.specs.Changing.{account_refusal}
use Rattle.kept_mail.specs.private.Names.{PutsName}
use Rattle.mail_store.specs.private.Names.{number_hashed}
use Rattle.mail_store.specs.private.Store.{kept_of, indexes_of, state_of}
use Rattle.mail_store.specs.StoreState.{StoreState}
use Rattle.kept_mail.specs.Records.{AreRecords}
use Rattle.mail_store.proofs.ChangeLemmas.{changes-unwritten, refused-unwritten, changes-written, text-one}
use Rattle.mail_store.proofs.DomainLemmas.{AreIndexes-same_mailboxes}
use Rattle.mail_store.proofs.AccountLemmas.{account_taken, refused_as, room_for, AreRecords-account, account_after}
use Rattle.mail_store.proofs.IndexLemmas.{AreIndexes-account}
use Rattle.mail_store.proofs.storing.Store.put_new_account.Goals as goal

pub write_mailbox-requires : goal.write_mailbox-requires
write_mailbox-requires g c =
    let free = subst (λ s. WithPaths (λ path_of. account_refusal path_of s.kept c.requires.address ≡ None)) (sym c.self.view_is) c.requires.free in
    (account_taken (kept_of c.self.inside) (indexes_of c.self.inside) c.requires.address c.args.named.now.name c.self.invariant.indexes c.requires.sendable.0 c.requires.name_is free).0

pub invariant_of-self-in_err-write_mailbox : goal.invariant_of-self-in_err-write_mailbox
invariant_of-self-in_err-write_mailbox g c = record {
  indexes = rw (
    c.in_ok-inbox.ensures.accounts,
    c.in_ok-inbox.ensures.folders,
    c.in_ok-inbox.ensures.contents,
    c.in_ok-inbox.ensures.inboxes,
  ) (AreIndexes-same_mailboxes (kept_of c.self.inside) (indexes_of c.self.inside) (number_hashed c.write_mailbox.new.numbers) c.self.invariant.indexes c.in_err-write_mailbox.ensures.err);
  message_bound = c.self.invariant.message_bound;
}

pub returns-in_err-write_mailbox-clause-changes : goal.returns-in_err-write_mailbox-clause-changes
returns-in_err-write_mailbox-clause-changes g c =
    let failed = err_from_is_err_and c.from_residual-in_err-write_mailbox.result c.from_residual-in_err-write_mailbox.ensures.1 in
    let named = c.args.named.now in
    let own = c.args.own in
    let free = subst (λ s. WithPaths (λ path_of. account_refusal path_of s.kept c.requires.address ≡ None)) (sym c.self.view_is) c.requires.free in
    let taken = (account_taken (kept_of c.self.inside) (indexes_of c.self.inside) c.requires.address named.name c.self.invariant.indexes c.requires.sendable.0 c.requires.name_is free).1 in
    let room = room_for (kept_of c.self.inside) c.requires.address.domain taken in
    let one = records.Account own.address own.password in
    let text = text-one one named.text c.requires.text_is in
    let them = subst (λ a. AreRecords versions.Two (kept_of c.self.inside) (records.Account a own.password ∷ [])) (sym c.requires.own_is)
    (AreRecords-account (kept_of c.self.inside) c.requires.address own.password c.requires.sendable c.requires.short room.0 room.1) in
    let n = ap₂ (λ a f. let s : StoreState = record { kept = record (kept_of c.self.inside) { accounts = a; folders = f }; message_max = c.self.inside.message_max; failed = c.write_mailbox.new.progress.failed; end = c.write_mailbox.new.progress.end } in s)
    c.in_ok-inbox.ensures.accounts c.in_ok-inbox.ensures.folders in
    rw (failed.1, failed.2)
    (changes-unwritten ℕ c.args.self.now (state_of c.self.inside) _ c.write_mailbox.new.progress (g.J.Keeper.observed c.args.keeper.now).octets (g.J.Keeper.observed c.write_mailbox.new.keeper).octets
    c.in_err-write_mailbox.field-0.0 (one ∷ []) named.text c.self.view_is them text n c.in_err-write_mailbox.ensures.writes)

pub returns-in_err-write_mailbox-clause-refusal : goal.returns-in_err-write_mailbox-clause-refusal
returns-in_err-write_mailbox-clause-refusal g c =
    let failed = err_from_is_err_and c.from_residual-in_err-write_mailbox.result c.from_residual-in_err-write_mailbox.ensures.1 in
    rw (failed.1, failed.2) (refused_as (Unit {0}) ℕ c.in_err-write_mailbox.field-0.0 None
    (refused-unwritten (Unit {0}) c.self.inside.progress c.write_mailbox.new.progress (g.J.Keeper.observed c.args.keeper.now).octets (g.J.Keeper.observed c.write_mailbox.new.keeper).octets
    c.in_err-write_mailbox.field-0.0 c.args.named.now.text None refl c.in_err-write_mailbox.ensures.writes))

pub invariant_of-self-2 : goal.invariant_of-self-2
invariant_of-self-2 g c =
    let named = c.args.named.now in
    let own = c.args.own in
    let free = subst (λ s. WithPaths (λ path_of. account_refusal path_of s.kept c.requires.address ≡ None)) (sym c.self.view_is) c.requires.free in
    let taken = (account_taken (kept_of c.self.inside) (indexes_of c.self.inside) c.requires.address named.name c.self.invariant.indexes c.requires.sendable.0 c.requires.name_is free).1 in
    let room = room_for (kept_of c.self.inside) c.requires.address.domain taken in
    let number = c.requires.number_is ∙ ap (λ s. length s.kept.accounts) (sym c.self.view_is) in
    let puts : PutsName (number_hashed c.self.inside.mailboxes) (number_hashed c.write_mailbox.new.numbers) named.name named.number = c.in_ok-write_mailbox.ensures.ok in
    let put = subst (λ k. PutsName (number_hashed c.self.inside.mailboxes) (number_hashed c.write_mailbox.new.numbers) k (length c.self.inside.accounts.items)) c.requires.name_is
    (subst (PutsName (number_hashed c.self.inside.mailboxes) (number_hashed c.write_mailbox.new.numbers) named.name) number puts) in
    let text : IsTextOfAddress own.address c.requires.address = subst (λ t. IsTextOfAddress t c.requires.address) (sym c.requires.own_is) (path_again c.requires.address c.requires.sendable.0) in
    record {
      indexes = rw (
        c.put_account.ensures.accounts,
        c.put_account.ensures.folders,
        c.put_account.ensures.contents,
        c.put_account.ensures.inboxes,
        c.in_ok-inbox.ensures.accounts,
        c.in_ok-inbox.ensures.folders,
        c.in_ok-inbox.ensures.contents,
        c.in_ok-inbox.ensures.inboxes,
      ) (AreIndexes-account (kept_of c.self.inside) (indexes_of c.self.inside) (number_hashed c.write_mailbox.new.numbers) own c.requires.address c.in_ok-inbox.inbox c.in_ok-inbox.ensures.name c.self.invariant.indexes text room.0 room.1 put);
      message_bound = c.self.invariant.message_bound;
    }

pub returns-clause-changes : goal.returns-clause-changes
returns-clause-changes g c =
    let named = c.args.named.now in
    let own = c.args.own in
    let free = subst (λ s. WithPaths (λ path_of. account_refusal path_of s.kept c.requires.address ≡ None)) (sym c.self.view_is) c.requires.free in
    let taken = (account_taken (kept_of c.self.inside) (indexes_of c.self.inside) c.requires.address named.name c.self.invariant.indexes c.requires.sendable.0 c.requires.name_is free).1 in
    let room = room_for (kept_of c.self.inside) c.requires.address.domain taken in
    let one = records.Account own.address own.password in
    let text = text-one one named.text c.requires.text_is in
    let them = subst (λ a. AreRecords versions.Two (kept_of c.self.inside) (records.Account a own.password ∷ [])) (sym c.requires.own_is)
    (AreRecords-account (kept_of c.self.inside) c.requires.address own.password c.requires.sendable c.requires.short room.0 room.1) in
    let n = account_after (state_of c.self.inside) c.write_mailbox.new.progress own own.address own.password c.in_ok-inbox.inbox
    c.put_account.new.accounts.items c.put_account.new.folders.items refl refl c.in_ok-inbox.ensures.name
    (rw c.in_ok-inbox.ensures.accounts at c.put_account.ensures.accounts)
    (rw (c.in_ok-inbox.ensures.accounts, c.in_ok-inbox.ensures.folders) at c.put_account.ensures.folders) in
    let written = c.in_ok-write_mailbox.ensures.writes in
    changes-written c.args.self.now (state_of c.self.inside) c.write_mailbox.new.progress _ (g.J.Keeper.observed c.args.keeper.now).octets (g.J.Keeper.observed c.write_mailbox.new.keeper).octets
    (one ∷ []) named.text c.self.view_is them text written.0 written.1 n
