use Rattle.std.proofs.Common.{◌≡◌, ℕ, List, Some, Err, sym, ap, subst, ◌∙◌, IsUtf8}
use Rattle.std.specs.Prelude.{is_some}
use Rattle.std.proofs.lemmas.Result.{err_from_is_err_and}
use Rattle.address_grammar.proofs.PathParts.{path_parts}
use Rattle.mail_store.specs.declared.changing.StoreFault.TheVariants as faults
use Rattle.mail_store.specs.Changing.{account_refusal, IsRefusedAs}
use Rattle.mail_store.specs.private.Accounts.{room_refusal}
use Rattle.mail_store.specs.private.Names.{number_hashed}
use Rattle.mail_store.specs.private.Store.{kept_of, indexes_of}
use Rattle.mail_store.proofs.AccountLemmas.{found_account, account_exists, account_rest, refused_as}
use Rattle.mail_store.proofs.storing.Store.free_key.Goals as goal

pub room_for_account-requires : goal.room_for_account-requires
room_for_account-requires c = subst IsUtf8 (sym c.as_slice-2.ensures) (path_parts c.requires.0 c.args.address.now c.requires.1).1

pub returns-then-is_some-clause-refusal : goal.returns-then-is_some-clause-refusal
returns-then-is_some-clause-refusal c = λ path_of reads.
    let found = found_account path_of reads (kept_of c.self.inside) (indexes_of c.self.inside) c.args.address.now c.in_ok-key.key c.self.invariant.indexes c.requires c.in_ok-key.ensures in
    let here = c.is_some.ensures ∙ ap (λ o. is_some o) (c.mailbox_number.ensures ∙ ap (number_hashed c.self.inside.mailboxes) c.as_slice.ensures ∙ found) in
    subst (λ s. account_refusal path_of s.kept c.args.address.now ≡ Some faults.Exists) c.self.view_is (account_exists path_of (kept_of c.self.inside) c.args.address.now (sym here ∙ c.if-is_some.true))

pub returns-in_err-room_for_account-clause-refusal : goal.returns-in_err-room_for_account-clause-refusal
returns-in_err-room_for_account-clause-refusal c = λ path_of reads.
    let failed = err_from_is_err_and c.from_residual-in_err-room_for_account.result c.from_residual-in_err-room_for_account.ensures.1 in
    let found = found_account path_of reads (kept_of c.self.inside) (indexes_of c.self.inside) c.args.address.now c.in_ok-key.key c.self.invariant.indexes c.requires c.in_ok-key.ensures in
    let here = c.is_some.ensures ∙ ap (λ o. is_some o) (c.mailbox_number.ensures ∙ ap (number_hashed c.self.inside.mailboxes) c.as_slice.ensures ∙ found) in
    let rest = account_rest path_of (kept_of c.self.inside) c.args.address.now (sym here ∙ c.if-is_some.false) in
    let same = subst (λ s. account_refusal path_of s.kept c.args.address.now ≡ room_refusal s.kept c.args.address.now.domain) c.self.view_is rest in
    let fault = c.in_err-room_for_account.field-0.0 in
    let refused = subst (λ d. IsRefusedAs {T = Unit {0}} (Err fault) (room_refusal c.args.self.now.kept d)) c.as_slice-2.ensures c.in_err-room_for_account.ensures.refusal in
    rw (failed.1, failed.2, same) (refused_as (Unit {0}) (List ℕ) fault (room_refusal c.args.self.now.kept c.args.address.now.domain) refused)

pub returns-clause-refusal : goal.returns-clause-refusal
returns-clause-refusal c = λ path_of reads.
    let found = found_account path_of reads (kept_of c.self.inside) (indexes_of c.self.inside) c.args.address.now c.in_ok-key.key c.self.invariant.indexes c.requires c.in_ok-key.ensures in
    let here = c.is_some.ensures ∙ ap (λ o. is_some o) (c.mailbox_number.ensures ∙ ap (number_hashed c.self.inside.mailboxes) c.as_slice.ensures ∙ found) in
    let rest = account_rest path_of (kept_of c.self.inside) c.args.address.now (sym here ∙ c.if-is_some.false) in
    let same = subst (λ s. account_refusal path_of s.kept c.args.address.now ≡ room_refusal s.kept c.args.address.now.domain) c.self.view_is rest in
    same ∙ ap (room_refusal c.args.self.now.kept) (sym c.as_slice-2.ensures) ∙ c.in_ok-room_for_account.ensures.refusal
