use Rattle.std.proofs.Common.{◌≡◌, ◌≢◌, ◌<◌, ◌∙◌, ℕ, List, length, sym, ap, subst, arith}
use Rattle.std.specs.Prelude.{IfSome, slice_get}
use Rattle.std.proofs.lemmas.Bool.{true≢false}
use Rattle.std.proofs.lemmas.Slice.Eq.{bytes_eq-Decides}
use Rattle.journal_records.specs.Grammar.{inbox}
use Rattle.kept_mail.specs.Kept.{first_named}
use Rattle.mail_store.specs.StoreState.{StoreState}
use Rattle.kept_mail.specs.private.Names.{number_named}
use Rattle.mail_store.specs.private.Store.{kept_of, indexes_of}
use Rattle.mail_store.proofs.FolderLemmas.{named_known}
use Rattle.mail_store.proofs.IndexLemmas.{inbox_found, folder_found}
use Rattle.mail_store.proofs.storing.Store.named_folder.Goals as goal

pub returns-then-is_inbox-clause-found : goal.returns-then-is_inbox-clause-found
returns-then-is_inbox-clause-found c =
    let same = (bytes_eq-Decides c.args.name.now inbox).0 (sym c.is_inbox.ensures ∙ c.if-is_inbox.true) in
    let here = c.number_at.ensures ∙ ap (λ (l : List ℕ). slice_get l c.args.account) c.deref.ensures.value in
    subst (λ (s : StoreState). c.number_at.result ≡ first_named c.args.account c.args.name.now 0 s.kept.folders) c.self.view_is
    (inbox_found (kept_of c.self.inside) (indexes_of c.self.inside) c.args.account c.args.name.now c.number_at.result c.self.invariant.indexes same here)

pub returns-then-is_inbox-clause-known : goal.returns-then-is_inbox-clause-known
returns-then-is_inbox-clause-known c =
    let same = (bytes_eq-Decides c.args.name.now inbox).0 (sym c.is_inbox.ensures ∙ c.if-is_inbox.true) in
    let here = c.number_at.ensures ∙ ap (λ (l : List ℕ). slice_get l c.args.account) c.deref.ensures.value in
    subst (λ (s : StoreState). IfSome c.number_at.result (λ folder. folder < length s.kept.folders)) c.self.view_is
    (named_known c.args.account c.args.name.now (kept_of c.self.inside).folders c.number_at.result
    (inbox_found (kept_of c.self.inside) (indexes_of c.self.inside) c.args.account c.args.name.now c.number_at.result c.self.invariant.indexes same here))

pub returns-clause-found : goal.returns-clause-found
returns-clause-found c =
    let other : c.args.name.now ≢ inbox = λ e. true≢false (sym ((bytes_eq-Decides c.args.name.now inbox).1 e) ∙ sym c.is_inbox.ensures ∙ c.if-is_inbox.false) in
    let here = c.number_of.ensures ∙ ap (number_named c.self.inside.names) (c.as_slice.ensures ∙ c.in_ok-key.ensures) in
    subst (λ (s : StoreState). c.number_of.result ≡ first_named c.args.account c.args.name.now 0 s.kept.folders) c.self.view_is
    (folder_found (kept_of c.self.inside) (indexes_of c.self.inside) c.args.account c.args.name.now c.number_of.result c.self.invariant.indexes (omega (arith, c.ranges.account.fits)) other here)

pub returns-clause-known : goal.returns-clause-known
returns-clause-known c =
    let other : c.args.name.now ≢ inbox = λ e. true≢false (sym ((bytes_eq-Decides c.args.name.now inbox).1 e) ∙ sym c.is_inbox.ensures ∙ c.if-is_inbox.false) in
    let here = c.number_of.ensures ∙ ap (number_named c.self.inside.names) (c.as_slice.ensures ∙ c.in_ok-key.ensures) in
    subst (λ (s : StoreState). IfSome c.number_of.result (λ folder. folder < length s.kept.folders)) c.self.view_is
    (named_known c.args.account c.args.name.now (kept_of c.self.inside).folders c.number_of.result
    (folder_found (kept_of c.self.inside) (indexes_of c.self.inside) c.args.account c.args.name.now c.number_of.result c.self.invariant.indexes (omega (arith, c.ranges.account.fits)) other here))
