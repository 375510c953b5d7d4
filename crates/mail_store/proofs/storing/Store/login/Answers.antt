use Rattle.std.proofs.Common.{true, false, List, sym, ap, ◌∙◌}
use Rattle.std.specs.Prelude.{slice_get}
use Rattle.kept_mail.specs.declared.kept.Account.{Account}
use Rattle.kept_mail.specs.Kept.{has_password}
use Rattle.mail_store.specs.StoreState.{StoreState}
use Rattle.mail_store.proofs.MailboxLemmas.{login_some, login_none}
use Rattle.mail_store.proofs.storing.Store.login.Goals as goal
use Rattle.mail_store.proofs.storing.Store.login.Goals.{in_default-2-2, in_default-2}

pub returns-in-Some-2-clause-found : goal.returns-in-Some-2-clause-found
returns-in-Some-2-clause-found c =
    let accounts = c.deref.ensures.value ∙ ap (λ (s : StoreState). s.kept.accounts) c.self.view_is in
    let own = sym c.if-has_password.true ∙ c.has_password.ensures ∙ ap (λ (l : List Account). has_password (slice_get l c.in-Some-2.account) c.args.password.now) accounts in
    login_some c.args.self.now.kept c.args.name.now c.args.password.now c.in-Some.address c.in_ok-account.field-0 c.in-Some-2.account true
    (rw c.in-Some.is at c.in_ok-address.ensures.some) c.in_ok-account.ensures.found c.in-Some-2.is own

pub returns-clause-found : goal.returns-clause-found
returns-clause-found c =
    elim c.match-branch-4.branch [
      | in_default-2-2 w ↦
          let accounts = w.deref.ensures.value ∙ ap (λ (s : StoreState). s.kept.accounts) c.self.view_is in
          let own = sym w.if-has_password.false ∙ w.has_password.ensures ∙ ap (λ (l : List Account). has_password (slice_get l w.in-Some-2.account) c.args.password.now) accounts in
          rw w.result-is
          (login_some c.args.self.now.kept c.args.name.now c.args.password.now c.in-Some.address c.in_ok-account.field-0 w.in-Some-2.account false
          (rw c.in-Some.is at c.in_ok-address.ensures.some) c.in_ok-account.ensures.found w.in-Some-2.is own)
      | in_default-2 w ↦
          rw w.result-is
          (login_none c.args.self.now.kept c.args.name.now c.args.password.now c.in-Some.address c.in_ok-account.field-0
          (rw c.in-Some.is at c.in_ok-address.ensures.some) c.in_ok-account.ensures.found w.in_default-2.is)
    ]
