use Rattle.std.proofs.Common.{ℕ, sym, subst}
use Rattle.std.proofs.lemmas.Result.{err_from_is_err_and}
use Rattle.mail_store.specs.declared.changing.NewAccount.{NewAccount}
use Rattle.mail_store.specs.Changing.{account_refusal, IsRefusedAs}
use Rattle.mail_store.proofs.AccountLemmas.{refused_as}
use Rattle.mail_store.proofs.storing.Store.add_account.Goals as goal

pub returns-in_err-made-clause-refusal : goal.returns-in_err-made-clause-refusal
returns-in_err-made-clause-refusal g c = λ path_of reads.
    let failed = err_from_is_err_and c.from_residual.result c.from_residual.ensures.1 in
    let fault = c.in_err-made.field-0.0 in
    rw (failed.1, failed.2) (refused_as NewAccount ℕ fault (account_refusal path_of c.args.self.now.kept c.args.address.now) (c.in_err-made.ensures.refusal path_of reads))

pub put_new_account-requires : goal.put_new_account-requires
put_new_account-requires g c =
    let made = c.in_ok-made.ensures in record {
      address = c.args.address.now;
      own_is = made.address;
      sendable = c.requires.address;
      short = rw made.password c.requires.password;
      name_is = made.name;
      number_is = made.number;
      text_is = rw (made.address, made.password) made.text;
      free = made.refusal;
    }

pub returns-clause-changes : goal.returns-clause-changes
returns-clause-changes g c =
    let made = c.in_ok-made.ensures in
    rw (made.address, made.password) at c.put_new_account.ensures.changes

pub returns-clause-refusal : goal.returns-clause-refusal
returns-clause-refusal g c = λ path_of reads.
    subst (IsRefusedAs c.put_new_account.result) (sym (c.in_ok-made.ensures.refusal path_of reads)) c.put_new_account.ensures.refusal
