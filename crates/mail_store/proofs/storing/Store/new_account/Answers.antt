use Rattle.std.proofs.Common.{ℕ, List}
use Rattle.std.proofs.lemmas.Result.{err_from_is_err_and}
use Rattle.mail_store.specs.declared.changing.NewAccount.{NewAccount}
use Rattle.mail_store.specs.Changing.{account_refusal}
use Rattle.mail_store.proofs.AccountLemmas.{refused_as}
use Rattle.mail_store.proofs.storing.Store.new_account.Goals as goal

pub returns-in_err-key-clause-refusal : goal.returns-in_err-key-clause-refusal
returns-in_err-key-clause-refusal c = λ path_of reads.
    let failed = err_from_is_err_and c.from_residual.result c.from_residual.ensures.1 in
    let fault = c.in_err-key.field-0.0 in
    rw (failed.1, failed.2) (refused_as (List ℕ) NewAccount fault (account_refusal path_of c.args.self.now.kept c.args.address.now) (c.in_err-key.ensures.refusal path_of reads))

pub returns-clause-refusal : goal.returns-clause-refusal
returns-clause-refusal c = c.in_ok-key.ensures.refusal
