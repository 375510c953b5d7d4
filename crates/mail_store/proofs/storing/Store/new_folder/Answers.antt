use Rattle.std.proofs.Common.{ℕ, List, ◌∙◌, arith, subst, sym}
use Rattle.std.proofs.lemmas.Result.{err_from_is_err_and}
use Rattle.journal_records.specs.Grammar.{IsFolderName}
use Rattle.mail_store.specs.declared.folders.NewFolder.{NewFolder}
use Rattle.mail_store.specs.Changing.{folder_refusal}
use Rattle.mail_store.proofs.AccountLemmas.{refused_as}
use Rattle.mail_store.proofs.FolderLemmas.{writable-folder}
use Rattle.mail_store.proofs.storing.Store.new_folder.Goals as goal

pub returns-in_err-kept-clause-refusal : goal.returns-in_err-kept-clause-refusal
returns-in_err-kept-clause-refusal c =
    let failed = err_from_is_err_and c.from_residual.result c.from_residual.ensures.1 in
    rw (failed.1, failed.2) (refused_as (List ℕ) NewFolder c.in_err-kept.field-0.0 (folder_refusal c.args.self.now.kept c.args.account c.args.name.now) c.in_err-kept.ensures.refusal)

pub folder_text-requires : goal.folder_text-requires
folder_text-requires c =
    writable-folder c.args.account c.as_slice-2.result.now (omega (arith, c.ranges.account.fits)) (subst IsFolderName (sym (c.as_slice-2.ensures ∙ c.in_ok-kept.ensures.name)) c.requires)
