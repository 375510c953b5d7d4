use Rattle.std.proofs.Common.{ℕ, sym, subst}
use Rattle.std.proofs.lemmas.Result.{err_from_is_err_and}
use Rattle.mail_store.specs.declared.folders.NewFolder.{NewFolder}
use Rattle.mail_store.specs.Changing.{folder_refusal, IsRefusedAs}
use Rattle.mail_store.proofs.AccountLemmas.{refused_as}
use Rattle.mail_store.proofs.FolderLemmas.{folder_parts}
use Rattle.mail_store.proofs.storing.Store.create_folder.Goals as goal

pub returns-in_err-made-clause-refusal : goal.returns-in_err-made-clause-refusal
returns-in_err-made-clause-refusal g c =
    let failed = err_from_is_err_and c.from_residual.result c.from_residual.ensures.1 in
    rw (failed.1, failed.2) (refused_as NewFolder ℕ c.in_err-made.field-0.0 (folder_refusal c.args.self.now.kept c.args.account c.args.name.now) c.in_err-made.ensures.refusal)

pub put_new_folder-requires : goal.put_new_folder-requires
put_new_folder-requires g c =
    let made = c.in_ok-made.ensures in
    let free = folder_parts c.args.self.now.kept c.args.account c.args.name.now made.refusal in record {
      known = rw made.account c.requires.known;
      named = rw made.name c.requires.name;
      name_is = rw (made.account, made.name) made.key;
      number_is = made.number;
      text_is = rw (made.account, made.name) made.text;
      free = rw (made.account, made.name) free.0;
      room = free.1;
    }

pub returns-clause-changes : goal.returns-clause-changes
returns-clause-changes g c =
    let made = c.in_ok-made.ensures in
    rw (made.account, made.name) at c.put_new_folder.ensures.changes

pub returns-clause-refusal : goal.returns-clause-refusal
returns-clause-refusal g c = subst (IsRefusedAs c.put_new_folder.result) (sym c.in_ok-made.ensures.refusal) c.put_new_folder.ensures.refusal
