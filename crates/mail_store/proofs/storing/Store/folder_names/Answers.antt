use Rattle.std.proofs.Common.{◌≡◌, IsUtf8, sym, subst}
use Rattle.std.specs.List.{All}
use Rattle.std.proofs.lemmas.Result.{IfOk-weaker}
use Rattle.kept_mail.specs.Kept.{names_among}
use Rattle.mail_store.specs.private.Store.{kept_of}
use Rattle.mail_store.proofs.FolderLemmas.{names_utf8}
use Rattle.mail_store.proofs.storing.Store.folder_names.Goals as goal

pub returns-clause-utf8 : goal.returns-clause-utf8
returns-clause-utf8 c =
    let named = subst (λ l. All IsUtf8 (names_among c.args.account l)) (sym c.deref.ensures.value) (names_utf8 c.args.account (kept_of c.self.inside).folders c.self.invariant.indexes.folders_are_named) in
    IfOk-weaker c.names_among.result (λ names. names.items ≡ names_among c.args.account c.deref.result.now) (λ names. All IsUtf8 names.items) (λ names is. subst (All IsUtf8) (sym is) named) c.names_among.ensures
