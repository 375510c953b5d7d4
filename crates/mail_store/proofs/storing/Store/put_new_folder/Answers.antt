use Rattle.std.proofs.Common.{◌≡◌, ℕ, ◌<◌, ◌++◌, ◌∷◌, [], None, List, length, refl, sym, ap, subst, ◌∙◌, arith}
use Rattle.std.proofs.lemmas.Result.{err_from_is_err_and}
use Rattle.journal_records.specs.declared.records.Record.TheVariants as records
use Rattle.kept_mail.specs.declared.kept.Folder.{Folder}
use Rattle.kept_mail.specs.declared.limits.TheConstants.{THINGS_MAX}
use Rattle.kept_mail.specs.Kept.{first_named}
use Rattle.kept_mail.specs.private.Names.{number_named, PutsName}
use Rattle.mail_store.specs.private.Store.{kept_of, indexes_of, state_of}
use Rattle.mail_store.specs.StoreState.{StoreState}
use Rattle.mail_store.proofs.AccountLemmas.{refused_as}
use Rattle.mail_store.proofs.ChangeLemmas.{changes-unwritten, refused-unwritten, changes-written, text-one}
use Rattle.mail_store.proofs.FolderLemmas.{AreRecords-folder}
use Rattle.mail_store.proofs.IndexLemmas.{AreIndexes-folder, AreIndexes-names, folder_free}
use Rattle.mail_store.proofs.storing.Store.put_new_folder.Goals as goal

pub write_named-requires : goal.write_named-requires
write_named-requires g c =
    let own = c.args.made.own in
    let known = subst (λ s. own.account < length s.kept.accounts) (sym c.self.view_is) c.requires.known in
    let free = subst (λ s. first_named own.account own.name 0 s.kept.folders ≡ None) (sym c.self.view_is) c.requires.free in
    ap (number_named c.self.inside.names) c.requires.name_is ∙ folder_free (kept_of c.self.inside) (indexes_of c.self.inside) own.account own.name c.self.invariant.indexes known free

pub invariant_of-self-in_err-write_named : goal.invariant_of-self-in_err-write_named
invariant_of-self-in_err-write_named g c = record {
  indexes = rw (c.in_ok-reserve_folder.ensures.folders, c.in_ok-reserve_folder.ensures.contents)
      (AreIndexes-names (kept_of c.self.inside) (indexes_of c.self.inside) (number_named c.write_named.new.numbers) c.self.invariant.indexes c.in_err-write_named.ensures.err);
  message_bound = c.self.invariant.message_bound;
}

pub returns-in_err-write_named-clause-changes : goal.returns-in_err-write_named-clause-changes
returns-in_err-write_named-clause-changes g c =
    let failed = err_from_is_err_and c.from_residual-in_err-write_named.result c.from_residual-in_err-write_named.ensures.1 in
    let own = c.args.made.own in
    let known = subst (λ s. own.account < length s.kept.accounts) (sym c.self.view_is) c.requires.known in
    let room = subst (λ s. length s.kept.folders < THINGS_MAX) (sym c.self.view_is) c.requires.room in
    let one = records.Folder own.account own.name in
    let text = text-one one c.args.made.named.text c.requires.text_is in
    let them = AreRecords-folder (kept_of c.self.inside) own.account own.name known (omega (arith, known, c.self.invariant.indexes.few.accounts)) c.requires.named room in
    let n = ap (λ f. let s : StoreState = record { kept = record (kept_of c.self.inside) { folders = f }; message_max = c.self.inside.message_max; failed = c.write_named.new.progress.failed; end = c.write_named.new.progress.end } in s)
    c.in_ok-reserve_folder.ensures.folders in
    rw (failed.1, failed.2)
    (changes-unwritten ℕ c.args.self.now (state_of c.self.inside) _ c.write_named.new.progress (g.J.Keeper.observed c.args.keeper.now).octets (g.J.Keeper.observed c.write_named.new.keeper).octets
    c.in_err-write_named.field-0.0 (one ∷ []) c.args.made.named.text c.self.view_is them text n c.in_err-write_named.ensures.writes)

pub returns-in_err-write_named-clause-refusal : goal.returns-in_err-write_named-clause-refusal
returns-in_err-write_named-clause-refusal g c =
    let failed = err_from_is_err_and c.from_residual-in_err-write_named.result c.from_residual-in_err-write_named.ensures.1 in
    rw (failed.1, failed.2) (refused_as (Unit {0}) ℕ c.in_err-write_named.field-0.0 None
    (refused-unwritten (Unit {0}) c.self.inside.progress c.write_named.new.progress (g.J.Keeper.observed c.args.keeper.now).octets (g.J.Keeper.observed c.write_named.new.keeper).octets
    c.in_err-write_named.field-0.0 c.args.made.named.text None refl c.in_err-write_named.ensures.writes))

pub invariant_of-self-2 : goal.invariant_of-self-2
invariant_of-self-2 g c =
    let own = c.args.made.own in
    let known = subst (λ s. own.account < length s.kept.accounts) (sym c.self.view_is) c.requires.known in
    let room = subst (λ s. length s.kept.folders < THINGS_MAX) (sym c.self.view_is) c.requires.room in
    let number = c.requires.number_is ∙ ap (λ s. length s.kept.folders) (sym c.self.view_is) in
    let puts : PutsName (number_named c.self.inside.names) (number_named c.write_named.new.numbers) c.args.made.named.name c.args.made.named.number = c.in_ok-write_named.ensures.ok in
    let named = subst (λ k. PutsName (number_named c.self.inside.names) (number_named c.write_named.new.numbers) k (length c.self.inside.folders.items)) c.requires.name_is
    (subst (PutsName (number_named c.self.inside.names) (number_named c.write_named.new.numbers) c.args.made.named.name) number puts) in
    record {
      indexes = rw (c.put_folder.ensures.folders, c.put_folder.ensures.contents, c.in_ok-reserve_folder.ensures.folders, c.in_ok-reserve_folder.ensures.contents)
          (AreIndexes-folder (kept_of c.self.inside) (indexes_of c.self.inside) (number_named c.write_named.new.numbers) own c.self.invariant.indexes known c.requires.named room named);
      message_bound = c.self.invariant.message_bound;
    }

pub returns-clause-changes : goal.returns-clause-changes
returns-clause-changes g c =
    let own = c.args.made.own in
    let known = subst (λ s. own.account < length s.kept.accounts) (sym c.self.view_is) c.requires.known in
    let room = subst (λ s. length s.kept.folders < THINGS_MAX) (sym c.self.view_is) c.requires.room in
    let one = records.Folder own.account own.name in
    let text = text-one one c.args.made.named.text c.requires.text_is in
    let them = AreRecords-folder (kept_of c.self.inside) own.account own.name known (omega (arith, known, c.self.invariant.indexes.few.accounts)) c.requires.named room in
    let folders = c.put_folder.ensures.folders ∙ ap (λ (l : List Folder). l ++ own ∷ []) c.in_ok-reserve_folder.ensures.folders in
    let n = ap (λ f. let s : StoreState = record { kept = record (kept_of c.self.inside) { folders = f }; message_max = c.self.inside.message_max; failed = c.write_named.new.progress.failed; end = c.write_named.new.progress.end } in s) folders in
    let written = c.in_ok-write_named.ensures.writes in
    changes-written c.args.self.now (state_of c.self.inside) c.write_named.new.progress _ (g.J.Keeper.observed c.args.keeper.now).octets (g.J.Keeper.observed c.write_named.new.keeper).octets
    (one ∷ []) c.args.made.named.text c.self.view_is them text written.0 written.1 n
