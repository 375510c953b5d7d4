use Rattle.std.proofs.Common.{◌≡◌, ℕ, List, arith, length, subst, ◌∙◌}
use Rattle.journal_records.specs.declared.records.Record.TheVariants as records
use Rattle.kept_mail.specs.Records.{IsInOrder}
use Rattle.kept_mail.specs.private.Names.{folder_key, number_named, PutsName}
use Rattle.mail_store.specs.private.Store.{kept_of, indexes_of}
use Rattle.mail_store.proofs.IndexLemmas.{AreIndexes-folder, AreIndexes-names}
use Rattle.mail_store.proofs.storing.Store.add_folder_record.Goals as goal

pub invariant_of-self-2 : goal.invariant_of-self-2
invariant_of-self-2 c =
    let keyed : IsInOrder (kept_of c.self.inside) (records.Folder c.args.account c.args.name) × (c.in_ok-key.key ≡ folder_key c.args.account c.args.name) = rw (c.as_slice.ensures, ← c.self.view_is) at c.in_ok-key.ensures in
    let number : c.len-number.result ≡ length c.self.inside.folders.items = omega (arith, c.len-number.ensures) in
    let after = number_named c.put_first.new.numbers in
    let puts : PutsName (number_named c.self.inside.names) after (folder_key c.args.account c.args.name) (length c.self.inside.folders.items) =
    subst (λ (k : List ℕ). PutsName (number_named c.self.inside.names) after k (length c.self.inside.folders.items)) (c.as_slice-2.ensures ∙ keyed.1)
    (subst (PutsName (number_named c.self.inside.names) after c.as_slice-2.result.now) number c.in_ok-put_first.ensures.ok) in
    record {
      indexes = rw (c.put_folder.ensures.folders, c.put_folder.ensures.contents, c.in_ok-reserve_folder.ensures.folders, c.in_ok-reserve_folder.ensures.contents)
          (AreIndexes-folder (kept_of c.self.inside) (indexes_of c.self.inside) after (record { account = c.args.account; name = c.args.name }) c.self.invariant.indexes keyed.0.0 keyed.0.1 keyed.0.2 puts);
      message_bound = c.self.invariant.message_bound;
    }

pub invariant_of-self-in_err-put_first : goal.invariant_of-self-in_err-put_first
invariant_of-self-in_err-put_first c = record {
  indexes = rw (c.in_ok-reserve_folder.ensures.folders, c.in_ok-reserve_folder.ensures.contents)
      (AreIndexes-names (kept_of c.self.inside) (indexes_of c.self.inside) (number_named c.put_first.new.numbers) c.self.invariant.indexes c.in_err-put_first.ensures.err);
  message_bound = c.self.invariant.message_bound;
}
