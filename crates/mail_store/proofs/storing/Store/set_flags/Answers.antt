use Rattle.std.proofs.Common.{[], ◌∷◌, refl, ap, ◌∙◌}
use Rattle.std.specs.Prelude.{slice_get}
use Rattle.std.proofs.lemmas.Result.{err_from_is_err_and}
use Rattle.journal_records.specs.declared.records.Record.TheVariants as records
use Rattle.kept_mail.specs.Kept.{change_at, with_flags}
use Rattle.kept_mail.specs.Records.{IsLive}
use Rattle.mail_store.specs.StoreState.{StoreState}
use Rattle.mail_store.specs.private.Store.{kept_of, indexes_of, state_of}
use Rattle.mail_store.proofs.ChangeLemmas.{changes-unwritten, changes-written, text-one}
use Rattle.mail_store.proofs.FlagLemmas.{AreRecords-flags}
use Rattle.mail_store.proofs.IndexLemmas.{AreIndexes-changed}
use Rattle.kept_mail.proofs.SameMessages.{AreSameMessages-flags}
use Rattle.mail_store.proofs.storing.Store.set_flags.Goals as goal

pub returns-in_err-write-clause-changes : goal.returns-in_err-write-clause-changes
returns-in_err-write-clause-changes g c =
    let failed = err_from_is_err_and c.from_residual-in_err-write.result c.from_residual-in_err-write.ensures.1 in
    let one = records.Flags c.args.id c.args.flags in
    let live : IsLive (slice_get c.self.inside.messages.items c.args.id) = rw (← c.deref.ensures.value) (c.is_live.ensures.value.0 c.if-not-is_live.false) in
    let them = AreRecords-flags (kept_of c.self.inside) c.args.id c.args.flags live c.self.invariant.indexes.few.messages c.requires.flags in
    rw (failed.1, failed.2)
    (changes-unwritten (Unit {0}) c.args.self.now (state_of c.self.inside) _ c.write.new.progress (g.J.Keeper.observed c.args.keeper.now).octets (g.J.Keeper.observed c.write.new.keeper).octets
    c.in_err-write.field-0.0 (one ∷ []) c.as_slice.result.now c.self.view_is them (text-one one c.as_slice.result.now (c.as_slice.ensures ∙ c.in_ok-text.ensures)) refl c.in_err-write.ensures.writes)

pub invariant_of-self-2 : goal.invariant_of-self-2
invariant_of-self-2 g c = record {
  indexes = rw c.put_flags.ensures (AreIndexes-changed (kept_of c.self.inside) (indexes_of c.self.inside) (change_at (with_flags c.args.flags) c.self.inside.messages.items c.args.id) c.self.invariant.indexes
      (AreSameMessages-flags c.args.flags c.self.inside.messages.items c.args.id));
  message_bound = c.self.invariant.message_bound;
}

pub returns-clause-changes : goal.returns-clause-changes
returns-clause-changes g c =
    let one = records.Flags c.args.id c.args.flags in
    let live : IsLive (slice_get c.self.inside.messages.items c.args.id) = rw (← c.deref.ensures.value) (c.is_live.ensures.value.0 c.if-not-is_live.false) in
    let them = AreRecords-flags (kept_of c.self.inside) c.args.id c.args.flags live c.self.invariant.indexes.few.messages c.requires.flags in
    let n = ap (λ m. let s : StoreState = record { kept = record (kept_of c.self.inside) { messages = m }; message_max = c.self.inside.message_max; failed = c.write.new.progress.failed; end = c.write.new.progress.end } in s) c.put_flags.ensures in
    let written = c.in_ok-write.ensures.writes in
    changes-written c.args.self.now (state_of c.self.inside) c.write.new.progress _ (g.J.Keeper.observed c.args.keeper.now).octets (g.J.Keeper.observed c.write.new.keeper).octets
    (one ∷ []) c.as_slice.result.now c.self.view_is them (text-one one c.as_slice.result.now (c.as_slice.ensures ∙ c.in_ok-text.ensures)) written.0 written.1 n
