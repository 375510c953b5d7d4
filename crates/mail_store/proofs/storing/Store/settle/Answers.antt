use Rattle.std.proofs.Common.{[], ◌∷◌, refl, ap, ◌∙◌}
use Rattle.std.specs.Prelude.{slice_get}
use Rattle.std.proofs.lemmas.Result.{err_from_is_err_and}
use Rattle.journal_records.specs.declared.records.Record.TheVariants as records
use Rattle.kept_mail.specs.Records.{IsUnsettled}
use Rattle.mail_store.specs.Queue.{open_counts}
use Rattle.mail_store.specs.StoreState.{StoreState}
use Rattle.mail_store.specs.private.Store.{kept_of, indexes_of, state_of}
use Rattle.mail_store.proofs.ChangeLemmas.{changes-unwritten, changes-written, text-one}
use Rattle.mail_store.proofs.IndexLemmas.{AreIndexes-settled}
use Rattle.mail_store.proofs.QueueLemmas.{AreRecords-settle}
use Rattle.mail_store.proofs.storing.Store.settle.Goals as goal

pub returns-in_err-write-clause-changes : goal.returns-in_err-write-clause-changes
returns-in_err-write-clause-changes g c =
    let failed = err_from_is_err_and c.from_residual-in_err-write.result c.from_residual-in_err-write.ensures.1 in
    let one = records.Settle c.args.entry c.args.index in
    let waits : IsUnsettled (slice_get c.self.inside.entries.items c.args.entry) c.args.index = rw (← c.deref.ensures.value) (c.is_unsettled.ensures.value.0 c.if-not-is_unsettled.false) in
    let them = AreRecords-settle (kept_of c.self.inside) c.args.entry c.args.index waits c.ranges.entry.fits c.ranges.index.fits in
    rw (failed.1, failed.2)
    (changes-unwritten (Unit {0}) c.args.self.now (state_of c.self.inside) _ c.write.new.progress (g.J.Keeper.observed c.args.keeper.now).octets (g.J.Keeper.observed c.write.new.keeper).octets
    c.in_err-write.field-0.0 (one ∷ []) c.as_slice.result.now c.self.view_is them (text-one one c.as_slice.result.now (c.as_slice.ensures ∙ c.in_ok-text.ensures)) refl c.in_err-write.ensures.writes)

pub invariant_of-self-2 : goal.invariant_of-self-2
invariant_of-self-2 g c = record {
  indexes = rw c.settle_open.ensures.entries (AreIndexes-settled (kept_of c.self.inside) (indexes_of c.self.inside) c.args.entry c.args.index c.settle_open.new.counts.entries c.self.invariant.indexes
      (c.settle_open.ensures.counts ∙ ap open_counts c.settle_open.ensures.entries));
  message_bound = c.self.invariant.message_bound;
}

pub returns-clause-changes : goal.returns-clause-changes
returns-clause-changes g c =
    let one = records.Settle c.args.entry c.args.index in
    let waits : IsUnsettled (slice_get c.self.inside.entries.items c.args.entry) c.args.index = rw (← c.deref.ensures.value) (c.is_unsettled.ensures.value.0 c.if-not-is_unsettled.false) in
    let them = AreRecords-settle (kept_of c.self.inside) c.args.entry c.args.index waits c.ranges.entry.fits c.ranges.index.fits in
    let n = ap (λ e. let s : StoreState = record { kept = record (kept_of c.self.inside) { entries = e }; message_max = c.self.inside.message_max; failed = c.write.new.progress.failed; end = c.write.new.progress.end } in s) c.settle_open.ensures.entries in
    let written = c.in_ok-write.ensures.writes in
    changes-written c.args.self.now (state_of c.self.inside) c.write.new.progress _ (g.J.Keeper.observed c.args.keeper.now).octets (g.J.Keeper.observed c.write.new.keeper).octets
    (one ∷ []) c.as_slice.result.now c.self.view_is them (text-one one c.as_slice.result.now (c.as_slice.ensures ∙ c.in_ok-text.ensures)) written.0 written.1 n
