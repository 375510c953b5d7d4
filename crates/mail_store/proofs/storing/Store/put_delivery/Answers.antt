use Rattle.journal_records.specs.declared.versions.Version.TheVariants as versions
use Rattle.std.proofs.Common.{◌≡◌, ℕ, None, ap₂, ◌<◌, List, ◌++◌, length, map, sym, ap, subst, ◌∙◌}
use Rattle.std.specs.List.{All}
use Rattle.std.specs.Option.{option_to_list}
use Rattle.kept_mail.specs.declared.kept.Entry.{Entry}
use Rattle.kept_mail.specs.declared.kept.Message.{Message}
use Rattle.mail_store.specs.Changing.{IsDeliverable, delivery_refusal}
use Rattle.kept_mail.specs.Deliveries.{inboxes_of, delivered}
use Rattle.kept_mail.specs.private.Delivering.{copied, delivery_text}
use Rattle.kept_mail.specs.Kept.{after_all}
use Rattle.kept_mail.specs.Records.{AreRecords}
use Rattle.mail_store.specs.Queue.{open_counts}
use Rattle.mail_store.specs.private.Queue.{opened}
use Rattle.mail_store.specs.private.Store.{kept_of, indexes_of, state_of}
use Rattle.mail_store.specs.StoreState.{StoreState}
use Rattle.mail_store.proofs.ChangeLemmas.{changes-unwritten, changes-written}
use Rattle.mail_store.proofs.DeliveryLemmas.{AreRecords-delivered, copies_known, delivery_free}
use Rattle.mail_store.proofs.EntryLemmas.{entry-few, entry-kept, AreIndexes-delivered, after-delivered}
use Rattle.mail_store.proofs.storing.Store.put_delivery.Goals as goal

pub put_batch-requires-clause-known : goal.put_batch-requires-clause-known
put_batch-requires-clause-known g c =
    let delivery = c.args.delivery.now in
    let copies = c.requires.copies ∙ ap (λ s. map (copied delivery.date delivery.local_octets) (inboxes_of s.kept delivery.local)) (sym c.self.view_is) in
    copies_known (kept_of c.self.inside) (indexes_of c.self.inside) delivery.date delivery.local_octets delivery.local c.args.batch.copies.items c.self.invariant.indexes
    (subst (λ s. All (λ account. account < length s.kept.accounts) delivery.local) (sym c.self.view_is) c.requires.deliverable.known) copies

pub put_batch-requires-clause-few_recipients : goal.put_batch-requires-clause-few_recipients
put_batch-requires-clause-few_recipients g c =
    let delivery = c.args.delivery.now in
    let batch = c.args.batch in
    let small = delivery_free (state_of c.self.inside) delivery (subst (λ s. delivery_refusal s delivery ≡ None) (sym c.self.view_is) c.requires.taken) in
    let entry = c.requires.entry in
    entry-few (kept_of c.self.inside) (indexes_of c.self.inside) c.self.inside.message_max delivery entry.0 batch.waiting.entry c.self.invariant.indexes small entry.1 entry.2

pub invariant_of-self-in-Ok : goal.invariant_of-self-in-Ok
invariant_of-self-in-Ok g c =
    let delivery = c.args.delivery.now in
    let batch = c.args.batch in
    let small = delivery_free (state_of c.self.inside) delivery (subst (λ s. delivery_refusal s delivery ≡ None) (sym c.self.view_is) c.requires.taken) in
    let entry = c.requires.entry in
    let copies = c.requires.copies ∙ ap (λ s. map (copied delivery.date delivery.local_octets) (inboxes_of s.kept delivery.local)) (sym c.self.view_is) in
    let messages = c.put_batch.ensures.messages ∙ ap (λ (l : List Message). l ++ batch.copies.items) c.in-Ok.ensures.messages in
    let entries = c.put_batch.ensures.entries ∙ ap (λ (l : List Entry). l ++ option_to_list batch.waiting.entry) c.in-Ok.ensures.entries in
    let deliverable = subst (λ s. IsDeliverable s delivery) (sym c.self.view_is) c.requires.deliverable in
    let told : c.open_next.new.counts.entries ≡ open_counts c.self.inside.entries.items ++ opened (length c.self.inside.entries.items) batch.waiting.entry = rw (← c.deref.ensures.value) c.in_ok-open_next.ensures.ok in
    let counts = told ∙ ap (λ (l : List (ℕ × ℕ)). l ++ opened (length c.self.inside.entries.items) batch.waiting.entry) (sym c.self.invariant.indexes.open_is) in
    record {
      indexes = AreIndexes-delivered (kept_of c.self.inside) (indexes_of c.self.inside) c.self.inside.message_max delivery batch.copies.items entry.0 batch.waiting.entry
          c.put_batch.new.messages.items c.put_batch.new.entries.items c.put_batch.new.contents.items c.put_batch.new.previous.items c.put_batch.new.recipients c.open_next.new.counts.entries
          c.self.invariant.indexes (record { entities = c.requires.deliverable.local_marked.entities; tree = c.requires.deliverable.local_marked.tree }) c.requires.deliverable.dated small copies entry.1 entry.2 messages entries
          c.put_batch.ensures.chained c.put_batch.ensures.count c.put_batch.ensures.recipients
          (entry-kept (state_of c.self.inside) delivery entry.0 batch.waiting.entry deliverable entry.1 entry.2) counts;
      message_bound = c.self.invariant.message_bound;
    }

pub returns-in-Ok-clause-changes : goal.returns-in-Ok-clause-changes
returns-in-Ok-clause-changes g c =
    let delivery = c.args.delivery.now in
    let batch = c.args.batch in
    let small = delivery_free (state_of c.self.inside) delivery (subst (λ s. delivery_refusal s delivery ≡ None) (sym c.self.view_is) c.requires.taken) in
    let entry = c.requires.entry in
    let old = state_of c.self.inside in
    let deliverable = subst (λ s. IsDeliverable s delivery) (sym c.self.view_is) c.requires.deliverable in
    let them = AreRecords-delivered old (indexes_of c.self.inside) delivery c.self.invariant.indexes c.self.invariant.message_bound deliverable small in
    let text = c.requires.text in
    let octets = delivery_text batch.fronts.items batch.waiting.front delivery in
    let all = ap (λ s. delivered s.kept delivery) c.self.view_is in
    let copies = c.requires.copies ∙ ap (λ s. map (copied delivery.date delivery.local_octets) (inboxes_of s.kept delivery.local)) (sym c.self.view_is) in
    let messages = c.put_batch.ensures.messages ∙ ap (λ (l : List Message). l ++ batch.copies.items) c.in-Ok.ensures.messages in
    let entries = c.put_batch.ensures.entries ∙ ap (λ (l : List Entry). l ++ option_to_list batch.waiting.entry) c.in-Ok.ensures.entries in
    let kept = after-delivered old.kept delivery batch.copies.items entry.0 batch.waiting.entry c.put_batch.new.messages.items c.put_batch.new.entries.items
    copies entry.1 entry.2 messages entries in
    let n = ap (λ k. let s : StoreState = record { kept = k; message_max = c.self.inside.message_max; failed = c.write_delivery-written.new.progress.failed; end = c.write_delivery-written.new.progress.end } in s) (kept ∙ ap (after_all old.kept) all) in
    let written = c.in-Ok.ensures.writes in
    changes-written c.args.self.now old c.write_delivery-written.new.progress _ (g.J.Keeper.observed c.args.keeper.now).octets (g.J.Keeper.observed c.write_delivery-written.new.keeper).octets (delivered c.args.self.now.kept delivery)
    octets c.self.view_is (subst (AreRecords versions.Two old.kept) all them) text written.0 written.1 n

pub returns-in-Err-clause-changes : goal.returns-in-Err-clause-changes
returns-in-Err-clause-changes g c =
    let delivery = c.args.delivery.now in
    let batch = c.args.batch in
    let small = delivery_free (state_of c.self.inside) delivery (subst (λ s. delivery_refusal s delivery ≡ None) (sym c.self.view_is) c.requires.taken) in
    let old = state_of c.self.inside in
    let deliverable = subst (λ s. IsDeliverable s delivery) (sym c.self.view_is) c.requires.deliverable in
    let them = AreRecords-delivered old (indexes_of c.self.inside) delivery c.self.invariant.indexes c.self.invariant.message_bound deliverable small in
    let text = c.requires.text in
    let octets = delivery_text batch.fronts.items batch.waiting.front delivery in
    let all = ap (λ s. delivered s.kept delivery) c.self.view_is in
    let n = ap₂ (λ m e. let s : StoreState = record { kept = record (kept_of c.self.inside) { messages = m; entries = e }; message_max = c.self.inside.message_max; failed = c.write_delivery-written.new.progress.failed; end = c.write_delivery-written.new.progress.end } in s)
    c.in-Err.ensures.messages c.in-Err.ensures.entries in
    changes-unwritten (Unit {0}) c.args.self.now old _ c.write_delivery-written.new.progress (g.J.Keeper.observed c.args.keeper.now).octets (g.J.Keeper.observed c.write_delivery-written.new.keeper).octets
    c.in-Err.fault (delivered c.args.self.now.kept delivery) octets c.self.view_is (subst (AreRecords versions.Two old.kept) all them) text n c.in-Err.ensures.writes
