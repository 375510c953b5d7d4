use Rattle.std.proofs.Common.{◌≡◌, ℕ, List, [], ◌∷◌, ◌++◌, Some, None, subst, sym, ap, ◌∙◌, arith}
use Rattle.std.proofs.lemmas.Result.{err_from_is_err_and}
use Rattle.journal_records.specs.declared.records.Record.TheVariants as records
use Rattle.kept_mail.specs.declared.kept.Message.{Message}
use Rattle.kept_mail.specs.private.Chains.{AreChained}
use Rattle.mail_store.specs.Changing.{IsAppendable, append_refusal}
use Rattle.mail_store.specs.private.Store.{kept_of, indexes_of, state_of}
use Rattle.mail_store.specs.StoreState.{StoreState}
use Rattle.mail_store.proofs.AppendLemmas.{append_free, AreRecords-message}
use Rattle.mail_store.proofs.ChangeLemmas.{changes-unwritten, changes-written, text-one}
use Rattle.mail_store.proofs.IndexLemmas.{AreIndexes-messages, AreStored-one}
use Rattle.mail_store.proofs.storing.Store.put_new_message.Goals as goal

pub returns-in_err-write_message-clause-changes : goal.returns-in_err-write_message-clause-changes
returns-in_err-write_message-clause-changes g c =
    let failed = err_from_is_err_and c.from_residual.result c.from_residual.ensures.1 in
    let own = c.args.made.own in
    let old = state_of c.self.inside in
    let one = records.Message own.folder own.flags (Some c.args.made.mark) own.date own.octets in
    let appendable = subst (λ s. IsAppendable s own.folder own.flags c.args.made.mark own.date own.octets) (sym c.self.view_is) c.requires.appendable in
    let taken = subst (λ s. append_refusal s own.octets ≡ None) (sym c.self.view_is) c.requires.taken in
    let them = AreRecords-message old (indexes_of c.self.inside) own.folder own.flags c.args.made.mark own.date own.octets c.self.invariant.indexes c.self.invariant.message_bound appendable taken in
    let n = ap (λ m. let s : StoreState = record { kept = record (kept_of c.self.inside) { messages = m }; message_max = c.self.inside.message_max; failed = c.write_message.new.progress.failed; end = c.write_message.new.progress.end } in s)
    c.in_err-write_message.ensures.messages in
    rw (failed.1, failed.2)
    (changes-unwritten ℕ c.args.self.now old _ c.write_message.new.progress (g.J.Keeper.observed c.args.keeper.now).octets (g.J.Keeper.observed c.write_message.new.keeper).octets
    c.in_err-write_message.field-0.0 (one ∷ []) (c.args.made.front ++ own.octets) c.self.view_is them (text-one one (c.args.made.front ++ own.octets) c.requires.text) n c.in_err-write_message.ensures.writes)

pub invariant_of-self-2 : goal.invariant_of-self-2
invariant_of-self-2 g c =
    let own = c.args.made.own in
    let taken = subst (λ s. append_refusal s own.octets ≡ None) (sym c.self.view_is) c.requires.taken in
    let room = (append_free (state_of c.self.inside) own.octets taken).1 in
    let messages : c.put_message.new.messages.items ≡ c.self.inside.messages.items ++ own ∷ [] = c.put_message.ensures.messages ∙ ap (λ (l : List Message). l ++ own ∷ []) c.in_ok-write_message.ensures.messages in
    let chained = subst (λ (l : List Message). AreChained l c.put_message.new.contents.items c.put_message.new.previous.items) messages c.put_message.ensures.chained in
    record {
      indexes = rw messages (AreIndexes-messages (kept_of c.self.inside) (indexes_of c.self.inside) (own ∷ []) c.put_message.new.contents.items c.put_message.new.previous.items c.self.invariant.indexes
          (AreStored-one own (record { entities = c.requires.appendable.marked.entities; tree = c.requires.appendable.marked.tree }) c.requires.appendable.dated) (omega (arith, room)) chained c.put_message.ensures.count);
      message_bound = c.self.invariant.message_bound;
    }

pub returns-clause-changes : goal.returns-clause-changes
returns-clause-changes g c =
    let own = c.args.made.own in
    let old = state_of c.self.inside in
    let one = records.Message own.folder own.flags (Some c.args.made.mark) own.date own.octets in
    let appendable = subst (λ s. IsAppendable s own.folder own.flags c.args.made.mark own.date own.octets) (sym c.self.view_is) c.requires.appendable in
    let taken = subst (λ s. append_refusal s own.octets ≡ None) (sym c.self.view_is) c.requires.taken in
    let them = AreRecords-message old (indexes_of c.self.inside) own.folder own.flags c.args.made.mark own.date own.octets c.self.invariant.indexes c.self.invariant.message_bound appendable taken in
    let messages = c.put_message.ensures.messages ∙ ap (λ (l : List Message). l ++ own ∷ []) c.in_ok-write_message.ensures.messages
    ∙ ap (λ (m : Message). c.self.inside.messages.items ++ m ∷ []) c.requires.own_is in
    let n = ap (λ m. let s : StoreState = record { kept = record (kept_of c.self.inside) { messages = m }; message_max = c.self.inside.message_max; failed = c.write_message.new.progress.failed; end = c.write_message.new.progress.end } in s) messages in
    let written = c.in_ok-write_message.ensures.writes in
    changes-written c.args.self.now old c.write_message.new.progress _ (g.J.Keeper.observed c.args.keeper.now).octets (g.J.Keeper.observed c.write_message.new.keeper).octets
    (one ∷ []) (c.args.made.front ++ own.octets) c.self.view_is them (text-one one (c.args.made.front ++ own.octets) c.requires.text) written.0 written.1 n
