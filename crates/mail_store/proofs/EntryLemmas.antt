-- What is kept after a delivery.
use Rattle.journal_records.specs.declared.versions.Version.TheVariants as versions
use Rattle.std.proofs.Common.{◌≡◌, ◌⊎◌, ℕ, suc, ◌+◌, ◌<◌, ◌≤◌, Bool, true, false, cond, ◌||◌, ◌&&◌, eqb, List, [], ◌∷◌, ◌++◌, length, map, Option, Some, None, refl, sym, ap, subst, ◌∙◌, arith, inl, inr, append-nil}
use Rattle.std.specs.List.{flat_map}
use Rattle.std.specs.Prelude.{IfSome}
use Rattle.std.specs.Option.{option_to_list, option_and_then}
use Rattle.std.proofs.lemmas.List.{length-map}
use Rattle.std.proofs.lemmas.List.Elements.{All-map}
use Rattle.std.proofs.lemmas.Bool.{cases_Bool, ne_eqb, or_parts, false≢true}
use Rattle.address_grammar.specs.Addresses.{address_text}
use Rattle.mail_wire.specs.Keeping.{with_last}
use Rattle.kept_mail.specs.declared.contents.Content.{Content}
use Rattle.kept_mail.specs.declared.delivery.Delivery.{Delivery}
use Rattle.kept_mail.specs.declared.kept.Entry.{Entry}
use Rattle.kept_mail.specs.declared.kept.Message.{Message}
use Rattle.kept_mail.specs.declared.kept.Recipient.{Recipient}
use Rattle.kept_mail.specs.declared.limits.TheConstants.{THINGS_MAX}
use Rattle.journal_records.specs.declared.records.Record.{Record}
use Rattle.journal_records.specs.declared.records.Record.TheVariants as records
use Rattle.kept_mail.specs.private.Chains.{AreChained}
use Rattle.journal_records.specs.Addresses.{IsKeptAddress, path_text}
use Rattle.kept_mail.specs.Deliveries.{delivered, queued, copy_for, inboxes_of, has_large_octets, has_many_things}
use Rattle.kept_mail.specs.private.Delivering.{copied, entry_of}
use Rattle.kept_mail.specs.Kept.{Kept, after_all, waiting}
use Rattle.kept_mail.specs.Records.{AreRecords, recipient_count}
use Rattle.mail_store.specs.private.Adding.{CanWait}
use Rattle.journal_records.specs.Grammar.{IsDate}
use Rattle.journal_records.specs.Spelling.{record_text}
use Rattle.journal_records.specs.Stored.{IsStored}
use Rattle.mail_store.specs.Changing.{IsDeliverable}
use Rattle.mail_store.specs.Queue.{IsKeptEntry}
use Rattle.mail_store.specs.StoreState.{StoreState, with_records, Indexes, AreIndexes, AreStored}
use Rattle.mail_store.specs.private.Queue.{opened}
use Rattle.mail_store.proofs.ChangeLemmas.{after_all-append, with_nothing}
use Rattle.mail_store.proofs.DeliveryLemmas.{address-again, after-copies, copies_few, path-again, queue-room}
use Rattle.mail_store.proofs.IndexLemmas.{AreIndexes-messages, AreIndexes-entry}

-- ---- where nothing is written

none_for : (kept : Kept) (date : List ℕ) (mark : ℕ) (octets local : List ℕ) (none : Bool) (one : Record) → (eqb (length local) 0 && none) ≡ true
    → map (copy_for date mark octets) (inboxes_of kept local) ++ cond none [] (one ∷ []) ≡ []
none_for kept date mark octets [] true one e = refl
none_for kept date mark octets [] false one e = absurd cc
none_for kept date mark octets (x ∷ local) none one e =
    let some : eqb (length (x ∷ local)) 0 ≡ false = ne_eqb (suc (length local)) 0 (λ e. omega (arith, e)) in
    absurd (false≢true (rw some at e))

for_none : (kept : Kept) (date : List ℕ) (mark : ℕ) (octets local : List ℕ) (none : Bool) (one : Record) → map (copy_for date mark octets) (inboxes_of kept local) ++ cond none [] (one ∷ []) ≡ []
    → (eqb (length local) 0 && none) ≡ true
for_none kept date mark octets [] true one e = refl
for_none kept date mark octets [] false one e = absurd (cc e)
for_none kept date mark octets (x ∷ local) none one e = absurd (cc e)

-- exactly a delivery for nobody has no records
pub for-nobody : (kept : Kept) (delivery : Delivery) → (eqb (length delivery.local) 0 && eqb (length delivery.remote) 0) ≡ true → delivered kept delivery ≡ []
for-nobody kept delivery e =
    none_for kept delivery.date delivery.local_mark delivery.local_octets delivery.local (eqb (length delivery.remote) 0)
    (records.Queue (path_text delivery.path) (map address_text delivery.remote) (Some delivery.remote_mark) delivery.remote_octets) e

pub nobody-of : (kept : Kept) (delivery : Delivery) → delivered kept delivery ≡ [] → (eqb (length delivery.local) 0 && eqb (length delivery.remote) 0) ≡ true
nobody-of kept delivery e =
    for_none kept delivery.date delivery.local_mark delivery.local_octets delivery.local (eqb (length delivery.remote) 0)
    (records.Queue (path_text delivery.path) (map address_text delivery.remote) (Some delivery.remote_mark) delivery.remote_octets) e

-- no records leave all as it is
pub changes-nothing : (now : StoreState) (had : Option (List ℕ)) (all : List Record) → all ≡ []
    → AreRecords versions.Two now.kept all × (now ≡ with_records now all) × (had ≡ with_last had (flat_map record_text all))
changes-nothing now had all nobody = rw nobody (tt, refl, with_nothing had)

-- ---- the entry

to_none : (one : Option Record) → option_to_list one ≡ [] → one ≡ None
to_none None e = refl
to_none (Some one) e = absurd (cc e)

to_some : (one : Option Record) (x : Record) → option_to_list one ≡ x ∷ [] → one ≡ Some x
to_some None x e = absurd (cc e)
to_some (Some one) x e = cc

-- the record of a message that waits, and its entry
abbrev record_made : Delivery → Record
record_made delivery = records.Queue (path_text delivery.path) (map address_text delivery.remote) (Some delivery.remote_mark) delivery.remote_octets

abbrev entry_made : Delivery → Entry
entry_made delivery = record { path = path_text delivery.path; recipients = map waiting (map address_text delivery.remote); octets = delivery.remote_octets }

-- there is an entry exactly where there are remote recipients
entry-cases : (delivery : Delivery) (one : Option Record) (entry : Option Entry) → option_to_list one ≡ queued delivery → entry ≡ option_and_then entry_of one
    → ((queued delivery ≡ []) × (entry ≡ None))
    ⊎ ((eqb (length delivery.remote) 0 ≡ false) × (queued delivery ≡ record_made delivery ∷ []) × (entry ≡ Some (entry_made delivery)))
entry-cases delivery one entry is e =
    elim (cases_Bool (eqb (length delivery.remote) 0)) [
      | inl none ↦
          let nobody : queued delivery ≡ [] = rw none refl in
          inl (nobody, e ∙ ap (option_and_then entry_of) (to_none one (is ∙ nobody)))
      | inr some ↦
          let made : queued delivery ≡ record_made delivery ∷ [] = rw some refl in
          inr (some, made, e ∙ ap (option_and_then entry_of) (to_some one (record_made delivery) (is ∙ made)))
    ]

-- an entry has room, and its recipients have
abbrev pub HasEntryRoom : Kept → Entry → Type 0
HasEntryRoom kept entry = (length kept.entries < THINGS_MAX) × (recipient_count kept.entries + length entry.recipients ≤ THINGS_MAX)

-- that of a record has, where it is in order
pub recorded-room : (kept : Kept) (path : List ℕ) (addresses : List (List ℕ)) (octets : List ℕ) (entry : Entry) → CanWait kept path addresses
    → entry ≡ record { path = path; recipients = map waiting addresses; octets = octets } → IfSome (Some entry) (HasEntryRoom kept)
recorded-room kept path addresses octets entry order is =
    let count : length entry.recipients ≡ length addresses = ap (λ (e : Entry). length e.recipients) is ∙ length-map addresses waiting in
    (order.2, omega (arith, order.3, count))

entry-room : (kept : Kept) (max : ℕ) (delivery : Delivery) (one : Option Record) (entry : Option Entry) → (has_large_octets max delivery || has_many_things kept delivery) ≡ false
    → option_to_list one ≡ queued delivery → entry ≡ option_and_then entry_of one → IfSome entry (HasEntryRoom kept)
entry-room kept max delivery one entry small is e =
    elim (entry-cases delivery one entry is e) [
      | inl none ↦ rw none.1 tt
      | inr some ↦
          let many = (or_parts (has_large_octets max delivery) (has_many_things kept delivery) small).1 in
          let rooms = queue-room kept delivery many some.0 in
          let texts = length-map delivery.remote address_text in
          let count = length-map (map address_text delivery.remote) waiting in
          let room : HasEntryRoom kept (entry_made delivery) = (rooms.0, omega (arith, rooms.1, texts, count)) in
          rw some.2 room
    ]

pub few-recipients : (kept : Kept) (i : Indexes) (entry : Option Entry) → AreIndexes kept i → IfSome entry (HasEntryRoom kept)
    → i.recipients + recipient_count (option_to_list entry) ≤ THINGS_MAX
few-recipients kept i None x room = omega (arith, x.few.recipients, x.recipients_is)
few-recipients kept i (Some entry) x room = omega (arith, room.1, x.recipients_is)

-- the recipients aren't too many
pub entry-few : (kept : Kept) (i : Indexes) (max : ℕ) (delivery : Delivery) (one : Option Record) (entry : Option Entry) → AreIndexes kept i
    → (has_large_octets max delivery || has_many_things kept delivery) ≡ false → option_to_list one ≡ queued delivery → entry ≡ option_and_then entry_of one
    → i.recipients + recipient_count (option_to_list entry) ≤ THINGS_MAX
entry-few kept i max delivery one entry x small is e = few-recipients kept i entry x (entry-room kept max delivery one entry small is e)

-- the entry of a delivery may be kept
pub entry-kept : (store : StoreState) (delivery : Delivery) (one : Option Record) (entry : Option Entry) → IsDeliverable store delivery → option_to_list one ≡ queued delivery
    → entry ≡ option_and_then entry_of one → IfSome entry IsKeptEntry
entry-kept store delivery one entry d is e =
    elim (entry-cases delivery one entry is e) [
      | inl none ↦ rw none.1 tt
      | inr some ↦
          let may : IsKeptEntry (entry_made delivery) = record {
            path = path-again delivery.path d.path;
            addresses = All-map (λ (recipient : Recipient). IsKeptAddress recipient.address) waiting (map address_text delivery.remote)
                (All-map IsKeptAddress address_text delivery.remote (λ k a l. address-again _ (d.addresses k a l)));
            stored = record { entities = d.remote_marked.entities; tree = d.remote_marked.tree };
          } in
          rw some.2 may
    ]

-- ---- the indexes

-- those of a store that has an entry more, where there is one
pub indexes-entry : (kept : Kept) (i : Indexes) (entry : Option Entry) → AreIndexes kept i → IfSome entry (HasEntryRoom kept) → IfSome entry IsKeptEntry
    → AreIndexes (record kept { entries = kept.entries ++ option_to_list entry })
    (record i { recipients = i.recipients + recipient_count (option_to_list entry); open_entries = i.open_entries ++ opened (length kept.entries) entry })
indexes-entry kept i None x room may =
    let none : i.recipients + recipient_count [] ≡ i.recipients = omega arith in
    rw (append-nil kept.entries, none, append-nil i.open_entries) x
indexes-entry kept i (Some entry) x room may =
    let count : recipient_count (entry ∷ []) ≡ length entry.recipients = omega arith in
    rw count (AreIndexes-entry kept i entry x room.0 room.1 may)

pub AreIndexes-delivered : (kept : Kept) (i : Indexes) (max : ℕ) (delivery : Delivery) (copies : List Message) (one : Option Record) (entry : Option Entry)
    (messages : List Message) (entries : List Entry) (contents : List Content) (previous : List (Option ℕ)) (recipients : ℕ) (counts : List (ℕ × ℕ)) → AreIndexes kept i → IsStored delivery.local_octets → IsDate delivery.date
    → (has_large_octets max delivery || has_many_things kept delivery) ≡ false → copies ≡ map (copied delivery.date delivery.local_octets) (inboxes_of kept delivery.local)
    → option_to_list one ≡ queued delivery → entry ≡ option_and_then entry_of one → messages ≡ kept.messages ++ copies → entries ≡ kept.entries ++ option_to_list entry
    → AreChained messages contents previous → length contents ≡ length i.contents → recipients ≡ i.recipients + recipient_count (option_to_list entry)
    → IfSome entry IsKeptEntry → counts ≡ i.open_entries ++ opened (length kept.entries) entry
    → AreIndexes (record kept { messages = messages; entries = entries }) (record i { contents = contents; previous = previous; recipients = recipients; open_entries = counts })
AreIndexes-delivered kept i max delivery copies one entry messages entries contents previous recipients counts x tree dated small c is e m n chained count r may o =
    let copy = copied delivery.date delivery.local_octets in
    let inboxes = inboxes_of kept delivery.local in
    let stored : AreStored copies = subst AreStored (sym c) (record {
      each = All-map (λ (message : Message). IsStored message.octets) copy inboxes (λ k d l. tree);
      dated = All-map (λ (message : Message). IsDate message.date) copy inboxes (λ k d l. dated);
    }) in
    let first = AreIndexes-messages kept i copies contents previous x stored (copies_few kept max delivery copies small c) (subst (λ l. AreChained l contents previous) m chained) count in
    rw (m, n, r, o)
    (indexes-entry (record kept { messages = kept.messages ++ copies }) (record i { contents = contents; previous = previous }) entry first (entry-room kept max delivery one entry small is e) may)

-- ---- what is kept

after-queued : (kept : Kept) (delivery : Delivery) (one : Option Record) (entry : Option Entry) → option_to_list one ≡ queued delivery → entry ≡ option_and_then entry_of one
    → (let new : Kept = record kept { entries = kept.entries ++ option_to_list entry } in new) ≡ after_all kept (queued delivery)
after-queued kept delivery one entry is e =
    elim (entry-cases delivery one entry is e) [
      | inl none ↦ rw (none.0, none.1) (ap (λ es. let new : Kept = record kept { entries = es } in new) (append-nil kept.entries))
      | inr some ↦ rw (some.1, some.2) refl
    ]

pub after-delivered : (kept : Kept) (delivery : Delivery) (copies : List Message) (one : Option Record) (entry : Option Entry) (messages : List Message) (entries : List Entry)
    → copies ≡ map (copied delivery.date delivery.local_octets) (inboxes_of kept delivery.local) → option_to_list one ≡ queued delivery → entry ≡ option_and_then entry_of one
    → messages ≡ kept.messages ++ copies → entries ≡ kept.entries ++ option_to_list entry
    → (let new : Kept = record kept { messages = messages; entries = entries } in new) ≡ after_all kept (delivered kept delivery)
after-delivered kept delivery copies one entry messages entries c is e m n =
    let folders = inboxes_of kept delivery.local in
    let put = map (copied delivery.date delivery.local_octets) folders in
    let first : Kept = record kept { messages = kept.messages ++ put } in
    let made : (let new : Kept = record kept { messages = messages; entries = entries } in new) ≡ (let new : Kept = record first { entries = first.entries ++ option_to_list entry } in new) =
    ap (λ l. let new : Kept = record kept { messages = l; entries = entries } in new) (m ∙ ap (λ l. kept.messages ++ l) c)
    ∙ ap (λ l. let new : Kept = record first { entries = l } in new) n in
    made ∙ after-queued first delivery one entry is e ∙ ap (λ k. after_all k (queued delivery)) (sym (after-copies kept delivery.date delivery.local_mark delivery.local_octets folders))
    ∙ sym (after_all-append kept (map (copy_for delivery.date delivery.local_mark delivery.local_octets) folders) (queued delivery))
