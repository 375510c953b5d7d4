-- The records of a delivery.
use Rattle.journal_records.specs.declared.versions.Version.{Version}
use Rattle.journal_records.specs.declared.versions.Version.TheVariants as versions
use Rattle.std.proofs.Common.{◌≡◌, ◌⊎◌, ℕ, suc, ◌+◌, ◌<◌, ◌≤◌, Bool, true, false, not, cond, ◌||◌, ◌&&◌, eqb, List, [], ◌∷◌, ◌++◌, length, map, take, get_or, Option, Some, None, unwrap_or, refl, sym, ap, ap₂, subst, ◌∙◌, arith, inl, inr, append_assoc, append-nil, length-append}
use Rattle.std.specs.List.{flat_map, All, AllByRecursion}
use Rattle.std.specs.Prelude.{IfSome, ◌*◌}
use Rattle.address_grammar.specs.declared.Address.{Address}
use Rattle.address_grammar.specs.Addresses.{address_text}
use Rattle.std.specs.Option.{option_to_list}
use Rattle.std.proofs.lemmas.Grind.{flat_map-append}
use Rattle.std.proofs.lemmas.List.{take_more, length-map}
use Rattle.std.proofs.lemmas.List.Elements.{All-head, All-tail, All-map}
use Rattle.std.proofs.lemmas.Option.{slice_get-get_or}
use Rattle.std.proofs.lemmas.Bool.{ltb-false, cases_Bool, ne_eqb, or_parts}
use Rattle.address_grammar.proofs.WritingLemmas.{path_again}
use Rattle.kept_mail.specs.declared.kept.Message.{Message}
use Rattle.journal_records.specs.declared.records.Record.{Record}
use Rattle.journal_records.specs.declared.records.Record.TheVariants as records
use Rattle.journal_records.specs.Addresses.{IsSendable, path_text, IsKeptAddress}
use Rattle.journal_records.specs.Spelling.{IsWritableRecord, record_text, octet_list, HasLength, number}
use Rattle.mail_store.specs.Changing.{IsDeliverable, delivery_refusal}
use Rattle.kept_mail.specs.Deliveries.{delivered, queued, copy_for, inboxes_of, has_large_octets, has_many_things}
use Rattle.kept_mail.specs.Records.{are_too_many, AreRecords, IsRecord, recipient_count}
use Rattle.mail_store.specs.declared.changing.StoreFault.TheVariants as faults
use Rattle.kept_mail.specs.private.Delivering.{copied, HasShortCopies, fronts_text, delivery_text}
use Rattle.kept_mail.specs.Kept.{Kept, after_record, after_all, inbox_of}
use Rattle.journal_records.specs.Grammar.{IsDate}
use Rattle.journal_records.specs.Stored.{HasMark}
use Rattle.journal_records.specs.Versions.{version_after, version_after_all}
use Rattle.mail_store.specs.StoreState.{StoreState, Indexes, AreIndexes}
use Rattle.journal_records.specs.declared.limits.TheConstants.{TEXT_MAX, RECORD_MAX}
use Rattle.kept_mail.specs.declared.limits.TheConstants.{THINGS_MAX, MESSAGE_MAX, RECIPIENTS_MAX}
use Rattle.mail_store.proofs.ChangeLemmas.{has_room}
use Rattle.mail_store.proofs.IndexLemmas.{first_folder_within}
use Rattle.kept_mail.specs.declared.delivery.Delivery.{Delivery}

inboxes-push : (kept : Kept) (accounts : List ℕ) (account folder : ℕ) → inbox_of kept account ≡ Some folder
    → inboxes_of kept (accounts ++ account ∷ []) ≡ inboxes_of kept accounts ++ folder ∷ []
inboxes-push kept [] account folder e = ap (λ o. unwrap_or o 0 ∷ []) e
inboxes-push kept (x ∷ accounts) account folder e = ap (λ l. unwrap_or (inbox_of kept x) 0 ∷ l) (inboxes-push kept accounts account folder e)

copies-push : (date : List ℕ) (mark : ℕ) (octets folders : List ℕ) (folder : ℕ) → map (copy_for date mark octets) (folders ++ folder ∷ []) ≡ map (copy_for date mark octets) folders ++ copy_for date mark octets folder ∷ []
copies-push date mark octets [] folder = refl
copies-push date mark octets (x ∷ folders) folder = ap (λ l. copy_for date mark octets x ∷ l) (copies-push date mark octets folders folder)

fronts-push : (fronts : List (List ℕ)) (front octets : List ℕ) → fronts_text (fronts ++ front ∷ []) octets ≡ fronts_text fronts octets ++ (front ++ octets)
fronts-push fronts front octets =
    flat_map-append (λ before. before ++ octets) fronts (front ∷ []) ∙ ap (λ l. fronts_text fronts octets ++ l) (append-nil (front ++ octets))

-- the text of one more copy
pub copies-text-step : (date : List ℕ) (mark : ℕ) (octets : List ℕ) (kept : Kept) (accounts : List ℕ) (i account folder : ℕ) (fronts : List (List ℕ)) (front : List ℕ) → i < length accounts
    → account ≡ get_or accounts i 0 → inbox_of kept account ≡ Some folder
    → fronts_text fronts octets ≡ flat_map record_text (map (copy_for date mark octets) (inboxes_of kept (take i accounts)))
    → front ++ octets ≡ record_text (copy_for date mark octets folder)
    → fronts_text (fronts ++ front ∷ []) octets ≡ flat_map record_text (map (copy_for date mark octets) (inboxes_of kept (take (i + 1) accounts)))
copies-text-step date mark octets kept accounts i account folder fronts front within is e o n =
    let before = inboxes_of kept (take i accounts) in
    let one = copy_for date mark octets folder in
    let more : inboxes_of kept (take (i + 1) accounts) ≡ before ++ folder ∷ [] =
    ap (inboxes_of kept) (take_more accounts i 0 within ∙ ap (λ a. take i accounts ++ a ∷ []) (sym is)) ∙ inboxes-push kept (take i accounts) account folder e in
    fronts-push fronts front octets ∙ ap (λ l. fronts_text fronts octets ++ l) n ∙ ap (λ l. l ++ record_text one) o
    ∙ ap (λ l. flat_map record_text (map (copy_for date mark octets) before) ++ l) (sym (append-nil (record_text one)))
    ∙ sym (flat_map-append record_text (map (copy_for date mark octets) before) (one ∷ []))
    ∙ ap (flat_map record_text) (sym (copies-push date mark octets before folder) ∙ ap (map (copy_for date mark octets)) (sym more))

pub AreRecords-append : (version : Version) (kept : Kept) (all more : List Record) → AreRecords version kept all → AreRecords (version_after_all version all) (after_all kept all) more → AreRecords version kept (all ++ more)
AreRecords-append version kept [] more a b = b
AreRecords-append version kept (x ∷ all) more a b = (a.0, AreRecords-append (version_after version x) (after_record kept x) all more a.1 b)

-- no record leads out of version 2
two_after : (one : Record) → version_after versions.Two one ≡ versions.Two
two_after (records.Account address password) = refl
two_after (records.Domain name) = refl
two_after (records.Folder account name) = refl
two_after (records.Message folder flags mark date octets) = refl
two_after (records.Flags message flags) = refl
two_after (records.Expunge message) = refl
two_after (records.Queue path addresses mark octets) = refl
two_after (records.Settle entry index) = refl
two_after records.Version = refl

pub two_stays : (all : List Record) → version_after_all versions.Two all ≡ versions.Two
two_stays [] = refl
two_stays (one ∷ all) = ap (λ (v : Version). version_after_all v all) (two_after one) ∙ two_stays all

pub AreRecords-more : (kept : Kept) (all more : List Record) → AreRecords versions.Two kept all → AreRecords versions.Two (after_all kept all) more → AreRecords versions.Two kept (all ++ more)
AreRecords-more kept all more a b = AreRecords-append versions.Two kept all more a (subst (λ (v : Version). AreRecords v (after_all kept all) more) (sym (two_stays all)) b)

-- copies are put after the messages
pub after-copies : (kept : Kept) (date : List ℕ) (mark : ℕ) (octets folders : List ℕ) → after_all kept (map (copy_for date mark octets) folders)
    ≡ (let new : Kept = record kept { messages = kept.messages ++ map (copied date octets) folders } in new)
after-copies kept date mark octets [] = ap (λ ms. let new : Kept = record kept { messages = ms } in new) (sym (append-nil kept.messages))
after-copies kept date mark octets (folder ∷ folders) =
    after-copies (after_record kept (copy_for date mark octets folder)) date mark octets folders
    ∙ ap (λ ms. let new : Kept = record kept { messages = ms } in new) (append_assoc kept.messages (copied date octets folder ∷ []) (map (copied date octets) folders))

-- a message that is small enough is a record
pub message-record : (kept : Kept) (folder flags mark : ℕ) (date octets : List ℕ) → IsDate date → HasMark octets mark → length octets + 41 ≤ RECORD_MAX
    → folder < length kept.folders → length kept.folders ≤ THINGS_MAX → flags < 32 → length kept.messages < THINGS_MAX
    → IsRecord versions.Two kept (records.Message folder flags (Some mark) date octets)
message-record kept folder flags mark date octets dated stored short there few small room =
    let len = length-append date (octet_list octets) in
    record {
      fits = (omega (arith, there, few), omega (arith, dated.len), omega (arith, short));
      short = omega (arith, len, short, dated.len);
      of_version = tt;
      in_order = (there, small, dated, stored, room);
    }

pub AreRecords-copies : (kept : Kept) (date : List ℕ) (mark : ℕ) (octets folders : List ℕ) → IsDate date → HasMark octets mark → length octets + 41 ≤ RECORD_MAX
    → All (λ folder. folder < length kept.folders) folders → length kept.folders ≤ THINGS_MAX → length kept.messages + length folders ≤ THINGS_MAX
    → AreRecords versions.Two kept (map (copy_for date mark octets) folders)
AreRecords-copies kept date mark octets [] dated stored small known few room = tt
AreRecords-copies kept date mark octets (folder ∷ folders) dated stored small known few room =
    let there : folder < length kept.folders = All-head (λ x. x < length kept.folders) folder folders known in
    let count = length-append kept.messages (copied date octets folder ∷ []) in (
      message-record kept folder 0 mark date octets dated stored small there few (omega arith) (omega (arith, room)),
      AreRecords-copies (after_record kept (copy_for date mark octets folder)) date mark octets folders dated stored small (All-tail (λ x. x < length kept.folders) folder folders known) few
          (omega (arith, room, count)),
    )

-- the INBOX of an account is a folder
inbox_known : (kept : Kept) (i : Indexes) (account : ℕ) → AreIndexes kept i → account < length kept.accounts → unwrap_or (inbox_of kept account) 0 < length kept.folders
inbox_known kept i account x there =
    let folder = get_or i.inboxes account 0 in
    let is : inbox_of kept account ≡ Some folder = sym (x.inboxes_is account) ∙ slice_get-get_or i.inboxes account 0 (omega (arith, there, x.account_count)) in
    let within = first_folder_within account 0 kept.folders folder is in
    rw is (omega (arith, within))

pub inboxes_known : (kept : Kept) (i : Indexes) (accounts : List ℕ) → AreIndexes kept i → All (λ account. account < length kept.accounts) accounts
    → All (λ folder. folder < length kept.folders) (inboxes_of kept accounts)
inboxes_known kept i accounts x known =
    All-map (λ folder. folder < length kept.folders) (λ account. unwrap_or (inbox_of kept account) 0) accounts (λ k d l. inbox_known kept i (get_or accounts k d) x (known k d l))

-- copies are in folders that there are
pub copies_known : (kept : Kept) (i : Indexes) (date octets : List ℕ) (accounts : List ℕ) (copies : List Message) → AreIndexes kept i
    → All (λ account. account < length kept.accounts) accounts → copies ≡ map (copied date octets) (inboxes_of kept accounts)
    → All (λ message. message.folder < length i.contents) copies
copies_known kept i date octets accounts copies x known is =
    subst (All (λ (message : Message). message.folder < length i.contents)) (sym is)
    (All-map (λ (message : Message). message.folder < length i.contents) (copied date octets) (inboxes_of kept accounts)
    (subst (λ n. All (λ folder. folder < n) (inboxes_of kept accounts)) (sym x.folder_count) (inboxes_known kept i accounts x known)))

-- they aren't too many
pub copies_few : (kept : Kept) (max : ℕ) (delivery : Delivery) (copies : List Message) → (has_large_octets max delivery || has_many_things kept delivery) ≡ false
    → copies ≡ map (copied delivery.date delivery.local_octets) (inboxes_of kept delivery.local) → length kept.messages + length copies ≤ THINGS_MAX
copies_few kept max delivery copies small is =
    let many = (or_parts (has_large_octets max delivery) (has_many_things kept delivery) small).1 in
    let few = ltb-false THINGS_MAX (length kept.messages + length delivery.local) (or_parts (are_too_many (length kept.messages) (length delivery.local)) _ many).0 in
    let first = ap length is ∙ length-map (inboxes_of kept delivery.local) (copied delivery.date delivery.local_octets) in
    let second = length-map delivery.local (λ account. unwrap_or (inbox_of kept account) 0) in
    omega (arith, few, first, second)

-- the texts of addresses, each after its length
addresses-short : (addresses : List Address) → All IsSendable addresses → length (flat_map octet_list (map address_text addresses)) ≤ length addresses * 65540
addresses-short [] sendable = omega arith
addresses-short (x ∷ addresses) sendable =
    let first = (All-head IsSendable x addresses sendable).1 in
    let ih = addresses-short addresses (All-tail IsSendable x addresses sendable) in
    let whole = length-append (octet_list (address_text x)) (flat_map octet_list (map address_text addresses)) in
    omega (arith, first, ih, whole)

addresses-fit : (addresses : List Address) → All IsSendable addresses → AllByRecursion HasLength (map address_text addresses)
addresses-fit [] sendable = tt
addresses-fit (x ∷ addresses) sendable =
    let first = (All-head IsSendable x addresses sendable).1 in
    (omega (arith, first), addresses-fit addresses (All-tail IsSendable x addresses sendable))

path-short : (path : Option Address) → IfSome path IsSendable → length (path_text path) ≤ TEXT_MAX
path-short None sendable = omega arith
path-short (Some address) sendable = sendable.1

pub queue-writable : (path : Option Address) (remote : List Address) (mark : ℕ) (octets : List ℕ) → IfSome path IsSendable → All IsSendable remote → length remote ≤ RECIPIENTS_MAX
    → length octets ≤ 33554432 → IsWritableRecord (records.Queue (path_text path) (map address_text remote) (Some mark) octets)
queue-writable path remote mark octets from to few small =
    let texts = map address_text remote in
    let count = length-map remote address_text in
    let front = path-short path from in
    let short = addresses-short remote to in
    let a = length-append (path_text path) (number (length texts) ++ (flat_map octet_list texts ++ mark ∷ octet_list octets)) in
    let b = length-append (flat_map octet_list texts) (mark ∷ octet_list octets) in
    ((omega (arith, front), omega (arith, count, few), addresses-fit remote to, omega (arith, small)), omega (arith, front, short, few, small, a, b))

where_some : (none large : Bool) → (not none && large) ≡ false → none ≡ false → large ≡ false
where_some true large e some = absurd cc
where_some false large e some = e

local-small : (max : ℕ) (delivery : Delivery) → has_large_octets max delivery ≡ false → eqb (length delivery.local) 0 ≡ false → length delivery.local_octets ≤ max
local-small max delivery small some = ltb-false max (length delivery.local_octets) (where_some _ _ (or_parts _ _ small).0 some)

remote-small : (max : ℕ) (delivery : Delivery) → has_large_octets max delivery ≡ false → eqb (length delivery.remote) 0 ≡ false → length delivery.remote_octets ≤ max
remote-small max delivery small some = ltb-false max (length delivery.remote_octets) (where_some _ _ (or_parts _ _ small).1 some)

pub address-again : (address : Address) → IsSendable address → IsKeptAddress (address_text address)
address-again address sendable = ((address, path_again address sendable.0), sendable.1)

pub path-again : (path : Option Address) → IfSome path IsSendable → (path_text path ≡ []) ⊎ IsKeptAddress (path_text path)
path-again None sendable = inl refl
path-again (Some address) sendable = inr (address-again address sendable)

copies-are : (kept : Kept) (i : Indexes) (date : List ℕ) (mark : ℕ) (octets accounts : List ℕ) → AreIndexes kept i → IsDate date → HasMark octets mark
    → (eqb (length accounts) 0 ≡ false → length octets ≤ MESSAGE_MAX) → All (λ account. account < length kept.accounts) accounts
    → length kept.messages + length accounts ≤ THINGS_MAX → AreRecords versions.Two kept (map (copy_for date mark octets) (inboxes_of kept accounts))
copies-are kept i date mark octets [] x dated stored small known room = tt
copies-are kept i date mark octets (account ∷ accounts) x dated stored small known room =
    let short = small (ne_eqb (suc (length accounts)) 0 (λ e. omega (arith, e))) in
    let count = length-map accounts (λ a. unwrap_or (inbox_of kept a) 0) in
    AreRecords-copies kept date mark octets (inboxes_of kept (account ∷ accounts)) dated stored (omega (arith, short)) (inboxes_known kept i (account ∷ accounts) x known) x.few.folders
    (omega (arith, room, count))

-- an entry and its recipients have room
pub queue-room : (kept : Kept) (delivery : Delivery) → has_many_things kept delivery ≡ false → eqb (length delivery.remote) 0 ≡ false
    → (length kept.entries < THINGS_MAX) × (recipient_count kept.entries + length delivery.remote ≤ THINGS_MAX)
queue-room kept delivery many some =
    let entry = are_too_many (length kept.entries) 1 in
    let recipients = are_too_many (recipient_count kept.entries) (length delivery.remote) in
    let both = or_parts (are_too_many (length kept.messages) (length delivery.local)) (not (eqb (length delivery.remote) 0) && (entry || recipients)) many in
    let rooms = or_parts entry recipients (where_some (eqb (length delivery.remote) 0) (entry || recipients) both.1 some) in
    (has_room (length kept.entries) rooms.0, ltb-false THINGS_MAX (recipient_count kept.entries + length delivery.remote) rooms.1)

queue-is : (kept : Kept) (store : StoreState) (delivery : Delivery) → kept.entries ≡ store.kept.entries → IsDeliverable store delivery → store.message_max ≤ MESSAGE_MAX
    → has_large_octets store.message_max delivery ≡ false → has_many_things store.kept delivery ≡ false → AreRecords versions.Two kept (queued delivery)
queue-is kept store delivery same d bound small many =
    elim (cases_Bool (eqb (length delivery.remote) 0)) [
      | inl none ↦ rw none tt
      | inr some ↦
          let octets = remote-small store.message_max delivery small some in
          let writable = queue-writable delivery.path delivery.remote delivery.remote_mark delivery.remote_octets d.path d.addresses d.few (omega (arith, octets, bound)) in
          let rooms = queue-room store.kept delivery many some in
          let count = length-map delivery.remote address_text in
          rw some (
            record {
              fits = writable.0;
              short = writable.1;
              of_version = tt;
              in_order = (
                path-again delivery.path d.path,
                All-map IsKeptAddress address_text delivery.remote (λ k a l. address-again _ (d.addresses k a l)),
                d.remote_marked,
                omega (arith, rooms.0, ap length same),
                omega (arith, rooms.1, count, ap recipient_count same),
              );
            },
            tt,
          )
    ]

-- the records of a delivery that isn't refused are such
pub AreRecords-delivered : (store : StoreState) (i : Indexes) (delivery : Delivery) → AreIndexes store.kept i → store.message_max ≤ MESSAGE_MAX → IsDeliverable store delivery
    → (has_large_octets store.message_max delivery || has_many_things store.kept delivery) ≡ false → AreRecords versions.Two store.kept (delivered store.kept delivery)
AreRecords-delivered store i delivery x bound d small =
    let parts = or_parts (has_large_octets store.message_max delivery) (has_many_things store.kept delivery) small in
    let few = ltb-false THINGS_MAX (length store.kept.messages + length delivery.local) (or_parts (are_too_many (length store.kept.messages) (length delivery.local)) _ parts.1).0 in
    let copies = map (copy_for delivery.date delivery.local_mark delivery.local_octets) (inboxes_of store.kept delivery.local) in
    AreRecords-more store.kept copies (queued delivery)
    (copies-are store.kept i delivery.date delivery.local_mark delivery.local_octets delivery.local x d.dated d.local_marked
    (λ some. (let octets = local-small store.message_max delivery parts.0 some in omega (arith, octets, bound))) d.known few)
    (queue-is (after_all store.kept copies) store delivery (ap (λ k. k.entries) (after-copies store.kept delivery.date delivery.local_mark delivery.local_octets (inboxes_of store.kept delivery.local))) d bound parts.0 parts.1)

-- the waiting message's record, where there is one, can be written
pub queued-writable : (store : StoreState) (delivery : Delivery) → IsDeliverable store delivery → store.message_max ≤ MESSAGE_MAX
    → (has_large_octets store.message_max delivery || has_many_things store.kept delivery) ≡ false → AllByRecursion IsWritableRecord (queued delivery)
queued-writable store delivery d bound small =
    elim (cases_Bool (eqb (length delivery.remote) 0)) [
      | inl none ↦ rw none tt
      | inr some ↦
          let octets = remote-small store.message_max delivery (or_parts (has_large_octets store.message_max delivery) (has_many_things store.kept delivery) small).0 some in
          rw some (queue-writable delivery.path delivery.remote delivery.remote_mark delivery.remote_octets d.path d.addresses d.few (omega (arith, octets, bound)), tt)
    ]

-- where there are copies, their records are within the limit
pub copies-short : (store : StoreState) (delivery : Delivery) → IsDeliverable store delivery → store.message_max ≤ MESSAGE_MAX
    → (has_large_octets store.message_max delivery || has_many_things store.kept delivery) ≡ false → HasShortCopies delivery
copies-short store delivery d bound small = λ some.
    let large = (or_parts (has_large_octets store.message_max delivery) (has_many_things store.kept delivery) small).0 in
    let octets = local-small store.message_max delivery large (ne_eqb (length delivery.local) 0 (λ e. omega (arith, e, some))) in
    omega (arith, octets, bound, d.dated.len)

-- the text of a delivery, by what stands before the octets of its records
pub delivered-text : (kept : Kept) (delivery : Delivery) (local : List (List ℕ)) (remote : Option (List ℕ))
    → fronts_text local delivery.local_octets ≡ flat_map record_text (map (copy_for delivery.date delivery.local_mark delivery.local_octets) (inboxes_of kept delivery.local))
    → fronts_text (option_to_list remote) delivery.remote_octets ≡ flat_map record_text (queued delivery)
    → delivery_text local remote delivery ≡ flat_map record_text (delivered kept delivery)
delivered-text kept delivery local remote copied waiting =
    let copies = map (copy_for delivery.date delivery.local_mark delivery.local_octets) (inboxes_of kept delivery.local) in
    ap₂ (λ l m. l ++ m) copied waiting ∙ sym (flat_map-append record_text copies (queued delivery))

-- ---- what isn't refused

pub free_large : (large : Bool) → cond large (Some faults.TooLarge) None ≡ None → large ≡ false
free_large true e = absurd cc
free_large false e = refl

pub delivery_free : (store : StoreState) (delivery : Delivery) → delivery_refusal store delivery ≡ None
    → (has_large_octets store.message_max delivery || has_many_things store.kept delivery) ≡ false
delivery_free store delivery e = free_large (has_large_octets store.message_max delivery || has_many_things store.kept delivery) e

pub delivery_large : (store : StoreState) (delivery : Delivery) → (has_large_octets store.message_max delivery || has_many_things store.kept delivery) ≡ true
    → delivery_refusal store delivery ≡ Some faults.TooLarge
delivery_large store delivery e = rw e refl

pub delivery_taken : (store : StoreState) (delivery : Delivery) → (has_large_octets store.message_max delivery || has_many_things store.kept delivery) ≡ false
    → delivery_refusal store delivery ≡ None
delivery_taken store delivery e = rw e refl
