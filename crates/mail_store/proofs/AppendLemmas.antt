-- A message that is put last in a folder.
use Rattle.journal_records.specs.declared.versions.Version.TheVariants as versions
use Rattle.std.proofs.Common.{◌≡◌, ℕ, ◌<◌, ◌≤◌, ◌||◌, List, [], ◌∷◌, ◌++◌, length, Option, Some, None, refl, sym, subst, arith}
use Rattle.std.specs.Prelude.{nat_lt}
use Rattle.std.proofs.lemmas.Bool.{ltb-false, or_parts}
use Rattle.journal_records.specs.declared.records.Record.TheVariants as records
use Rattle.kept_mail.specs.declared.limits.TheConstants.{THINGS_MAX, MESSAGE_MAX}
use Rattle.journal_records.specs.Spelling.{record_text}
use Rattle.journal_records.specs.Stored.{HasMark, IsStored, IsStoredWith}
use Rattle.kept_mail.specs.declared.kept.Message.{Message}
use Rattle.kept_mail.specs.Records.{are_too_many, AreRecords}
use Rattle.mail_store.specs.private.Appending.{live_message, IsNewMessage}
use Rattle.mail_store.specs.Changing.{IsAppendable, append_refusal}
use Rattle.mail_store.specs.StoreState.{StoreState, Indexes, AreIndexes}
use Rattle.mail_store.proofs.ChangeLemmas.{has_room}
use Rattle.mail_store.proofs.DeliveryLemmas.{free_large, message-record}

-- where a message isn't refused it is small enough, and there is room for it
pub append_free : (store : StoreState) (octets : List ℕ) → append_refusal store octets ≡ None
    → (length octets ≤ store.message_max) × (length store.kept.messages < THINGS_MAX)
append_free store octets none =
    let large = nat_lt store.message_max (length octets) in
    let many = are_too_many (length store.kept.messages) 1 in
    let parts = or_parts large many (free_large (large || many) none) in
    (ltb-false store.message_max (length octets) parts.0, has_room (length store.kept.messages) parts.1)

pub AreRecords-message : (store : StoreState) (i : Indexes) (folder flags mark : ℕ) (date octets : List ℕ) → AreIndexes store.kept i → store.message_max ≤ MESSAGE_MAX
    → IsAppendable store folder flags mark date octets → append_refusal store octets ≡ None → AreRecords versions.Two store.kept (records.Message folder flags (Some mark) date octets ∷ [])
AreRecords-message store i folder flags mark date octets x bound is none =
    let free = append_free store octets none in
    (message-record store.kept folder flags mark date octets is.dated is.marked (omega (arith, free.0, bound)) is.known x.few.folders is.small free.1, tt)

-- what is put last for a message
pub new_message_is : (store : StoreState) (folder flags mark : ℕ) (date octets front : List ℕ) (own_mark : ℕ) (own : Message) → IsAppendable store folder flags mark date octets
    → append_refusal store octets ≡ None → front ++ octets ≡ record_text (records.Message folder flags (Some mark) date octets) → own_mark ≡ mark → own ≡ live_message folder flags date octets
    → IsNewMessage store front own_mark own
new_message_is store folder flags mark date octets front own_mark own is taken text m o =
    subst (λ (k : ℕ). IsNewMessage store front k own) (sym m)
    (subst (IsNewMessage store front mark) (sym o) (record { appendable = is; own_is = refl; text = text; taken = taken }))

-- octets with a mark may be kept
pub marked_stored : (octets : List ℕ) (mark : ℕ) → HasMark octets mark → IsStored octets
marked_stored octets mark h = record { entities = h.entities; tree = h.tree }

pub stored_with : (mark : Option ℕ) (octets : List ℕ) → IsStoredWith mark octets → IsStored octets
stored_with None octets h = h
stored_with (Some mark) octets h = marked_stored octets mark h
