-- What a call that changes a store does, by its answer.
use Rattle.std.specs.Prelude.{◌≡◌, ◌≢◌, ℕ, ◌<◌, ◌≤◌, List, ◌++◌, length, take, map, Bool, true, false, ◌||◌, not, Option, Some, None, is_some, Result, Ok, Err, nat_lt, slice_get, IfSome, if◌then◌else◌}
use Rattle.std.specs.List.{All, flat_map, list_all}
use Rattle.std.specs.Option.{option_map_or}
use Rattle.mail_wire.specs.Keeping.{one_more, with_last}
use Rattle.mail_wire.specs.KeeperState.{KeeperState}
use Rattle.address_grammar.specs.declared.Address.{Address}
use Rattle.mail_store.specs.declared.changing.StoreFault.{StoreFault}
use Rattle.mail_store.specs.declared.changing.StoreFault.TheVariants as faults
use Rattle.kept_mail.specs.declared.delivery.Delivery.{Delivery}
use Rattle.kept_mail.specs.declared.kept.Message.{Message}
use Rattle.kept_mail.specs.declared.kept.Entry.{Entry}
use Rattle.kept_mail.specs.declared.kept.Recipient.{Recipient}
use Rattle.kept_mail.specs.declared.limits.TheConstants.{RECIPIENTS_MAX}
use Rattle.journal_records.specs.declared.records.Record.{Record}
use Rattle.journal_records.specs.declared.records.Record.TheVariants as records
use Rattle.journal_records.specs.declared.versions.Version.{Version}
use Rattle.journal_records.specs.declared.versions.Version.TheVariants as versions
use Rattle.journal_records.specs.Versions.{version_after_all}
use Rattle.journal_records.specs.Addresses.{IsSendable}
use Rattle.journal_records.specs.Grammar.{IsDate}
use Rattle.kept_mail.specs.Kept.{Kept, nothing, store_of, find_account, find_folder, is_local}
use Rattle.mail_store.specs.Opening.{HasRecords}
use Rattle.kept_mail.specs.Deliveries.{has_large_octets, has_many_things}
use Rattle.kept_mail.specs.Records.{AreRecords, are_too_many}
use Rattle.journal_records.specs.Spelling.{record_text, journal}
use Rattle.journal_records.specs.Stored.{HasMark}
use Rattle.mail_store.specs.StoreState.{StoreState, with_records}

-- ---- every changing call

-- At Ok these records, which are such, were put last in the store and, by one call, in the keeper. Where the keeper failed the
-- store is as before, but that it has failed, and the keeper has a prefix of them, which are such. Else all is as before.
abbrev pub Changes : {T : Type 0} → StoreState → StoreState → Option (List ℕ) → Option (List ℕ) → Result T StoreFault → List Record → Type 0
Changes old new had has (Ok done) all =
    AreRecords versions.Two old.kept all × (new ≡ with_records old all) × (has ≡ with_last had (flat_map record_text all))
Changes old new had has (Err faults.Keeper) all =
    AreRecords versions.Two old.kept all × (new ≡ record old { failed = true }) × (n : ℕ) × (has ≡ with_last had (take n (flat_map record_text all)))
Changes old new had has (Err faults.TooLarge) all = (new ≡ old) × (has ≡ had)
Changes old new had has (Err faults.Exists) all = (new ≡ old) × (has ≡ had)
Changes old new had has (Err faults.NoSuch) all = (new ≡ old) × (has ≡ had)
Changes old new had has (Err faults.Memory) all = (new ≡ old) × (has ≡ had)

-- Nothing was done: the store is as before, the keeper wasn't called, so that it tells the same, and the answer is no fault of it.
pub record LeavesAll {T : Type 0} (old new : StoreState) (before now : KeeperState) (result : Result T StoreFault) : Type 0 where
  pub store : new ≡ old
  pub keeper : now ≡ before
  pub answer : result ≢ Err faults.Keeper

-- What a call that wasn't done left of the keeper. A refused one didn't come to it, so that it tells the same. One that the keeper broke
-- off made its one append, and one that wanted memory made none.
abbrev pub LeavesKeeper : KeeperState → KeeperState → StoreFault → Type 0
LeavesKeeper before now faults.Keeper = now.appends ≡ one_more before.appends
LeavesKeeper before now faults.Memory = now.appends ≡ before.appends
LeavesKeeper before now faults.Exists = now ≡ before
LeavesKeeper before now faults.NoSuch = now ≡ before
LeavesKeeper before now faults.TooLarge = now ≡ before

-- The call is refused exactly so, unless memory was wanted; and only a call that isn't refused comes to the keeper.
abbrev pub IsRefusedAs : {T : Type 0} → Result T StoreFault → Option StoreFault → Type 0
IsRefusedAs (Ok done) refusal = refusal ≡ None
IsRefusedAs (Err faults.Keeper) refusal = refusal ≡ None
IsRefusedAs (Err faults.Memory) refusal = Unit {0}
IsRefusedAs (Err faults.Exists) refusal = refusal ≡ Some faults.Exists
IsRefusedAs (Err faults.NoSuch) refusal = refusal ≡ Some faults.NoSuch
IsRefusedAs (Err faults.TooLarge) refusal = refusal ≡ Some faults.TooLarge

-- the store is the fold of these records, and the keeper holds their journal, which goes on in version 2
pub record IsStoreOf (store : StoreState) (octets : Option (List ℕ)) (all : List Record) : Type 0 where
  pub version : Version
  pub records : AreRecords version nothing all
  pub last_version : version_after_all version all ≡ versions.Two
  pub kept_is : store.kept ≡ store_of all
  pub holds : octets ≡ Some (journal version all)

-- the keeper has octets that open with all the old records and the first of the new ones
pub record HoldsFirst (octets : Option (List ℕ)) (all more : List Record) : Type 0 where
  pub kept : List ℕ
  pub count : ℕ
  pub holds : octets ≡ Some kept
  pub records : HasRecords kept (all ++ take count more)

-- ---- refusals

-- the domain is there, or there would be too many
abbrev pub domain_refusal : Kept → List ℕ → Option StoreFault
domain_refusal kept domain =
    if is_local kept domain then Some faults.Exists
    else if are_too_many (length kept.domains) 1 then Some faults.TooLarge
    else None

-- An account of the mailbox is there, the domain isn't, or there would be too many. An account brings its INBOX.
abbrev pub account_refusal : (List ℕ → Option (Option Address)) → Kept → Address → Option StoreFault
account_refusal path_of kept address =
    if is_some (find_account path_of kept address) then Some faults.Exists
    else if not (is_local kept address.domain) then Some faults.NoSuch
    else if are_too_many (length kept.accounts) 1 || are_too_many (length kept.folders) 1 then Some faults.TooLarge
    else None

-- the account has a folder that is meant by the name, or there would be too many
abbrev pub folder_refusal : Kept → ℕ → List ℕ → Option StoreFault
folder_refusal kept account name =
    if is_some (find_folder kept account name) then Some faults.Exists
    else if are_too_many (length kept.folders) 1 then Some faults.TooLarge
    else None

-- ---- deliver

-- the accounts are there, the date is one, the octets have trees and these marks, and the addresses are such and not too many
pub record IsDeliverable (store : StoreState) (delivery : Delivery) : Type 0 where
  pub known : All (λ account. account < length store.kept.accounts) delivery.local
  pub dated : IsDate delivery.date
  pub local_marked : HasMark delivery.local_octets delivery.local_mark
  pub remote_marked : HasMark delivery.remote_octets delivery.remote_mark
  pub path : IfSome delivery.path IsSendable
  pub addresses : All IsSendable delivery.remote
  pub few : length delivery.remote ≤ RECIPIENTS_MAX

-- A delivery is refused where a message has more octets than one may have, or where it would be more things than a store may keep.
abbrev pub delivery_refusal : StoreState → Delivery → Option StoreFault
delivery_refusal store delivery =
    if has_large_octets store.message_max delivery || has_many_things store.kept delivery then Some faults.TooLarge else None

-- ---- append

-- the folder is there, the flags and the date are such, and the octets have a tree and this mark
pub record IsAppendable (store : StoreState) (folder flags mark : ℕ) (date octets : List ℕ) : Type 0 where
  pub known : folder < length store.kept.folders
  pub small : flags < 32
  pub dated : IsDate date
  pub marked : HasMark octets mark

-- the octets are more than the limit, or there would be too many messages
abbrev pub append_refusal : StoreState → List ℕ → Option StoreFault
append_refusal store octets =
    if nat_lt store.message_max (length octets) || are_too_many (length store.kept.messages) 1 then Some faults.TooLarge else None

-- ---- flags and expunge

-- the message is there and isn't expunged
abbrev pub is_live : Kept → ℕ → Bool
is_live kept id = option_map_or (λ (message : Message). message.live) (slice_get kept.messages id) false

-- New flags are refused where the message isn't there.
abbrev pub flags_refusal : Kept → ℕ → Option StoreFault
flags_refusal kept id = if is_live kept id then None else Some faults.NoSuch

-- An expunge is refused where one of the messages isn't there.
abbrev pub expunge_refusal : Kept → List ℕ → Option StoreFault
expunge_refusal kept ids = if list_all (is_live kept) ids then None else Some faults.NoSuch

-- The records that expunge these messages.
abbrev pub expunged : List ℕ → List Record
expunged ids = map records.Expunge ids

-- ---- settle

-- the entry has this recipient, who isn't settled
abbrev pub is_unsettled : Kept → ℕ → ℕ → Bool
is_unsettled kept entry index = option_map_or (λ (one : Entry). option_map_or (λ (recipient : Recipient). recipient.waits) (slice_get one.recipients index) false) (slice_get kept.entries entry) false

-- Settling is refused where the entry has no such recipient, or one who is settled.
abbrev pub settle_refusal : Kept → ℕ → ℕ → Option StoreFault
settle_refusal kept entry index = if is_unsettled kept entry index then None else Some faults.NoSuch
