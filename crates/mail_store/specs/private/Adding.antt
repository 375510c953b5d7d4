-- What reading a record and putting it last does, by its answer.
use Rattle.std.specs.Prelude.{◌≡◌, ◌≢◌, ◌⊎◌, ℕ, ◌+◌, ◌≤◌, Bool, List, [], ◌∷◌, length, Result, Ok, Err}
use Rattle.std.specs.List.{All}
use Rattle.journal_records.specs.declared.reading.ReadFault.{ReadFault}
use Rattle.journal_records.specs.declared.reading.ReadFault.TheVariants.{Memory, NoRecord}
use Rattle.journal_records.specs.declared.records.Record.{Record}
use Rattle.address_grammar.specs.declared.Address.{Address}
use Rattle.journal_records.specs.declared.records.Record.TheVariants as records
use Rattle.journal_records.specs.declared.versions.Version.{Version}
use Rattle.journal_records.specs.Versions.{version_after}
use Rattle.journal_records.specs.Addresses.{IsTextOfAddress, IsKeptAddress, mailbox_key}
use Rattle.kept_mail.specs.Kept.{Kept, after_record, after_all}
use Rattle.kept_mail.specs.declared.limits.TheConstants.{THINGS_MAX}
use Rattle.kept_mail.specs.Records.{HasRoom, recipient_count, IsInOrder, IsRecord}
use Rattle.kept_mail.specs.private.Names.{folder_key}
use Rattle.journal_records.specs.Spelling.{fields_of}
use Rattle.mail_store.specs.StoreState.{StoreState, with_records}

-- the store that keeps a record more, or some, and whose journal ends where it did
abbrev pub with_record : StoreState → Record → StoreState
with_record store one = record store { kept = after_record store.kept one }

-- the store whose journal is so many octets longer, the one whose journal ends there, and the one of which this is noted
abbrev pub lengthened : StoreState → ℕ → StoreState
lengthened store len = record store { end = store.end + len }

abbrev pub ended_at : StoreState → ℕ → StoreState
ended_at store end = record store { end = end }

abbrev pub noted : StoreState → Bool → StoreState
noted store failed = record store { failed = failed }

abbrev pub keeping : StoreState → List Record → StoreState
keeping store all = record store { kept = after_all store.kept all }

-- The record is kept, or it is none. The store changes only at Ok.
abbrev pub AddsRecord : {T : Type 0} → StoreState → StoreState → Result T ReadFault → Record → Type 0
AddsRecord old new (Ok done) one = IsInOrder old.kept one × (new ≡ with_record old one)
AddsRecord old new (Err Memory) one = new ≡ old
AddsRecord old new (Err NoRecord) one = ¬ IsInOrder old.kept one × (new ≡ old)

-- the texts of a message that waits are in order, and there is room for it
abbrev pub CanWait : Kept → List ℕ → List (List ℕ) → Type 0
CanWait kept path addresses =
    ((path ≡ []) ⊎ IsKeptAddress path) × All IsKeptAddress addresses × HasRoom (length kept.entries)
    × (recipient_count kept.entries + length addresses ≤ THINGS_MAX)

-- the account is a record, and its mailbox is known by this key
pub record HasKey (kept : Kept) (address password key : List ℕ) : Type 0 where
  pub in_order : IsInOrder kept (records.Account address password)
  pub own : Address
  pub text : IsTextOfAddress address own
  pub key_is : key ≡ mailbox_key own

-- it has such a key, or is none
abbrev pub IsKeyed : Result (List ℕ) ReadFault → Kept → List ℕ → List ℕ → Type 0
IsKeyed (Ok key) kept address password = HasKey kept address password key
IsKeyed (Err Memory) kept address password = Unit {0}
IsKeyed (Err NoRecord) kept address password = ¬ IsInOrder kept (records.Account address password)

-- the same of a folder
abbrev pub IsFolderKeyed : Result (List ℕ) ReadFault → Kept → ℕ → List ℕ → Type 0
IsFolderKeyed (Ok key) kept account name = IsInOrder kept (records.Folder account name) × (key ≡ folder_key account name)
IsFolderKeyed (Err Memory) kept account name = Unit {0}
IsFolderKeyed (Err NoRecord) kept account name = ¬ IsInOrder kept (records.Folder account name)

-- a record of the version was put last whose fields these are
pub record Added (version after : Version) (old new : StoreState) (fields : List ℕ) : Type 0 where
  pub one : Record
  pub is_record : IsRecord version old.kept one
  pub text : fields ≡ fields_of one
  pub after_is : after ≡ version_after version one
  pub new_is : new ≡ with_records old (one ∷ [])

-- these are no fields of a record of the version
abbrev pub NotAdded : Version → StoreState → List ℕ → Type 0
NotAdded version old fields = (one : Record) → IsRecord version old.kept one → fields ≢ fields_of one

-- The record is kept, or it is none. The store and the version change only at Ok.
abbrev pub AddsNext : {T : Type 0} → Version → Version → StoreState → StoreState → Result T ReadFault → List ℕ → Type 0
AddsNext version after old new (Ok done) fields = Added version after old new fields
AddsNext version after old new (Err Memory) fields = (after ≡ version) × (new ≡ old)
AddsNext version after old new (Err NoRecord) fields = NotAdded version old fields × (after ≡ version) × (new ≡ old)
