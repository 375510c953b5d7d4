-- What makes a record one, where this is kept already.
use Rattle.std.specs.Prelude.{◌≡◌, ◌⊎◌, ℕ, ◌+◌, ◌<◌, ◌≤◌, List, [], ◌∷◌, length, IsTrue, Bool, nat_lt, Option, Some, None, slice_get, sum_by}
use Rattle.std.specs.List.{All}
use Rattle.journal_records.specs.declared.limits.TheConstants.{TEXT_MAX, RECORD_MAX}
use Rattle.kept_mail.specs.declared.limits.TheConstants.{THINGS_MAX}
use Rattle.journal_records.specs.declared.versions.Version.{Version}
use Rattle.journal_records.specs.declared.records.Record.{Record}
use Rattle.journal_records.specs.declared.records.Record.TheVariants as records
use Rattle.kept_mail.specs.declared.kept.Message.{Message}
use Rattle.kept_mail.specs.declared.kept.Recipient.{Recipient}
use Rattle.kept_mail.specs.declared.kept.Entry.{Entry}
use Rattle.journal_records.specs.Addresses.{IsKeptAddress, IsDomainText}
use Rattle.journal_records.specs.Grammar.{IsDate, IsFolderName}
use Rattle.journal_records.specs.Stored.{IsStoredWith}
use Rattle.journal_records.specs.Versions.{IsOfVersion, version_after}
use Rattle.kept_mail.specs.Kept.{Kept, after_record}
use Rattle.journal_records.specs.Spelling.{fields_of, Fits}

-- the message is there and isn't expunged
abbrev pub IsLive : Option Message → Type 0
IsLive None = ⊥
IsLive (Some message) = IsTrue message.live

-- The recipient is there and isn't settled.
abbrev pub IsWaiting : Option Recipient → Type 0
IsWaiting None = ⊥
IsWaiting (Some recipient) = IsTrue recipient.waits

-- the entry has this recipient, who isn't settled
abbrev pub IsUnsettled : Option Entry → ℕ → Type 0
IsUnsettled None index = ⊥
IsUnsettled (Some entry) index = IsWaiting (slice_get entry.recipients index)

-- the recipients that the queue ever had
abbrev pub recipient_count : List Entry → ℕ
recipient_count entries = sum_by (λ entry. length entry.recipients) entries

-- one more thing of a kind passes no limit
abbrev pub HasRoom : ℕ → Type 0
HasRoom count = count < THINGS_MAX

-- so many more things of a kind would pass its limit
abbrev pub are_too_many : ℕ → ℕ → Bool
are_too_many count more = nat_lt THINGS_MAX (count + more)

-- its numbers name what is there, its flags are below 32, its texts are in their grammar and within their limits, its octets have a tree, its mark,
-- where it has one, is that of its octets, and no kind of things passes its limit
abbrev pub IsInOrder : Kept → Record → Type 0
IsInOrder kept (records.Account address password) =
    IsKeptAddress address × (length password ≤ TEXT_MAX) × HasRoom (length kept.accounts) × HasRoom (length kept.folders)
IsInOrder kept (records.Domain name) = IsDomainText name × HasRoom (length kept.domains)
IsInOrder kept (records.Folder account name) = (account < length kept.accounts) × IsFolderName name × HasRoom (length kept.folders)
IsInOrder kept (records.Message folder flags mark date octets) =
    (folder < length kept.folders) × (flags < 32) × IsDate date × IsStoredWith mark octets × HasRoom (length kept.messages)
IsInOrder kept (records.Flags message flags) = IsLive (slice_get kept.messages message) × (flags < 32)
IsInOrder kept (records.Expunge message) = IsLive (slice_get kept.messages message)
IsInOrder kept (records.Queue path addresses mark octets) =
    ((path ≡ []) ⊎ IsKeptAddress path) × All IsKeptAddress addresses × IsStoredWith mark octets × HasRoom (length kept.entries)
    × (recipient_count kept.entries + length addresses ≤ THINGS_MAX)
IsInOrder kept (records.Settle entry index) = IsUnsettled (slice_get kept.entries entry) index
IsInOrder kept records.Version = Unit {0}

-- The record has a spelling within its limit, is of a kind of this version, and may stand after those that led to what is kept.
pub record IsRecord (version : Version) (kept : Kept) (one : Record) : Type 0 where
  pub fits : Fits one
  pub short : length (fields_of one) ≤ RECORD_MAX
  pub of_version : IsOfVersion version one
  pub in_order : IsInOrder kept one

-- each is a record where those before it are kept, in the version after them
abbrev pub AreRecords : Version → Kept → List Record → Type 0
AreRecords version kept [] = Unit {0}
AreRecords version kept (one ∷ others) = IsRecord version kept one × AreRecords (version_after version one) (after_record kept one) others
