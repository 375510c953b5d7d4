-- A store, as contracts see it.
use Rattle.std.specs.Prelude.{◌≡◌, ◌≢◌, ℕ, ◌+◌, ◌<◌, ◌≤◌, ◌^◌, List, [], ◌∷◌, length, Bool, Option, slice_get}
use Rattle.std.specs.List.{All}
use Rattle.kept_mail.specs.declared.contents.Content.{Content}
use Rattle.kept_mail.specs.declared.limits.TheConstants.{THINGS_MAX}
use Rattle.journal_records.specs.declared.records.Record.{Record}
use Rattle.kept_mail.specs.declared.kept.Message.{Message}
use Rattle.journal_records.specs.Addresses.{WithPaths, IsDomainText}
use Rattle.journal_records.specs.Grammar.{IsDate, IsFolderName, inbox}
use Rattle.journal_records.specs.Spelling.{record_text}
use Rattle.kept_mail.specs.private.Chains.{AreChained}
use Rattle.kept_mail.specs.Kept.{Kept, after_all, inbox_of, first_named}
use Rattle.kept_mail.specs.private.Names.{first_name, first_mailbox, folder_key}
use Rattle.kept_mail.specs.Records.{recipient_count}
use Rattle.journal_records.specs.Stored.{IsStored}
use Rattle.mail_store.specs.Queue.{open_counts, IsKeptEntry}

-- A store: what it keeps, its limit of a message, whether its journal may hold other records, and where that ends.
pub record StoreState : Type 0 where
  -- the fold of the records
  pub kept : Kept
  -- the most octets that a message may have that is taken from now on
  pub message_max : ℕ
  -- The keeper may have other records: a call was answered Keeper, or catching up was refused, and the store hasn't caught up since.
  pub failed : Bool
  -- where the journal of the records ends
  pub end : ℕ

-- where a journal ends after these records, if it ended there before them
abbrev pub end_after : ℕ → List Record → ℕ
end_after end [] = end
end_after end (one ∷ others) = end_after (end + length (record_text one)) others

-- the store with these records put last
abbrev pub with_records : StoreState → List Record → StoreState
with_records store all = record store { kept = after_all store.kept all; end = end_after store.end all }

-- the octets of each message may be kept, and its date is one
pub record AreStored (messages : List Message) : Type 0 where
  pub each : All (λ message. IsStored message.octets) messages
  pub dated : All (λ message. IsDate message.date) messages

-- What is kept beside for speed: how many messages each folder had, and the last of them; the message before each message in
-- its folder; each account's INBOX; the first folder of each other name of an account; the first account of each mailbox and
-- the first number of each domain; how many recipients the queue ever had; and how many of each open entry aren't settled.
pub record Indexes : Type 0 where
  pub contents : List Content
  pub previous : List (Option ℕ)
  pub inboxes : List ℕ
  pub names : List ℕ → Option ℕ
  pub mailboxes : List ℕ → Option ℕ
  pub locals : List ℕ → Option ℕ
  pub recipients : ℕ
  pub open_entries : List (ℕ × ℕ)

-- no kind of things passes its limit
pub record AreFew (kept : Kept) : Type 0 where
  pub accounts : length kept.accounts ≤ THINGS_MAX
  pub domains : length kept.domains ≤ THINGS_MAX
  pub folders : length kept.folders ≤ THINGS_MAX
  pub messages : length kept.messages ≤ THINGS_MAX
  pub entries : length kept.entries ≤ THINGS_MAX
  pub recipients : recipient_count kept.entries ≤ THINGS_MAX

-- The indexes are those of what is kept. Domains are normal forms, folders have names, and messages and entries may be kept.
pub record AreIndexes (kept : Kept) (indexes : Indexes) : Type 0 where
  pub folder_count : length indexes.contents ≡ length kept.folders
  pub chained : AreChained kept.messages indexes.contents indexes.previous
  pub account_count : length indexes.inboxes ≡ length kept.accounts
  pub inboxes_is : (account : ℕ) → slice_get indexes.inboxes account ≡ inbox_of kept account
  pub inboxes_named : (account : ℕ) → first_named account inbox 0 kept.folders ≡ inbox_of kept account
  pub names_is : (account : ℕ) (name : List ℕ) → account < 2 ^ 32 → name ≢ inbox
      → indexes.names (folder_key account name) ≡ first_named account name 0 kept.folders
  pub mailboxes_is : WithPaths (λ path_of. (key : List ℕ) → indexes.mailboxes key ≡ first_mailbox path_of key 0 kept.accounts)
  pub locals_is : (name : List ℕ) → indexes.locals name ≡ first_name name 0 kept.domains
  pub recipients_is : indexes.recipients ≡ recipient_count kept.entries
  pub open_is : indexes.open_entries ≡ open_counts kept.entries
  pub domains_are_texts : All IsDomainText kept.domains
  pub folders_are_named : All (λ folder. IsFolderName folder.name) kept.folders
  pub messages_are_stored : AreStored kept.messages
  pub entries_are_kept : All IsKeptEntry kept.entries
  pub few : AreFew kept
