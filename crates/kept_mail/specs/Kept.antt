-- What a store keeps, as the fold of a journal's records. An account's first folder is its INBOX (RFC 3501, 5.1). Things are named by their numbers in order
-- of their records.
use Rattle.std.specs.Prelude.{◌≡◌, ◌⊎◌, ◌≤◌, ℕ, zero, suc, ◌+◌, List, [], ◌∷◌, ◌++◌, length, map, filter, count_by, codes, Bool, true, false, Option, Some, None, option_and_then, ◌==◌, ◌&&◌, if◌then◌else◌, slice_get, slice_index_or}
use Rattle.std.specs.List.{Any, list_any}
use Rattle.std.specs.Option.{option_map_or}
use Rattle.std.specs.Str.{bytes_eq}
use Rattle.journal_records.specs.declared.records.Record.{Record}
use Rattle.journal_records.specs.declared.records.Record.TheVariants as records
use Rattle.kept_mail.specs.declared.kept.Account.{Account}
use Rattle.kept_mail.specs.declared.kept.Folder.{Folder}
use Rattle.kept_mail.specs.declared.kept.Message.{Message}
use Rattle.kept_mail.specs.declared.kept.Recipient.{Recipient}
use Rattle.kept_mail.specs.declared.kept.Entry.{Entry}
use Rattle.kept_mail.specs.declared.kept.Listed.{Listed}
use Rattle.address_grammar.specs.declared.Address.{Address}
use Rattle.journal_records.specs.Addresses.{is_same_mailbox, is_same_domain, address_of}
use Rattle.journal_records.specs.Grammar.{inbox, kept_name}

-- What a store keeps: its accounts, its domains, its folders, their messages, and the entries of its queue.
pub record Kept : Type 0 where
  pub accounts : List Account
  pub domains : List (List ℕ)
  pub folders : List Folder
  pub messages : List Message
  pub entries : List Entry

-- What an empty journal keeps.
abbrev pub nothing : Kept
nothing = record { accounts = []; domains = []; folders = []; messages = []; entries = [] }

-- the list with what stands at a place changed
abbrev pub change_at : {T : Type 0} → (T → T) → List T → ℕ → List T
change_at change [] at = []
change_at change (x ∷ xs) zero = change x ∷ xs
change_at change (x ∷ xs) (suc at) = x ∷ change_at change xs at

-- The message with these flags.
abbrev pub with_flags : ℕ → Message → Message
with_flags flags message = record message { flags = flags }

-- The message after it was expunged.
abbrev pub gone : Message → Message
gone message = record message { live = false }

-- A recipient of this address who isn't settled.
abbrev pub waiting : List ℕ → Recipient
waiting address = record { address = address; waits = true }

-- The recipient once delivery to them has succeeded or was given up.
abbrev pub settled : Recipient → Recipient
settled recipient = record recipient { waits = false }

-- The entry with the recipient at this place settled.
abbrev pub without : ℕ → Entry → Entry
without index entry = record entry { recipients = change_at settled entry.recipients index }

-- what is kept after a record. An account brings its INBOX. Marks are of the octets, and change nothing; neither does a new version.
abbrev pub after_record : Kept → Record → Kept
after_record kept (records.Account address password) = record kept {
  accounts = kept.accounts ++ record { address = address; password = password } ∷ [];
  folders = kept.folders ++ record { account = length kept.accounts; name = inbox } ∷ [];
}
after_record kept (records.Domain name) = record kept { domains = kept.domains ++ name ∷ [] }
after_record kept (records.Folder account name) = record kept { folders = kept.folders ++ record { account = account; name = name } ∷ [] }
after_record kept (records.Message folder flags mark date octets) = record kept {
  messages = kept.messages ++ record { folder = folder; flags = flags; live = true; date = date; octets = octets } ∷ [];
}
after_record kept (records.Flags message flags) = record kept { messages = change_at (with_flags flags) kept.messages message }
after_record kept (records.Expunge message) = record kept { messages = change_at gone kept.messages message }
after_record kept (records.Queue path addresses mark octets) = record kept {
  entries = kept.entries ++ record { path = path; recipients = map waiting addresses; octets = octets } ∷ [];
}
after_record kept (records.Settle entry index) = record kept { entries = change_at (without index) kept.entries entry }
after_record kept records.Version = kept

-- what is kept after these records, the first of them first
abbrev pub after_all : Kept → List Record → Kept
after_all kept [] = kept
after_all kept (one ∷ others) = after_all (after_record kept one) others

-- What a journal of these records keeps.
abbrev pub store_of : List Record → Kept
store_of all = after_all nothing all

-- ---- what the reading calls answer

-- the numbers of the messages that a folder ever had, the first of the list having this number
abbrev pub numbers_in : ℕ → ℕ → List Message → List ℕ
numbers_in folder at [] = []
numbers_in folder at (message ∷ messages) =
    if message.folder == folder then at ∷ numbers_in folder (at + 1) messages else numbers_in folder (at + 1) messages

-- an account's first folder, the first of the list having this number
abbrev pub first_folder : ℕ → ℕ → List Folder → Option ℕ
first_folder account at [] = None
first_folder account at (folder ∷ folders) = if folder.account == account then Some at else first_folder account (at + 1) folders

-- the INBOX of an account, which is its first folder
abbrev pub inbox_of : Kept → ℕ → Option ℕ
inbox_of kept account = first_folder account 0 kept.folders

-- an account's first folder of this very name, the first of the list having this number
abbrev pub first_named : ℕ → List ℕ → ℕ → List Folder → Option ℕ
first_named account name at [] = None
first_named account name at (folder ∷ folders) =
    if folder.account == account && bytes_eq folder.name name then Some at else first_named account name (at + 1) folders

-- the account's first folder that is meant by a name: INBOX in any case, or a name that is brought to NFC
abbrev pub find_folder : Kept → ℕ → List ℕ → Option ℕ
find_folder kept account name = first_named account (kept_name name) 0 kept.folders

-- the names of an account's folders, in order
abbrev pub names_among : ℕ → List Folder → List (List ℕ)
names_among account folders = map (λ (folder : Folder). folder.name) (filter (λ (folder : Folder). folder.account == account) folders)

-- The names of an account's folders, in the order in which they were made.
abbrev pub folder_names : Kept → ℕ → List (List ℕ)
folder_names kept account = names_among account kept.folders

-- the name of a folder
abbrev pub kept_folder_name : Kept → (folder : ℕ) → List ℕ
kept_folder_name kept folder = option_map_or (λ (one : Folder). one.name) (slice_get kept.folders folder) []

-- The unique identifier that the next message of a folder gets: one more than the number of messages it ever had (RFC 3501, 2.3.1.1).
abbrev pub uid_next : Kept → ℕ → ℕ
uid_next kept folder = count_by (λ message. message.folder == folder) kept.messages + 1

-- the folder's live messages, the first of the list having this number, and the folder's next one this UID
abbrev pub listed_from : ℕ → ℕ → ℕ → List Message → List Listed
listed_from folder at uid [] = []
listed_from folder at uid (message ∷ messages) =
    if message.folder == folder
    then (if message.live
    then record { id = at; uid = uid; flags = message.flags } ∷ listed_from folder (at + 1) (uid + 1) messages
    else listed_from folder (at + 1) (uid + 1) messages)
    else listed_from folder (at + 1) uid messages

-- The messages of a folder that aren't expunged, with unique identifiers that count from 1 in order of arrival (RFC 3501, 2.3.1.1).
abbrev pub listed : Kept → ℕ → List Listed
listed kept folder = listed_from folder 0 1 kept.messages

-- the message is listed here with the same UID, or isn't there yet and has a UID that the folder hasn't given
abbrev pub IsListedOrNew : Kept → ℕ → Listed → Type 0
IsListedOrNew kept folder one =
    Any (λ was. (was.id ≡ one.id) × (was.uid ≡ one.uid)) (listed kept folder) ⊎ ((length kept.messages ≤ one.id) × (uid_next kept folder ≤ one.uid))

-- the account's address names the same mailbox; `path_of` reads paths
abbrev pub is_account_of : (List ℕ → Option (Option Address)) → Address → Account → Bool
is_account_of path_of address account = option_map_or (λ (own : Address). is_same_mailbox own address) (address_of path_of account.address) false

-- the first account of this address, the first of the list having this number
abbrev pub first_account : (List ℕ → Option (Option Address)) → Address → ℕ → List Account → Option ℕ
first_account path_of address at [] = None
first_account path_of address at (account ∷ accounts) =
    if is_account_of path_of address account then Some at else first_account path_of address (at + 1) accounts

-- The first account of this address.
abbrev pub find_account : (List ℕ → Option (Option Address)) → Kept → Address → Option ℕ
find_account path_of kept address = first_account path_of address 0 kept.accounts

-- the domain is one of the store's
abbrev pub is_local : Kept → List ℕ → Bool
is_local kept domain = list_any (λ name. is_same_domain name domain) kept.domains

-- There is an account, and its password is this one.
abbrev pub has_password : Option Account → List ℕ → Bool
has_password None password = false
has_password (Some account) password = bytes_eq account.password password

-- the account that was found, where the password is its own
abbrev pub admitted : Kept → Option ℕ → List ℕ → Option ℕ
admitted kept None password = None
admitted kept (Some account) password = if has_password (slice_get kept.accounts account) password then Some account else None

-- the first account whose address the name is, where the password is its own
abbrev pub logged_in : (List ℕ → Option (Option Address)) → Kept → List ℕ → List ℕ → Option ℕ
logged_in path_of kept name password = admitted kept (option_and_then (find_account path_of kept) (address_of path_of name)) password

-- the first domain, or else `localhost`
abbrev pub name_of : Kept → List ℕ
name_of kept = slice_index_or kept.domains 0 (codes "localhost")

-- what is listed of a message, a word of the private calls
abbrev pub listed_one : Option Message → ℕ → ℕ → Option Listed
listed_one None id uid = None
listed_one (Some message) id uid = if message.live then Some (record { id = id; uid = uid; flags = message.flags }) else None
