-- What is kept of accepted mail: a message once for each of its recipients, and nothing else (RFC 5321, 6.1).
use Rattle.std.specs.Prelude.{◌≡◌, ◌≢◌, ℕ, ◌<◌, ◌++◌, ◌==◌, List, [], ◌∷◌, Some, IsSomeAnd, codes, filter, length, map}
use Rattle.std.specs.List.{All, IsDistinct}
use Rattle.address_grammar.specs.declared.Address.{Address}
use Rattle.address_grammar.specs.Addresses.{address_text}
use Rattle.kept_mail.specs.declared.delivery.Delivery.{Delivery}
use Rattle.kept_mail.specs.declared.kept.Entry.{Entry}
use Rattle.kept_mail.specs.declared.kept.Message.{Message}
use Rattle.journal_records.specs.declared.records.Record.{Record}
use Rattle.session_core.specs.Acts.{Act, gives, changes}
use Rattle.journal_records.specs.Addresses.{path_text}
use Rattle.kept_mail.specs.private.Delivering.{copied}
use Rattle.mail_store.specs.Following.{records_of}
use Rattle.kept_mail.specs.Kept.{Kept, inbox_of, waiting}
use Rattle.mail_store.specs.StoreState.{StoreState, with_records}
use Rattle.smtp_session.specs.declared.states.Envelope.{Envelope}
use Rattle.smtp_session.specs.Machine.{State, Step, fresh, greeted, mail, collecting, ended, is_same_remote}

-- ---- for whom a message is

-- The accounts among the recipients are there, none of them twice; and of the others no two are the same mailbox.
pub record AreRecipients (kept : Kept) (envelope : Envelope) : Type 0 where
  pub there : All (λ account. account < length kept.accounts) envelope.local
  pub local : IsDistinct (λ a b. a == b) envelope.local
  pub remote : IsDistinct is_same_remote envelope.remote

-- the recipients that a state names are such
abbrev pub KnowsRecipients : Kept → State → Type 0
KnowsRecipients kept (fresh first) = Unit {0}
KnowsRecipients kept (greeted client) = Unit {0}
KnowsRecipients kept (mail client envelope) = AreRecipients kept envelope
KnowsRecipients kept (collecting client envelope) = AreRecipients kept envelope
KnowsRecipients kept ended = Unit {0}

-- ---- what is kept of it

-- the line that answers data that are accepted
abbrev pub stored_line : List ℕ
stored_line = codes "250 2.0.0 stored"

-- the reply to them
abbrev pub acceptance : List (List ℕ)
acceptance = stored_line ∷ []

-- what is kept after a step
abbrev pub kept_after : StoreState → Step → Kept
kept_after store taken = (with_records store (records_of taken.changes)).kept

-- the messages that a folder ever had, in order
abbrev pub messages_in : Kept → ℕ → List Message
messages_in kept folder = filter (λ message. message.folder == folder) kept.messages

-- the folder has one message more, put last, which is live and has no flags
abbrev pub HasOneMore : (old new : Kept) (date octets : List ℕ) → ℕ → Type 0
HasOneMore old new date octets folder = messages_in new folder ≡ messages_in old folder ++ copied date octets folder ∷ []

-- one entry of the queue, in which each of these addresses waits, where there are any
abbrev pub entries_for : (path octets : List ℕ) → List Address → List Entry
entries_for path octets [] = []
entries_for path octets (address ∷ addresses) =
    record { path = path; recipients = map waiting (map address_text (address ∷ addresses)); octets = octets } ∷ []

-- A message is kept once for each of its recipients, and nothing else is. The INBOX of each account has one message more, and other
-- folders have none. Where there are recipients elsewhere, the queue has one entry more, in which each of them waits, and no two
-- are the same mailbox. Accounts, domains and folders are as before.
pub record IsKeptOnce (old new : Kept) (delivery : Delivery) : Type 0 where
  pub local : All (λ account. IsSomeAnd (inbox_of old account) (HasOneMore old new delivery.date delivery.local_octets)) delivery.local
  pub others : (folder : ℕ) → All (λ account. inbox_of old account ≢ Some folder) delivery.local → messages_in new folder ≡ messages_in old folder
  pub remote : new.entries ≡ old.entries ++ entries_for (path_text delivery.path) delivery.remote_octets delivery.remote
  pub distinct : IsDistinct is_same_remote delivery.remote
  pub accounts : new.accounts ≡ old.accounts
  pub domains : new.domains ≡ old.domains
  pub folders : new.folders ≡ old.folders

-- ---- over a whole stream

-- Of what a session does, from a store on: what is kept is messages, each of them once for each of its recipients; each is told
-- to be stored next, and nothing else is told so.
pub data KeepsAccepted : StoreState → List (Act (List ℕ)) → Type 0 where
  NoMore : (store : StoreState) → KeepsAccepted store []
  -- another line
  Says : (store : StoreState) (line : List ℕ) (more : List (Act (List ℕ))) → line ≢ stored_line → KeepsAccepted store more → KeepsAccepted store (gives line ∷ more)
  Keeps : (store : StoreState) (delivery : Delivery) (records : List Record) (more : List (Act (List ℕ)))
      → IsKeptOnce store.kept (with_records store records).kept delivery → KeepsAccepted (with_records store records) more
      → KeepsAccepted store (changes records ∷ gives stored_line ∷ more)
