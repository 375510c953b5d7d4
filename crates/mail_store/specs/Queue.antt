-- The queue: which entries and recipients wait, and what is told of them. Paths are those of RFC 5321, 4.1.2.
use Rattle.std.specs.Prelude.{◌≡◌, ◌⊎◌, ℕ, ◌+◌, List, [], ◌∷◌, length, count_by, Bool, Option, Some, None, IfSome, slice_get, if◌then◌else◌}
use Rattle.std.specs.List.{All, AllZip, list_any, sum_by}
use Rattle.address_grammar.specs.declared.Address.{Address}
use Rattle.address_grammar.specs.Paths.{ComesInPath}
use Rattle.journal_records.specs.Addresses.{IsTextOfAddress, IsKeptAddress}
use Rattle.journal_records.specs.Stored.{IsStored}
use Rattle.kept_mail.specs.declared.kept.Recipient.{Recipient}
use Rattle.kept_mail.specs.declared.kept.Entry.{Entry}
use Rattle.mail_store.specs.declared.queue.Queued.{Queued}
use Rattle.mail_store.specs.declared.queue.Unsettled.{Unsettled}

-- the places of those that pass a test, in order, the first of the list having this place
abbrev pub places_where : {T : Type 0} → (T → Bool) → ℕ → List T → List ℕ
places_where test at [] = []
places_where test at (x ∷ xs) = if test x then at ∷ places_where test (at + 1) xs else places_where test (at + 1) xs

-- The places of a list where the test holds, each with a number of what stands there.
abbrev pub sizes_where : {T : Type 0} → (T → Bool) → (T → ℕ) → ℕ → List T → List (ℕ × ℕ)
sizes_where test size at [] = []
sizes_where test size at (x ∷ xs) = if test x then (at, size x) ∷ sizes_where test size (at + 1) xs else sizes_where test size (at + 1) xs

-- the recipient isn't settled
abbrev pub waits : Recipient → Bool
waits recipient = recipient.waits

-- a recipient of the entry isn't settled
abbrev pub is_open : Entry → Bool
is_open entry = list_any waits entry.recipients

-- the numbers of the entries with a recipient who isn't settled
abbrev pub open_numbers : List Entry → List ℕ
open_numbers entries = places_where is_open 0 entries

-- how many recipients of the entry aren't settled
abbrev pub waiting_count : Entry → ℕ
waiting_count entry = count_by waits entry.recipients

-- The entries of the queue that wait, each with how many of its recipients aren't settled.
abbrev pub open_counts : List Entry → List (ℕ × ℕ)
open_counts entries = sizes_where is_open waiting_count 0 entries

-- the text is that of a path; the null path has none
abbrev pub IsTextOfPath : List ℕ → Option Address → Type 0
IsTextOfPath text None = text ≡ []
IsTextOfPath text (Some address) = IsTextOfAddress text address

-- the recipient at a place is told
pub record IsUnsettledAt (recipients : List Recipient) (index : ℕ) (one : Unsettled) : Type 0 where
  pub recipient : Recipient
  pub there : slice_get recipients index ≡ Some recipient
  pub index_is : one.index ≡ index
  pub address_is : IsTextOfAddress recipient.address one.address

-- an entry of this number is told, with exactly the recipients who wait
pub record IsQueued (number : ℕ) (entry : Entry) (one : Queued) : Type 0 where
  pub number_is : one.entry ≡ number
  pub path_is : IsTextOfPath entry.path one.path
  pub unsettled_are : AllZip (IsUnsettledAt entry.recipients) (places_where waits 0 entry.recipients) one.unsettled

-- the entry at a place is told
pub record IsQueuedAt (entries : List Entry) (number : ℕ) (one : Queued) : Type 0 where
  pub entry : Entry
  pub there : slice_get entries number ≡ Some entry
  pub queued : IsQueued number entry one

-- exactly the entries with a recipient who waits are told, in order
abbrev pub IsQueue : List Entry → List Queued → Type 0
IsQueue entries queue = AllZip (IsQueuedAt entries) (open_numbers entries) queue

-- its addresses come in paths, so that they can be written
pub record HasPaths (one : Queued) : Type 0 where
  pub path : IfSome one.path ComesInPath
  pub unsettled : All (λ recipient. ComesInPath recipient.address) one.unsettled

-- the entry's texts are those of a path and of addresses, and its octets may be kept
pub record IsKeptEntry (entry : Entry) : Type 0 where
  pub path : (entry.path ≡ []) ⊎ IsKeptAddress entry.path
  pub addresses : All (λ recipient. IsKeptAddress recipient.address) entry.recipients
  pub stored : IsStored entry.octets

-- how many recipients wait of whom is told
abbrev pub told_count : List Queued → ℕ
told_count queue = sum_by (λ (one : Queued). length one.unsettled) queue
