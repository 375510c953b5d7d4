-- Reading a record's fields from left to right. Words of the private readers; what is promised stands in Spelling.
use Rattle.std.specs.Prelude.{◌≡◌, ℕ, zero, suc, List, [], ◌∷◌, length, take, drop, Option, Some, None, Result, Ok, Err, nat_lt, ◌==◌, if◌then◌else◌}
use Rattle.std.specs.Int.{w32, from_be_bytes}
use Rattle.journal_records.specs.declared.reading.ReadFault.{ReadFault}
use Rattle.journal_records.specs.declared.reading.ReadFault.TheVariants.{Memory, NoRecord}
use Rattle.journal_records.specs.declared.records.Record.{Record}
use Rattle.journal_records.specs.declared.records.Record.TheVariants as records

infixl 10 ◌>>=◌
abbrev pub ◌>>=◌ : {A B : Type 0} → Option A → (A → Option B) → Option B
(Some x) >>= f = f x
None >>= f = None

-- what a function returned, seen by view, is what reading gives, unless memory ran out
abbrev pub Fails : {Y : Type 0} → ReadFault → Option Y → Type 0
Fails Memory read = Unit {0}
Fails NoRecord read = read ≡ None

abbrev pub ReadsInto : {X Y : Type 0} → (X → Y) → Result X ReadFault → Option Y → Type 0
ReadsInto view (Ok x) read = read ≡ Some (view x)
ReadsInto view (Err e) read = Fails e read

-- a field is a value and the octets after it
abbrev pub number_at : List ℕ → Option (ℕ × List ℕ)
number_at octets = if nat_lt (length octets) 4 then None else Some (from_be_bytes w32 (take 4 octets), drop 4 octets)

abbrev pub octet_at : List ℕ → Option (ℕ × List ℕ)
octet_at [] = None
octet_at (x ∷ rest) = Some (x, rest)

unfoldable pub list_at : List ℕ → Option (List ℕ × List ℕ)
list_at octets = do
  n ← number_at octets
  if nat_lt (length n.1) n.0 then None else Some (take n.0 n.1, drop n.0 n.1)

unfoldable pub lists_at : ℕ → List ℕ → Option (List (List ℕ) × List ℕ)
lists_at zero octets = Some ([], octets)
lists_at (suc n) octets = do
  first ← list_at octets
  others ← lists_at n first.1
  Some (first.0 ∷ others.0, others.1)

-- the fields have to fill the octets
abbrev pub ended_fields : Record → List ℕ → Option Record
ended_fields one rest = if length rest == 0 then Some one else None

unfoldable pub account_at : List ℕ → Option Record
account_at octets = do
  address ← list_at octets
  password ← list_at address.1
  ended_fields (records.Account address.0 password.0) password.1

unfoldable pub domain_at : List ℕ → Option Record
domain_at octets = do
  name ← list_at octets
  ended_fields (records.Domain name.0) name.1

unfoldable pub folder_at : List ℕ → Option Record
folder_at octets = do
  account ← number_at octets
  name ← list_at account.1
  ended_fields (records.Folder account.0 name.0) name.1

unfoldable pub message_at : List ℕ → Option Record
message_at octets = do
  folder ← number_at octets
  flags ← octet_at folder.1
  date ← list_at flags.1
  text ← list_at date.1
  ended_fields (records.Message folder.0 flags.0 None date.0 text.0) text.1

unfoldable pub marked_message_at : List ℕ → Option Record
marked_message_at octets = do
  folder ← number_at octets
  flags ← octet_at folder.1
  mark ← octet_at flags.1
  date ← list_at mark.1
  text ← list_at date.1
  ended_fields (records.Message folder.0 flags.0 (Some mark.0) date.0 text.0) text.1

unfoldable pub flags_at : List ℕ → Option Record
flags_at octets = do
  message ← number_at octets
  flags ← octet_at message.1
  ended_fields (records.Flags message.0 flags.0) flags.1

unfoldable pub expunge_at : List ℕ → Option Record
expunge_at octets = do
  message ← number_at octets
  ended_fields (records.Expunge message.0) message.1

unfoldable pub queue_at : List ℕ → Option Record
queue_at octets = do
  path ← list_at octets
  count ← number_at path.1
  addresses ← lists_at count.0 count.1
  text ← list_at addresses.1
  ended_fields (records.Queue path.0 addresses.0 None text.0) text.1

unfoldable pub marked_queue_at : List ℕ → Option Record
marked_queue_at octets = do
  path ← list_at octets
  count ← number_at path.1
  addresses ← lists_at count.0 count.1
  mark ← octet_at addresses.1
  text ← list_at mark.1
  ended_fields (records.Queue path.0 addresses.0 (Some mark.0) text.0) text.1

unfoldable pub settle_at : List ℕ → Option Record
settle_at octets = do
  entry ← number_at octets
  index ← number_at entry.1
  ended_fields (records.Settle entry.0 index.0) index.1

unfoldable pub kind_at : ℕ → List ℕ → Option Record
kind_at kind octets =
    if kind == 1 then account_at octets
    else if kind == 2 then domain_at octets
    else if kind == 3 then folder_at octets
    else if kind == 4 then message_at octets
    else if kind == 5 then flags_at octets
    else if kind == 6 then expunge_at octets
    else if kind == 7 then queue_at octets
    else if kind == 8 then settle_at octets
    else if kind == 9 then marked_message_at octets
    else if kind == 10 then marked_queue_at octets
    else if kind == 11 then ended_fields records.Version octets
    else None

unfoldable pub record_at : List ℕ → Option Record
record_at octets = do
  kind ← octet_at octets
  kind_at kind.0 kind.1
