-- What a delivery puts last; words of the calls that make it.
use Rattle.std.specs.Prelude.{ℕ, ◌+◌, ◌≤◌, ◌≡◌, ◌<◌, List, ◌++◌, map, length, true, Option, Some, None, option_and_then}
use Rattle.std.specs.List.{flat_map}
use Rattle.std.specs.Option.{option_to_list}
use Rattle.kept_mail.specs.declared.delivery.Delivery.{Delivery}
use Rattle.kept_mail.specs.declared.kept.Entry.{Entry}
use Rattle.kept_mail.specs.declared.kept.Message.{Message}
use Rattle.journal_records.specs.declared.limits.TheConstants.{RECORD_MAX}
use Rattle.journal_records.specs.declared.records.Record.{Record}
use Rattle.journal_records.specs.declared.records.Record.TheVariants as records
use Rattle.journal_records.specs.Spelling.{record_text}
use Rattle.journal_records.specs.Stored.{HasMark}
use Rattle.kept_mail.specs.Kept.{waiting}

-- a live message without flags
abbrev pub copied : List ℕ → List ℕ → ℕ → Message
copied date octets folder = record { folder = folder; flags = 0; live = true; date = date; octets = octets }

-- the entry of a record of the queue
abbrev pub entry_of : Record → Option Entry
entry_of (records.Queue path addresses mark octets) = Some (record { path = path; recipients = map waiting addresses; octets = octets })
entry_of other = None

-- the entry of the records of a delivery's queue, of which there is at most one
abbrev pub IsEntryOf : Option Entry → List Record → Type 0
IsEntryOf entry records = (one : Option Record) × (option_to_list one ≡ records) × (entry ≡ option_and_then entry_of one)

-- a record of the queue has the mark of its octets
abbrev pub HasOwnMark : Record → Type 0
HasOwnMark (records.Queue path addresses None octets) = ⊥
HasOwnMark (records.Queue path addresses (Some mark) octets) = HasMark octets mark
HasOwnMark other = Unit {0}

-- what stands before the octets in the text of a record of the queue
abbrev pub IsFrontOf : Option (List ℕ) → Option Record → Type 0
IsFrontOf front (Some (records.Queue path addresses mark octets)) =
    (before : List ℕ) × (front ≡ Some before) × (before ++ octets ≡ record_text (records.Queue path addresses mark octets))
IsFrontOf front other = front ≡ None

-- texts that end with the same octets, by what stands before these
abbrev pub fronts_text : List (List ℕ) → List ℕ → List ℕ
fronts_text fronts octets = flat_map (λ front. front ++ octets) fronts

-- the texts of a delivery's records, by what stands before their octets
abbrev pub delivery_text : List (List ℕ) → Option (List ℕ) → Delivery → List ℕ
delivery_text local remote delivery = fronts_text local delivery.local_octets ++ fronts_text (option_to_list remote) delivery.remote_octets

-- where there are local accounts, a copy's record is within the limit
abbrev pub HasShortCopies : Delivery → Type 0
HasShortCopies delivery = 0 < length delivery.local → length delivery.date + length delivery.local_octets + 15 ≤ RECORD_MAX
