-- The one spelling of each record, and of a journal.
use Rattle.std.specs.Prelude.{ℕ, List, [], ◌∷◌, ◌++◌, length, codes, ◌<◌, ◌≤◌, ◌^◌, Some, None}
use Rattle.std.specs.List.{flat_map, AllByRecursion}
use Rattle.std.specs.Int.{w32, to_be_bytes}
use Rattle.journal_records.specs.declared.limits.TheConstants.{RECORD_MAX}
use Rattle.journal_records.specs.declared.versions.Version.{Version}
use Rattle.journal_records.specs.declared.versions.Version.TheVariants as versions
use Rattle.journal_records.specs.declared.records.Record.{Record}
use Rattle.journal_records.specs.declared.records.Record.TheVariants as records

-- a number of 32 bits, the highest octet first
abbrev pub number : ℕ → List ℕ
number n = to_be_bytes w32 n

-- octets after their length
abbrev pub octet_list : List ℕ → List ℕ
octet_list octets = number (length octets) ++ octets

-- a kind and its fields
abbrev pub fields_of : Record → List ℕ
fields_of (records.Account address password) = 1 ∷ (octet_list address ++ octet_list password)
fields_of (records.Domain name) = 2 ∷ octet_list name
fields_of (records.Folder account name) = 3 ∷ (number account ++ octet_list name)
fields_of (records.Message folder flags None date octets) = 4 ∷ (number folder ++ flags ∷ (octet_list date ++ octet_list octets))
fields_of (records.Message folder flags (Some mark) date octets) = 9 ∷ (number folder ++ flags ∷ mark ∷ (octet_list date ++ octet_list octets))
fields_of (records.Flags message flags) = 5 ∷ (number message ++ flags ∷ [])
fields_of (records.Expunge message) = 6 ∷ number message
fields_of (records.Queue path addresses None octets) =
    7 ∷ (octet_list path ++ (number (length addresses) ++ (flat_map octet_list addresses ++ octet_list octets)))
fields_of (records.Queue path addresses (Some mark) octets) =
    10 ∷ (octet_list path ++ (number (length addresses) ++ (flat_map octet_list addresses ++ mark ∷ octet_list octets)))
fields_of (records.Settle entry index) = 8 ∷ (number entry ++ number index)
fields_of records.Version = 11 ∷ []

-- the fields after their length
abbrev pub record_text : Record → List ℕ
record_text one = octet_list (fields_of one)

-- what a journal of a version begins with
abbrev pub first_octets : Version → List ℕ
first_octets versions.One = codes "MAILJNL1"
first_octets versions.Two = codes "MAILJNL2"

-- The octets of a journal: its first eight, which say the version that it begins in, and each record in order.
abbrev pub journal : Version → List Record → List ℕ
journal version all = first_octets version ++ flat_map record_text all

-- a text whose length has a spelling
abbrev pub HasLength : List ℕ → Type 0
HasLength text = length text < 2 ^ 32

-- the numbers of a record fit their fields
abbrev pub Fits : Record → Type 0
Fits (records.Account address password) = HasLength address × HasLength password
Fits (records.Domain name) = HasLength name
Fits (records.Folder account name) = (account < 2 ^ 32) × HasLength name
Fits (records.Message folder flags mark date octets) = (folder < 2 ^ 32) × HasLength date × HasLength octets
Fits (records.Flags message flags) = message < 2 ^ 32
Fits (records.Expunge message) = message < 2 ^ 32
Fits (records.Queue path addresses mark octets) = HasLength path × (length addresses < 2 ^ 32) × AllByRecursion HasLength addresses × HasLength octets
Fits (records.Settle entry index) = (entry < 2 ^ 32) × (index < 2 ^ 32)
Fits records.Version = Unit {0}

-- The record has a spelling within the limit of a record.
abbrev pub IsWritableRecord : Record → Type 0
IsWritableRecord one = Fits one × (length (fields_of one) ≤ RECORD_MAX)
