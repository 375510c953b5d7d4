-- The whole records of a keeper's octets, what is broken off after them, and where a journal is bad.
use Rattle.std.specs.Prelude.{◌≡◌, ◌≢◌, ◌⊎◌, ℕ, ◌+◌, ◌-◌, ◌*◌, ◌<◌, ◌≤◌, ◌==◌, Bool, true, List, [], ◌++◌, length, drop}
use Rattle.std.specs.List.{list_all}
use Rattle.journal_records.specs.declared.records.Record.{Record}
use Rattle.journal_records.specs.declared.versions.Version.{Version}
use Rattle.journal_records.specs.declared.versions.Version.TheVariants as versions
use Rattle.journal_records.specs.Frames.{IsBeginning, IsCutShort, IsWhole}
use Rattle.journal_records.specs.Spelling.{record_text, journal, first_octets}
use Rattle.journal_records.specs.Versions.{version_after_all}
use Rattle.kept_mail.specs.Kept.{Kept, nothing, store_of}
use Rattle.kept_mail.specs.Records.{IsRecord, AreRecords}

-- the octets are a journal of these records, which begins in this version, and a rest
pub record BeginsJournal (version : Version) (octets : List ℕ) (all : List Record) (rest : List ℕ) : Type 0 where
  pub text : octets ≡ journal version all ++ rest
  pub records : AreRecords version nothing all

-- no record of this version begins the octets, where this is kept
abbrev pub HasNoRecord : Version → Kept → List ℕ → Type 0
HasNoRecord version kept octets = (one : Record) (rest : List ℕ) → IsRecord version kept one → octets ≢ record_text one ++ rest

-- ---- what is broken off

-- the octet is zero
abbrev pub is_zero : ℕ → Bool
is_zero octet = octet == 0

-- whether every octet is zero
abbrev pub are_zeros : List ℕ → Bool
are_zeros octets = list_all is_zero octets

-- every octet is zero
abbrev pub AreZeros : List ℕ → Type 0
AreZeros octets = are_zeros octets ≡ true

-- The octets, which stand at this place of a file and end where it ends, are zero from a multiple of 512 octets of the file on that lies within them.
pub record EndsInZeros (at : ℕ) (octets : List ℕ) : Type 0 where
  pub sector : ℕ
  pub from : at ≤ 512 * sector
  pub within : 512 * sector < at + length octets
  pub zeros : AreZeros (drop (512 * sector - at) octets)

-- The octets are a length within the limit and so many octets, and no record. They stand at this place of a file, end where it ends, and end in zeros.
pub record IsTorn (version : Version) (kept : Kept) (at : ℕ) (octets : List ℕ) : Type 0 where
  pub count : ℕ
  pub whole : IsWhole count octets
  pub last : length octets ≡ 4 + count
  pub no_record : HasNoRecord version kept octets
  pub ends : EndsInZeros at octets

-- What a write that was broken off leaves after whole records, at this place of a file and up to its end: a prefix of a record, zeros alone, or a
-- record that is torn.
abbrev pub IsBroken : Version → Kept → ℕ → List ℕ → Type 0
IsBroken version kept at octets = IsCutShort octets ⊎ AreZeros octets ⊎ IsTorn version kept at octets

-- what stands after the journal of these records is broken off
abbrev pub IsBrokenAfter : Version → List Record → List ℕ → Type 0
IsBrokenAfter version all rest = IsBroken (version_after_all version all) (store_of all) (length (journal version all)) rest

-- ---- records

-- These are the whole records of the octets, which begin in this version and go on with what is broken off. A prefix of a journal's first octets has
-- none, and begins in version 2.
abbrev pub HasRecordsIn : Version → List ℕ → List Record → Type 0
HasRecordsIn version octets all =
    (IsBeginning octets × (version ≡ versions.Two) × (all ≡ []))
    ⊎ ((rest : List ℕ) × BeginsJournal version octets all rest × IsBrokenAfter version all rest)

-- these are the whole records of the octets
abbrev pub HasRecords : List ℕ → List Record → Type 0
HasRecords octets all = (version : Version) × HasRecordsIn version octets all

-- The octets are a journal that ends in version 1.
abbrev pub EndsInOne : List ℕ → Type 0
EndsInOne octets = (all : List Record) × HasRecordsIn versions.One octets all × (version_after_all versions.One all ≡ versions.One)

-- whole records end here, and the octets from here on are no record and aren't broken off
pub record IsBadAfter (version : Version) (octets : List ℕ) (all : List Record) (rest : List ℕ) : Type 0 where
  pub whole : BeginsJournal version octets all rest
  pub no_break : IsBrokenAfter version all rest → ⊥
  pub no_record : HasNoRecord (version_after_all version all) (store_of all) rest

-- the octets are no journal from here on
abbrev pub IsBadAt : List ℕ → ℕ → Type 0
IsBadAt octets at =
    ((at ≡ 0) × (IsBeginning octets → ⊥) × ((version : Version) (rest : List ℕ) → octets ≢ first_octets version ++ rest))
    ⊎ ((version : Version) × (all : List Record) × (rest : List ℕ) × (at ≡ length (journal version all)) × IsBadAfter version octets all rest)
