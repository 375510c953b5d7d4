-- What opening a store answers, and what the keeper has after it.
use Rattle.std.specs.Prelude.{◌≡◌, ◌⊎◌, ℕ, ◌≤◌, List, [], ◌∷◌, ◌++◌, length, take, Option, Some, None}
use Rattle.mail_wire.specs.declared.outside.Failed.{Failed}
use Rattle.mail_wire.specs.declared.outside.Failed.TheVariants as outcomes
use Rattle.mail_store.specs.declared.opening.OpenFault.{OpenFault}
use Rattle.mail_store.specs.declared.opening.OpenFault.TheVariants as faults
use Rattle.journal_records.specs.declared.records.Record.{Record}
use Rattle.journal_records.specs.declared.records.Record.TheVariants as records
use Rattle.journal_records.specs.declared.versions.Version.{Version}
use Rattle.journal_records.specs.declared.versions.Version.TheVariants as versions
use Rattle.journal_records.specs.Frames.{IsBeginning}
use Rattle.journal_records.specs.Spelling.{journal}
use Rattle.journal_records.specs.Versions.{version_after_all}
use Rattle.kept_mail.specs.Kept.{Kept, nothing, store_of}
use Rattle.kept_mail.specs.Records.{AreRecords}
use Rattle.mail_wire.specs.Keeping.{one_more}
use Rattle.mail_store.specs.Opening.{HasRecordsIn, EndsInOne, IsBadAt}

-- the fault that a refused call of a keeper is
abbrev pub open_fault : Failed → OpenFault
open_fault outcomes.Outside = faults.Keeper
open_fault outcomes.Memory = faults.Memory

-- What is kept is what some records lead to.
pub record IsFold (kept : Kept) : Type 0 where
  pub version : Version
  pub all : List Record
  pub records : AreRecords version nothing all
  pub kept_is : kept ≡ store_of all

-- what opening puts last in a journal that ends in this version, so that it goes on in version 2
abbrev pub upgrade : Version → List Record
upgrade versions.One = records.Version ∷ []
upgrade versions.Two = []

-- The records of a journal once it was opened.
abbrev pub upgraded : Version → List Record → List Record
upgraded version all = all ++ upgrade (version_after_all version all)

-- What is kept are the whole records that the old octets had, and the new octets are their journal, which goes on in version 2.
pub record OpensTo (old : List ℕ) (new : Option (List ℕ)) (kept : Kept) : Type 0 where
  pub version : Version
  pub first : List Record
  pub had : HasRecordsIn version old first
  pub all : List Record
  pub all_is : all ≡ upgraded version first
  pub kept_is : kept ≡ store_of all
  pub holds : new ≡ Some (journal version all)

-- a bad journal is bad there, and the octets are as before
abbrev pub IsJournalFault : List ℕ → Option (List ℕ) → OpenFault → Type 0
IsJournalFault old new faults.Keeper = Unit {0}
IsJournalFault old new (faults.BadJournal at) = IsBadAt old at × (new ≡ Some old)
IsJournalFault old new faults.Memory = Unit {0}

-- The new octets are a first part of the old ones, with all records that these have.
pub record IsCutAlone (old new : List ℕ) : Type 0 where
  pub version : Version
  pub all : List Record
  pub had : HasRecordsIn version old all
  pub place : ℕ
  pub whole : IsBeginning old ⊎ (length (journal version all) ≤ place)
  pub text : new ≡ take place old

-- no octet was put last: the octets are as before, or what is broken off was cut
abbrev pub PutsNothing : Option (List ℕ) → Option (List ℕ) → Type 0
PutsNothing None new = new ≡ None
PutsNothing (Some old) None = ⊥
PutsNothing (Some old) (Some new) = (new ≡ old) ⊎ IsCutAlone old new

-- no journal is begun there, or it ends in version 1
abbrev pub IsToBegin : List ℕ → Type 0
IsToBegin octets = IsBeginning octets ⊎ EndsInOne octets

-- Nothing was appended, or this holds and one append was made.
abbrev pub BeginsOnce : Type 0 → Option ℕ → Option ℕ → Type 0
BeginsOnce Holds before now = (now ≡ before) ⊎ (Holds × (now ≡ one_more before))

-- The new octets are a first part of the journal that opening leaves, with all records that the old ones had.
pub record IsFirstOfOpened (old new : List ℕ) : Type 0 where
  pub version : Version
  pub all : List Record
  pub had : HasRecordsIn version old all
  pub count : ℕ
  pub whole : IsBeginning old ⊎ (length (journal version all) ≤ count)
  pub text : new ≡ take count (journal version (upgraded version all))

-- the octets are as before, or a first part of the journal that opening leaves, with the same whole records
abbrev pub LeavesRecords : Option (List ℕ) → Option (List ℕ) → Type 0
LeavesRecords None new = new ≡ None
LeavesRecords (Some old) None = ⊥
LeavesRecords (Some old) (Some new) = (new ≡ old) ⊎ IsFirstOfOpened old new
