-- What catching up does: the records that stand in a keeper after those that a store has.
use Rattle.std.specs.Prelude.{◌≡◌, ◌⊎◌, ℕ, ◌<◌, ◌≤◌, List, ◌++◌, length, take, drop, Option, Some, IfSome}
use Rattle.std.specs.List.{flat_map}
use Rattle.journal_records.specs.declared.records.Record.{Record}
use Rattle.journal_records.specs.declared.versions.Version.{Version}
use Rattle.journal_records.specs.declared.versions.Version.TheVariants as versions
use Rattle.journal_records.specs.Versions.{version_after_all}
use Rattle.journal_records.specs.Spelling.{record_text, journal}
use Rattle.mail_store.specs.declared.opening.OpenFault.{OpenFault}
use Rattle.mail_store.specs.declared.opening.OpenFault.TheVariants as faults
use Rattle.mail_store.specs.Answers.{OpensTo}
use Rattle.kept_mail.specs.Kept.{Kept, store_of}
use Rattle.mail_store.specs.Opening.{BeginsJournal, IsBroken, IsBadAt}
use Rattle.kept_mail.specs.Records.{AreRecords}
use Rattle.mail_store.specs.StoreState.{StoreState, with_records}

-- The store has what is kept after these records, and the octets begin with their journal, which goes on in version 2.
pub record HasReadFirst (store : StoreState) (octets : List ℕ) (all : List Record) : Type 0 where
  pub version : Version
  pub rest : List ℕ
  pub begins : BeginsJournal version octets all rest
  pub last_version : version_after_all version all ≡ versions.Two
  pub kept_is : store.kept ≡ store_of all
  pub end_is : store.end ≡ length (journal version all)

-- These records were put last, each read once: they are what stands in the octets after the records that the store had, up to
-- where its journal ends now. All else of the store is as before, but whether it is marked as failed.
pub record ReadsOn (told : Option (List ℕ)) (old new : StoreState) : Type 0 where
  pub more : List Record
  pub records : AreRecords versions.Two old.kept more
  pub store : new ≡ record (with_records old more) { failed = new.failed }
  pub text : IfSome told (λ octets. drop old.end octets ≡ flat_map record_text more ++ drop new.end octets)

-- There are no fewer octets than the store had, and what is broken off at most was cut off their end. Where they begin with the journal of
-- the store's records, what is kept now are the whole records that the octets had, and the new octets are their journal.
pub record CatchesUp (store : StoreState) (old : List ℕ) (new : Option (List ℕ)) (kept : Kept) : Type 0 where
  pub enough : store.end ≤ length old
  pub place : ℕ
  pub first : new ≡ Some (take place old)
  pub cut : IsBroken versions.Two kept place (drop place old)
  pub opens : (all : List Record) → HasReadFirst store old all → OpensTo old new kept

-- There are fewer octets than the store had, and the place is their end. Or they begin with the journal of the store's records, and
-- the journal is bad there.
abbrev pub IsBadFrom : StoreState → List ℕ → ℕ → Type 0
IsBadFrom store octets at =
    ((length octets < store.end) × (at ≡ length octets))
    ⊎ ((store.end ≤ length octets) × ((all : List Record) → HasReadFirst store octets all → IsBadAt octets at))

-- a journal that is told to be bad is so
abbrev pub IsCatchFault : StoreState → List ℕ → OpenFault → Type 0
IsCatchFault store octets faults.Keeper = Unit {0}
IsCatchFault store octets (faults.BadJournal at) = IsBadFrom store octets at
IsCatchFault store octets faults.Memory = Unit {0}
