-- Words of the private calls that go over a journal.
use Rattle.std.specs.Prelude.{◌≡◌, ◌⊎◌, ℕ, ◌+◌, ◌≤◌, List, [], ◌++◌, length, take, drop, Option, Some, None, Bool, true, false, IfSome, IsTrue, Result, Ok, Err, if◌then◌else◌, ◌==◌}
use Rattle.std.specs.List.{flat_map}
use Rattle.mail_wire.specs.KeeperState.{KeeperState}
use Rattle.mail_store.specs.declared.opening.OpenFault.{OpenFault}
use Rattle.mail_store.specs.declared.opening.OpenFault.TheVariants as faults
use Rattle.journal_records.specs.declared.records.Record.{Record}
use Rattle.journal_records.specs.declared.versions.Version.{Version}
use Rattle.journal_records.specs.declared.versions.Version.TheVariants as versions
use Rattle.journal_records.specs.declared.frames.Frame.{Frame}
use Rattle.journal_records.specs.declared.frames.Frame.TheVariants as frames
use Rattle.journal_records.specs.Versions.{version_after_all}
use Rattle.kept_mail.specs.Kept.{Kept, nothing, store_of}
use Rattle.kept_mail.specs.Records.{AreRecords}
use Rattle.mail_store.specs.Answers.{upgrade, upgraded}
use Rattle.mail_store.specs.Opening.{AreZeros, EndsInZeros, are_zeros, IsBroken, HasRecordsIn, HasNoRecord, IsBadAt}
use Rattle.journal_records.specs.Frames.{IsBeginning}
use Rattle.journal_records.specs.Spelling.{record_text, journal, first_octets}
use Rattle.mail_store.specs.StoreState.{StoreState, with_records}
use Rattle.mail_store.specs.private.Adding.{Added, NotAdded}

-- the octets are as before, nothing was appended, the count of faults isn't less, and a keeper that never fails goes on
pub record KeeperStays (before now : KeeperState) : Type 0 where
  pub same : now.octets ≡ before.octets
  pub unappended : now.appends ≡ before.appends
  pub later : before.faults ≤ now.faults
  pub sure : IsTrue before.never_fails → IsTrue now.never_fails

-- a fault that isn't the journal's
abbrev pub IsOutside : OpenFault → Type 0
IsOutside faults.Keeper = Unit {0}
IsOutside (faults.BadJournal at) = ⊥
IsOutside faults.Memory = Unit {0}

-- the fields of a length that stands at a place
abbrev pub fields_at : List ℕ → ℕ → ℕ → List ℕ
fields_at octets at n = take n (drop (at + 4) octets)

-- ---- one record

-- The fields of a whole frame where the store's journal ends were put last.
abbrev pub AddsFrame : Frame → Option (List ℕ) → Version → Version → StoreState → StoreState → Type 0
AddsFrame frames.CutShort told version after old new = ⊥
AddsFrame frames.Bad told version after old new = ⊥
AddsFrame (frames.Whole n) told version after old new = (fields : List ℕ) × Added version after old new fields × (length fields ≡ n) × IfSome told (λ octets. fields ≡ fields_at octets old.end n)

-- there is no whole frame, or its fields are no record
abbrev pub AddsNoFrame : Frame → Option (List ℕ) → Version → StoreState → Type 0
AddsNoFrame frames.CutShort told version old = Unit {0}
AddsNoFrame frames.Bad told version old = Unit {0}
AddsNoFrame (frames.Whole n) told version old = IfSome told (λ octets. NotAdded version old (fields_at octets old.end n))

-- The frame was put last exactly where the answer says so. Else store and version are as before.
abbrev pub AddsFrameBy : Frame → Option (List ℕ) → Version → Version → StoreState → StoreState → Result Bool OpenFault → Type 0
AddsFrameBy frame told version after old new (Ok true) = AddsFrame frame told version after old new
AddsFrameBy frame told version after old new (Ok false) = AddsNoFrame frame told version old × (after ≡ version) × (new ≡ old)
AddsFrameBy frame told version after old new (Err fault) = IsOutside fault × (after ≡ version) × (new ≡ old)

-- What makes octets broken off that begin with such a frame, and no record.
abbrev pub BreaksFrame : Frame → ℕ → List ℕ → Type 0
BreaksFrame frames.CutShort at rest = Unit {0}
BreaksFrame frames.Bad at rest = AreZeros rest
BreaksFrame (frames.Whole n) at rest = (length rest ≡ 4 + n) × EndsInZeros at rest

-- ---- several records

-- These records were put last in a store, one after the other as they stand after those that it had, and the version goes with them.
pub record IsReadTo (told : Option (List ℕ)) (version after : Version) (first store : StoreState) : Type 0 where
  pub more : List Record
  pub records : AreRecords version first.kept more
  pub after_is : after ≡ version_after_all version more
  pub store_is : store ≡ with_records first more
  pub text : IfSome told (λ octets. drop first.end octets ≡ flat_map record_text more ++ drop store.end octets)

-- the same of a store whose journal goes on in version 2
pub record ReadsTwo (told : Option (List ℕ)) (first store : StoreState) : Type 0 where
  pub more : List Record
  pub records : AreRecords versions.Two first.kept more
  pub store_is : store ≡ with_records first more
  pub text : IfSome told (λ octets. drop first.end octets ≡ flat_map record_text more ++ drop store.end octets)

-- what a loop over a journal keeps
pub record IsGoing (before now : KeeperState) (had : ℕ) (version after : Version) (first store : StoreState) : Type 0 where
  pub so_far : IsReadTo before.octets version after first store
  pub stays : KeeperStays before now
  pub within : store.end ≤ had

-- what stands where the store's journal ends is broken off
abbrev pub IsBrokenRest : Version → StoreState → List ℕ → Type 0
IsBrokenRest version store octets = IsBroken version store.kept store.end (drop store.end octets)

-- where the store's journal ends, no record stands, and what does isn't broken off
pub record IsBadRest (octets : List ℕ) (version : Version) (store : StoreState) (at : ℕ) : Type 0 where
  pub at_is : at ≡ store.end
  pub no_break : IsBrokenRest version store octets → ⊥
  pub no_record : HasNoRecord version store.kept (drop store.end octets)

-- why no more records were put last
abbrev pub IsRestFault : Option (List ℕ) → Version → StoreState → OpenFault → Type 0
IsRestFault told version store faults.Keeper = Unit {0}
IsRestFault told version store (faults.BadJournal at) = IfSome told (λ octets. IsBadRest octets version store at)
IsRestFault told version store faults.Memory = Unit {0}

-- One more record was put last where the answer says so, or else what stands there is broken off.
abbrev pub ReadsOne : Option (List ℕ) → Version → StoreState → StoreState → Result Bool OpenFault → Type 0
ReadsOne told after old new (Ok true) = old.end + 4 ≤ new.end
ReadsOne told after old new (Ok false) = IfSome told (IsBrokenRest after new)
ReadsOne told after old new (Err fault) = IsRestFault told after new fault

-- ---- zeros

-- what a loop over a journal's last octets keeps, which is zeros so far
pub record IsLooking (before now : KeeperState) (from at had : ℕ) : Type 0 where
  pub stays : KeeperStays before now
  pub within : at ≤ had
  pub so_far : IfSome before.octets (λ octets. are_zeros (drop at octets) ≡ are_zeros (drop from octets))

-- ---- what is put last after them

-- what opening puts last where the whole records end here, in this version; nothing is begun where they end at 0
abbrev pub brought : ℕ → Version → List ℕ
brought end version = if end == 0 then first_octets versions.Two else flat_map record_text (upgrade version)

-- the octets of an opened journal
abbrev pub repaired : ℕ → Version → List ℕ → List ℕ
repaired end version octets = take end octets ++ brought end version

-- The octets up to `end` are the whole records, these are kept, and the version is that after them.
pub record EndsJournalAt (octets : List ℕ) (end : ℕ) (version : Version) (kept : Kept) : Type 0 where
  pub first : Version
  pub all : List Record
  pub had : HasRecordsIn first octets all
  pub records : AreRecords first nothing all
  pub kept_is : kept ≡ store_of all
  pub after_is : version ≡ version_after_all first all
  pub text : repaired end version octets ≡ journal first (upgraded first all)
  pub within : end ≤ length octets
  pub long : IsBeginning octets ⊎ (end ≡ length (journal first all))
  pub begun : end ≡ 0 → IsBeginning octets

-- a bad journal is bad at that place
abbrev pub IsReadingFault : List ℕ → OpenFault → Type 0
IsReadingFault octets faults.Keeper = Unit {0}
IsReadingFault octets (faults.BadJournal at) = IsBadAt octets at
IsReadingFault octets faults.Memory = Unit {0}

-- nothing was changed, or what is after the records was cut and a first part of this put there
abbrev pub IsHalfRepaired : ℕ → List ℕ → List ℕ → List ℕ → Type 0
IsHalfRepaired end text old new = (new ≡ old) ⊎ ((n : ℕ) × (new ≡ take end old ++ take n text))

abbrev pub HalfRepairs : ℕ → List ℕ → Option (List ℕ) → Option (List ℕ) → Type 0
HalfRepairs end text None new = new ≡ None
HalfRepairs end text (Some old) None = ⊥
HalfRepairs end text (Some old) (Some new) = IsHalfRepaired end text old new

-- nothing was changed, or what is after the records was cut
abbrev pub CutsAtMost : ℕ → Option (List ℕ) → Option (List ℕ) → Type 0
CutsAtMost end None new = new ≡ None
CutsAtMost end (Some old) None = ⊥
CutsAtMost end (Some old) (Some new) = (new ≡ old) ⊎ (new ≡ take end old)
