-- What several calls that change a store do, one after another.
use Rattle.std.specs.Prelude.{◌≡◌, ℕ, List, ◌++◌, take, true, Option}
use Rattle.std.specs.List.{flat_map}
use Rattle.mail_wire.specs.Keeping.{with_last}
use Rattle.journal_records.specs.declared.records.Record.{Record}
use Rattle.journal_records.specs.declared.versions.Version.TheVariants as versions
use Rattle.kept_mail.specs.Records.{AreRecords}
use Rattle.journal_records.specs.Spelling.{record_text}
use Rattle.mail_store.specs.StoreState.{StoreState, with_records}

-- the records of these changes, each of which is that of one call
abbrev pub records_of : List (List Record) → List Record
records_of changes = flat_map (λ records. records) changes

-- These records, which are such, were put last in the store and in the keeper.
pub record Follows (old new : StoreState) (had has : Option (List ℕ)) (all : List Record) : Type 0 where
  pub records : AreRecords versions.Two old.kept all
  pub store : new ≡ with_records old all
  pub journal : has ≡ with_last had (flat_map record_text all)

-- These records were put last in the store and in the keeper. In the next call the keeper failed, which is noted, and has a prefix of its records.
pub record Breaks (old new : StoreState) (had has : Option (List ℕ)) (made failing : List Record) : Type 0 where
  pub records : AreRecords versions.Two old.kept (made ++ failing)
  pub store : new ≡ record (with_records old made) { failed = true }
  pub count : ℕ
  pub journal : has ≡ with_last had (flat_map record_text made ++ take count (flat_map record_text failing))
