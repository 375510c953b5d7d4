-- The versions of a journal: which records each has, and where a journal goes from one to the next.
use Rattle.std.specs.Prelude.{◌≡◌, ℕ, List, [], ◌∷◌, Option, Some, None}
use Rattle.journal_records.specs.declared.versions.Version.{Version}
use Rattle.journal_records.specs.declared.versions.Version.TheVariants as versions
use Rattle.journal_records.specs.declared.records.Record.{Record}
use Rattle.journal_records.specs.declared.records.Record.TheVariants as records

-- messages have no mark in version 1, and each has one in version 2
abbrev pub IsMarkedAsIn : Version → Option ℕ → Type 0
IsMarkedAsIn versions.One None = Unit {0}
IsMarkedAsIn versions.One (Some mark) = ⊥
IsMarkedAsIn versions.Two None = ⊥
IsMarkedAsIn versions.Two (Some mark) = Unit {0}

-- The record is of a kind that the version has. Messages without a mark, and the record that begins version 2, stand in version 1 alone, and messages
-- with a mark in version 2 alone; any other record stands in both.
abbrev pub IsOfVersion : Version → Record → Type 0
IsOfVersion version (records.Message folder flags mark date octets) = IsMarkedAsIn version mark
IsOfVersion version (records.Queue path addresses mark octets) = IsMarkedAsIn version mark
IsOfVersion version records.Version = version ≡ versions.One
IsOfVersion version other = Unit {0}

-- the version after a record
abbrev pub version_after : Version → Record → Version
version_after version records.Version = versions.Two
version_after version other = version

-- The version after these records, the first of them first.
abbrev pub version_after_all : Version → List Record → Version
version_after_all version [] = version
version_after_all version (one ∷ others) = version_after_all (version_after version one) others
