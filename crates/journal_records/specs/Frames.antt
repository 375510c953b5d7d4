-- What octets begin with: a journal, a length and so many octets, or a prefix of these.
use Rattle.std.specs.Prelude.{◌≡◌, ◌≢◌, ◌⊎◌, ℕ, ◌+◌, ◌<◌, ◌≤◌, List, ◌++◌, length, take, drop}
use Rattle.journal_records.specs.declared.limits.TheConstants.{RECORD_MAX}
use Rattle.journal_records.specs.declared.frames.Frame.{Frame}
use Rattle.journal_records.specs.declared.frames.Frame.TheVariants as frames
use Rattle.journal_records.specs.declared.versions.Version.{Version}
use Rattle.journal_records.specs.declared.frames.Beginning.{Beginning}
use Rattle.journal_records.specs.declared.frames.Beginning.TheVariants as beginnings
use Rattle.journal_records.specs.Spelling.{number, octet_list, first_octets}

-- ---- a record, as far as its length tells

-- a prefix of a record: fewer than four octets, or a length within the limit and fewer octets than it says
abbrev pub IsCutShort : List ℕ → Type 0
IsCutShort octets =
    (length octets < 4)
    ⊎ ((n : ℕ) × (held : List ℕ) × (0 < n) × (n ≤ RECORD_MAX) × (length held < n) × (octets ≡ number n ++ held))

-- a length within the limit and so many octets come first
pub record IsWhole (n : ℕ) (octets : List ℕ) : Type 0 where
  pub some : 0 < n
  pub short : n ≤ RECORD_MAX
  pub within : 4 + n ≤ length octets
  pub text : octets ≡ octet_list (take n (drop 4 octets)) ++ drop n (drop 4 octets)

-- neither a prefix of a record nor a list of octets within the limit
pub record IsNoFrame (octets : List ℕ) : Type 0 where
  pub no_prefix : IsCutShort octets → ⊥
  pub no_list : (fields rest : List ℕ) → 0 < length fields → length fields ≤ RECORD_MAX → octets ≢ octet_list fields ++ rest

-- What octets begin with: a record that is cut short, nothing that can be one, or a whole one of so many octets.
abbrev pub IsFrame : Frame → List ℕ → Type 0
IsFrame frames.CutShort octets = IsCutShort octets
IsFrame frames.Bad octets = IsNoFrame octets
IsFrame (frames.Whole n) octets = IsWhole n octets

-- a whole frame stands within so many octets
abbrev pub FitsIn : Frame → ℕ → Type 0
FitsIn frames.CutShort left = Unit {0}
FitsIn frames.Bad left = Unit {0}
FitsIn (frames.Whole n) left = (0 < n) × (n ≤ RECORD_MAX) × (4 + n ≤ left)

-- ---- the first octets

-- fewer octets than a journal begins with, and all of them such
pub record IsBeginning (octets : List ℕ) : Type 0 where
  pub shorter : length octets < 8
  pub version : Version
  pub same : octets ≡ take (length octets) (first_octets version)

-- How octets begin: with fewer than a journal begins with, all of them such; with the first octets of a journal of a version; or otherwise.
abbrev pub IsBeginningOf : Beginning → List ℕ → Type 0
IsBeginningOf beginnings.Prefix octets = IsBeginning octets
IsBeginningOf (beginnings.Journal version) octets = octets ≡ first_octets version ++ drop 8 octets
IsBeginningOf beginnings.Other octets = (IsBeginning octets → ⊥) × ((version : Version) (rest : List ℕ) → octets ≢ first_octets version ++ rest)

-- only a journal has eight octets or more
abbrev pub IsLong : Beginning → ℕ → Type 0
IsLong beginnings.Prefix len = Unit {0}
IsLong (beginnings.Journal version) len = 8 ≤ len
IsLong beginnings.Other len = Unit {0}
