-- A password that words may have.
use Rattle.std.specs.Prelude.{ℕ, ◌≤◌, List, length, Option, Some, None}
use Rattle.journal_records.specs.declared.limits.TheConstants.{TEXT_MAX}

-- it is within the limit, or there is none
abbrev pub IsShortPassword : Option (List ℕ) → Type 0
IsShortPassword None = Unit {0}
IsShortPassword (Some password) = length password ≤ TEXT_MAX
