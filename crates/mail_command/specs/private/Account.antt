-- What the journal of `gen` has before any message.
use Rattle.std.specs.Prelude.{ℕ, List, [], ◌∷◌, codes}
use Rattle.journal_records.specs.declared.records.Record.{Record}
use Rattle.journal_records.specs.declared.records.Record.TheVariants as records

abbrev pub domain : List ℕ
domain = codes "example.org"

-- the domain, and its account
abbrev pub first_records : List Record
first_records = records.Domain domain ∷ records.Account (codes "a@example.org") (codes "a") ∷ []
