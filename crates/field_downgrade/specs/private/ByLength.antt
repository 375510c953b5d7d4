-- A table of words in parts by the length of the words.
use Rattle.std.specs.Prelude.{ℕ, List, [], ◌∷◌, ◌≡◌, map, length, nat_eq, nat_lt, true, if◌then◌else◌}
use Rattle.std.specs.Borrow.{Bor}
use Rattle.std.specs.List.{list_all, range_with_len}
use Rattle.mail_wire.specs.Tables.{Named, entries_of}
use Rattle.mail_wire.specs.declared.tables.TableWord.{TableWord}

-- the entries of a table whose words have this length
unfoldable pub of_length : {V : Type 0} → ℕ → List (Named V) → List (Named V)
of_length n [] = []
of_length n (entry ∷ table) = if nat_eq (length entry.word) n then entry ∷ of_length n table else of_length n table

-- Parts of a table: the part at each place has the words of so many octets, and no word is longer.
pub record IsByLength {V : Type 0} (parts : List (Bor (List (TableWord V)))) (table : List (Named V)) : Type 0 where
  pub each : map (λ (part : Bor (List (TableWord V))). entries_of part.now) parts ≡ map (λ n. of_length n table) (range_with_len 0 (length parts))
  pub all : list_all (λ (entry : Named V). nat_lt (length entry.word) (length parts)) table ≡ true
