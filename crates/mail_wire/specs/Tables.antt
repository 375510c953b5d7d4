-- Tables of words.
use Rattle.std.specs.Prelude.{ℕ, List, [], ◌∷◌, map, Option, None, Some, if◌then◌else◌}
use Rattle.mail_wire.specs.Octets.{same_name}
use Rattle.mail_wire.specs.declared.tables.TableWord.{TableWord}

-- a word, and what it says
pub record Named (V : Type 0) : Type 0 where
  pub word : List ℕ
  pub says : V

-- the entries of a table of the program
abbrev pub entries_of : {V : Type 0} → List (TableWord V) → List (Named V)
entries_of {V} table = map (λ (w : TableWord V). record { word = w.0.now; says = w.1 }) table

-- what the first entry says whose word is this one, in any case of ASCII letters
unfoldable pub said_by : {V : Type 0} → List (Named V) → List ℕ → Option V
said_by [] word = None
said_by (entry ∷ table) word = if same_name word entry.word then Some entry.says else said_by table word
