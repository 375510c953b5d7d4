-- What writing a text does, by its answer.
use Rattle.std.specs.Prelude.{◌≡◌, ℕ, List, ◌++◌, take, Result, Ok, Err}
use Rattle.mail_wire.specs.declared.values.Memory.{Memory}

-- the text was put last, or a first part of it
abbrev pub PutsText : {T : Type 0} → List ℕ → List ℕ → Result T Memory → List ℕ → Type 0
PutsText old new (Ok done) text = new ≡ old ++ text
PutsText old new (Err memory) text = (n : ℕ) × (new ≡ old ++ take n text)
