-- What writing records to a keeper does, by its answer.
use Rattle.std.specs.Prelude.{◌≡◌, ℕ, ◌+◌, List, length, take, true, Option, Result, Ok, Err}
use Rattle.mail_wire.specs.Keeping.{with_last}
use Rattle.mail_store.specs.declared.changing.StoreFault.{StoreFault}
use Rattle.mail_store.specs.declared.changing.StoreFault.TheVariants as faults
use Rattle.mail_store.specs.declared.writing.Progress.{Progress}

-- The text was put last in the keeper, or a prefix of it where the keeper failed, which is noted.
abbrev pub Writes : {T : Type 0} → Progress → Progress → Option (List ℕ) → Option (List ℕ) → Result T StoreFault → List ℕ → Type 0
Writes old new had has (Ok done) text = (new ≡ record old { end = old.end + length text }) × (has ≡ with_last had text)
Writes old new had has (Err faults.Keeper) text = (new ≡ record old { failed = true }) × (n : ℕ) × (has ≡ with_last had (take n text))
Writes old new had has (Err faults.Memory) text = (new ≡ old) × (has ≡ had)
Writes old new had has (Err faults.Exists) text = ⊥
Writes old new had has (Err faults.NoSuch) text = ⊥
Writes old new had has (Err faults.TooLarge) text = ⊥
