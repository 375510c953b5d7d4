-- What a call of a keeper does, by its answer, and what several calls do.
use Rattle.std.specs.Prelude.{◌≡◌, ◌≤◌, ℕ, ◌+◌, List, ◌++◌, length, take, drop, Option, IfSome, option_map, Result, Ok, Err, IfOk, OnOk, IsTrue, IsErrOf}
use Rattle.mail_wire.specs.declared.outside.Failed.{Failed}
use Rattle.mail_wire.specs.declared.outside.Failed.TheVariants.{Outside, Memory}
use Rattle.mail_wire.specs.KeeperState.{KeeperState}
use Rattle.mail_wire.specs.Causes.{Rose}

-- `len` told how many octets there are
abbrev pub TellsLen : Option (List ℕ) → Result ℕ Failed → Type 0
TellsLen kept result = IfOk result (λ n. IfSome kept (λ octets. n ≡ length octets))

-- the octets from this place on fill the buffer
abbrev pub FillsFrom : {T : Type 0} → Option (List ℕ) → ℕ → Result T Failed → List ℕ → Type 0
FillsFrom kept at result into = OnOk result (IfSome kept (λ octets. into ≡ take (length into) (drop at octets)))

-- the octets, where they are told, with more after them
abbrev pub with_last : Option (List ℕ) → List ℕ → Option (List ℕ)
with_last kept more = option_map (λ octets. octets ++ more) kept

-- `append` put all octets last at `Ok`, a prefix of them where the outside failed, and none for want of memory
abbrev pub PutsLast : {T : Type 0} → Option (List ℕ) → Option (List ℕ) → Result T Failed → List ℕ → Type 0
PutsLast old new (Ok done) from = new ≡ with_last old from
PutsLast old new (Err Outside) from = (n : ℕ) × (new ≡ with_last old (take n from))
PutsLast old new (Err Memory) from = new ≡ old

-- one append more than there were, where they are told
abbrev pub one_more : Option ℕ → Option ℕ
one_more appends = option_map (λ n. n + 1) appends

-- `append` made one append, also where the outside failed, and none for want of memory
abbrev pub AppendsOnce : {T : Type 0} → Option ℕ → Option ℕ → Result T Failed → Type 0
AppendsOnce old new (Ok done) = new ≡ one_more old
AppendsOnce old new (Err Outside) = new ≡ one_more old
AppendsOnce old new (Err Memory) = new ≡ old

-- `cut` left the first n octets at `Ok`, and all of them else
abbrev pub CutsTo : {T : Type 0} → Option (List ℕ) → Option (List ℕ) → Result T Failed → ℕ → Type 0
CutsTo old new (Ok done) n = new ≡ option_map (take n) old
CutsTo old new (Err failed) n = new ≡ old

-- The count of faults never falls; this fault comes only where it rose, and never over a keeper that never fails.
pub record HasKeeperCause {T E : Type 0} (before now : KeeperState) (result : Result T E) (fault : E) : Type 0 where
  pub later : before.faults ≤ now.faults
  pub rose : IsErrOf result fault → Rose before.faults now.faults
  pub sure : IsTrue before.never_fails → IsTrue now.never_fails × ¬ IsErrOf result fault
