-- What a call of a wire does, by its answer, and what several calls do.
use Rattle.std.specs.Prelude.{◌≡◌, ℕ, List, [], ◌∷◌, ◌++◌, take, Option, Result, Ok, Err, IsTrue, IsErrOf, ◌≤◌}
use Rattle.std.specs.Io.KnownBytes.{Consumes, Keeps, IsAtEnd}
use Rattle.mail_wire.specs.declared.outside.Entry.{Entry}
use Rattle.mail_wire.specs.declared.outside.Entry.TheVariants.{Taken, Given}
use Rattle.mail_wire.specs.declared.outside.Failed.{Failed}
use Rattle.mail_wire.specs.declared.outside.Failed.TheVariants.{Outside, Memory}
use Rattle.mail_wire.specs.Transcript.{Adds, AreGiven, taken_of, given_of}
use Rattle.mail_wire.specs.WireState.{WireState}
use Rattle.mail_wire.specs.Causes.{Rose}

-- `take` moved its first n octets at `Ok(n)`, none only where nothing is left, and nothing at an `Err`
abbrev pub TakesFrom : Option (List ℕ) → Option (List ℕ) → Result ℕ Failed → List ℕ → Type 0
TakesFrom old new (Ok n) into = Consumes old new (take n into) × (n ≡ 0 → IsAtEnd new)
TakesFrom old new (Err failed) into = Keeps old new

-- `take` noted what it moved
abbrev pub TakeNotes : Option (List Entry) → Option (List Entry) → Result ℕ Failed → List ℕ → Type 0
TakeNotes old new (Ok n) into = Adds old new (Taken (take n into) ∷ [])
TakeNotes old new (Err failed) into = Adds old new []

-- `give` noted all octets at `Ok`, a prefix of them where the outside failed, and nothing for want of memory
abbrev pub GiveNotes : {T : Type 0} → Option (List Entry) → Option (List Entry) → Result T Failed → List ℕ → Type 0
GiveNotes old new (Ok done) from = Adds old new (Given from ∷ [])
GiveNotes old new (Err Outside) from = (n : ℕ) × Adds old new (Given (take n from) ∷ [])
GiveNotes old new (Err Memory) from = Adds old new []

-- Over some calls these entries were noted, and what they took is no longer left.
pub record Moves (before now : WireState) (entries : List Entry) : Type 0 where
  pub left : Consumes before.left now.left (taken_of entries)
  pub noted : Adds before.transcript now.transcript entries

-- The first n octets of the buffer were taken, none only where nothing is left.
pub record TakesPiece (before now : WireState) (n : ℕ) (into : List ℕ) : Type 0 where
  pub left : Consumes before.left now.left (take n into)
  pub end : n ≡ 0 → IsAtEnd now.left
  pub noted : Adds before.transcript now.transcript (Taken (take n into) ∷ [])

-- nothing was taken
pub record TakesNothing (before now : WireState) : Type 0 where
  pub left : Keeps before.left now.left
  pub noted : Adds before.transcript now.transcript []

-- Over some calls these octets were given, and nothing was taken.
pub record Gives (before now : WireState) (octets : List ℕ) : Type 0 where
  pub entries : List Entry
  pub moves : Moves before now entries
  pub only : AreGiven entries
  pub octets_are : given_of entries ≡ octets

-- Over some calls a prefix of these octets was given, and nothing was taken.
pub record GivesPrefix (before now : WireState) (octets : List ℕ) : Type 0 where
  pub given : List ℕ
  pub missing : List ℕ
  pub whole : given ++ missing ≡ octets
  pub gives : Gives before now given

-- all these octets were given, or where the call failed a prefix of them
abbrev pub GivesOrFails : {T E : Type 0} → WireState → WireState → Result T E → List ℕ → Type 0
GivesOrFails before now (Ok done) octets = Gives before now octets
GivesOrFails before now (Err fault) octets = GivesPrefix before now octets

-- The count of faults doesn't fall, and a wire that tells that it never fails goes on telling so.
pub record GoesOn (before now : WireState) : Type 0 where
  pub later : before.faults ≤ now.faults
  pub sure : IsTrue before.never_fails → IsTrue now.never_fails

-- The count of faults never falls; this fault comes only where it rose, and never over a wire that never fails.
pub record HasWireCause {T E : Type 0} (before now : WireState) (result : Result T E) (fault : E) : Type 0 where
  pub later : before.faults ≤ now.faults
  pub rose : IsErrOf result fault → Rose before.faults now.faults
  pub sure : IsTrue before.never_fails → IsTrue now.never_fails × ¬ IsErrOf result fault
