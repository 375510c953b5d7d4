-- How far a call came with the acts that were due, on its wire, in its store and in its keeper: always the first of them, in their order. What a
-- call that was broken off fetched isn't said here: its cache is still that of its store.
use Rattle.std.specs.Prelude.{◌≡◌, ℕ, List, [], ◌∷◌, ◌++◌, Option, None, Some}
use Rattle.std.specs.List.{flat_map}
use Rattle.mail_wire.specs.declared.outside.Fault.{Fault}
use Rattle.mail_wire.specs.declared.outside.Fault.TheVariants as fault
use Rattle.session_core.specs.Acts.{Act, changes, changes_in, act_octets}
use Rattle.mail_store.specs.Following.{records_of, Follows, Breaks}
use Rattle.mail_store.specs.StoreState.{StoreState}
use Rattle.journal_records.specs.declared.records.Record.{Record}

-- the octets that acts give, where this tells those of a part
abbrev pub given_by : {P : Type 0} → (P → List ℕ) → List (Act P) → List ℕ
given_by spelled acts = flat_map (act_octets spelled) acts

-- These acts were done. Of what is given after them, with no change in between, a prefix was given, and nothing of what is left was given or changed.
pub record StopsIn {P : Type 0} (spelled : P → List ℕ) (old new : StoreState) (had has : Option (List ℕ)) (acts : List (Act P)) (given : List ℕ) : Type 0 where
  pub done : List (Act P)
  pub cut : List (Act P)
  pub left : List (Act P)
  pub acts_are : acts ≡ done ++ (cut ++ left)
  pub unchanged : changes_in cut ≡ []
  pub begun : List ℕ
  pub missing : List ℕ
  pub cut_is : given_by spelled cut ≡ begun ++ missing
  pub given_is : given ≡ given_by spelled done ++ begun
  pub follows : Follows old new had has (records_of (changes_in done))

-- These acts were done. In the change after them the keeper failed, and nothing of what is left was done.
pub record FailsIn {P : Type 0} (spelled : P → List ℕ) (old new : StoreState) (had has : Option (List ℕ)) (acts : List (Act P)) (given : List ℕ) : Type 0 where
  pub done : List (Act P)
  pub failing : List Record
  pub left : List (Act P)
  pub acts_are : acts ≡ done ++ changes failing ∷ left
  pub given_is : given ≡ given_by spelled done
  pub breaks : Breaks old new had has (records_of (changes_in done)) failing

-- what was given and changed of these acts, where nothing or this broke the call off
abbrev pub IsDone : {P : Type 0} → (P → List ℕ) → StoreState → StoreState → Option (List ℕ) → Option (List ℕ) → Option Fault → List (Act P) → List ℕ → Type 0
IsDone spelled old new had has None acts given = (given ≡ given_by spelled acts) × Follows old new had has (records_of (changes_in acts))
IsDone spelled old new had has (Some fault.Keeper) acts given = FailsIn spelled old new had has acts given
IsDone spelled old new had has (Some fault.Wire) acts given = StopsIn spelled old new had has acts given
IsDone spelled old new had has (Some fault.Memory) acts given = StopsIn spelled old new had has acts given
