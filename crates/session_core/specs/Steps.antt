-- What the calls of a machine do.
use Rattle.std.specs.Prelude.{◌≡◌, ℕ, [], ◌++◌, drop, List, Option, Some, None, Result, IfOk}
use Rattle.std.specs.List.{All}
use Rattle.session_core.specs.Turns.{Turn, following, all_turns}
use Rattle.mail_wire.specs.declared.outside.Fault.{Fault}
use Rattle.session_core.specs.Acts.{Act}
use Rattle.session_core.specs.Around.{Around}
use Rattle.session_core.specs.Doing.{Does}
use Rattle.session_core.specs.Keeps.{fault_of}
use Rattle.session_core.specs.Oracles.{Oracles, WithOracles}
use Rattle.session_core.specs.Moments.{Moment, IsTold}
use Rattle.session_core.specs.Protocol.{Protocol}
use Rattle.session_core.specs.declared.desk.Desk.{Desk}
use Rattle.session_core.specs.declared.machine.Advance.{Advance}

-- the states and the rests of the stream that a machine with these octets kept stands for, with these moments to come
abbrev pub Standing : Protocol → Type 0 → Type 1
Standing protocol M = List Moment → M → List ℕ → Desk → protocol.S → List ℕ → Type 0

-- The opening was done, or the first of it; and the machine stands for the start.
pub record Begins (protocol : Protocol) {M : Type 0} (stands : Standing protocol M) (before now : Around) (result : Result M Fault) : Type 0 where
  pub does : WithOracles (λ oracles. Does (protocol.spelled oracles) before now (fault_of result) (protocol.opening before.desk.store))
  pub stands_for : IfOk result (λ machine. (moments : List Moment) → stands moments machine [] now.desk (protocol.start moments before.desk.store) [])

-- what the machine after a step stands for; none stands for an end
abbrev pub StandsAfter : (protocol : Protocol) {M : Type 0} → Standing protocol M → List Moment → Option M → List ℕ → Desk → protocol.S → List ℕ → Type 0
StandsAfter protocol stands more None kept desk state rest = protocol.HasEnded state
StandsAfter protocol stands more (Some machine) kept desk state rest = stands more machine kept desk state rest

-- The machine that a step leaves, if any, has what it needs.
abbrev pub IsReadyNext : {M : Type 0} → (M → List ℕ → Desk → Type 0) → Option M → List ℕ → Desk → Type 0
IsReadyNext is_ready None kept desk = Unit {0}
IsReadyNext is_ready (Some machine) kept desk = is_ready machine kept desk

-- The machine that comes of a piece, if any, has what it needs.
abbrev pub IsReadyAfter : {M : Type 0} → (M → List ℕ → Desk → Type 0) → Advance M → List ℕ → Desk → Type 0
IsReadyAfter is_ready advance kept desk = IsReadyNext is_ready advance.next kept desk

-- a state and a rest that what is after a step stands for, and which bring these turns with what was not used
pub record Stays (protocol : Protocol) {M : Type 0} (stands : Standing protocol M) (oracles : Oracles) (now : Around) (advance : Advance M) (kept piece : List ℕ) (more : List Moment) (turn : Turn protocol.S (Act protocol.P)) : Type 0 where
  pub state : protocol.S
  pub rest : List ℕ
  pub has : StandsAfter protocol stands more advance.next kept now.desk state rest
  pub turn_is : turn ≡ all_turns (protocol.next oracles) state (rest ++ drop advance.used piece)

-- The first of these turns were carried out, or none yet.
pub record StepsBy (protocol : Protocol) {M : Type 0} (stands : Standing protocol M) (oracles : Oracles) (before now : Around) (result : Result (Advance M) Fault) (kept piece : List ℕ) (more : List Moment) (turns : Turn protocol.S (Act protocol.P)) : Type 0 where
  pub acts : List (Act protocol.P)
  pub turn : Turn protocol.S (Act protocol.P)
  pub turns_are : turns ≡ following acts turn
  pub does : Does (protocol.spelled oracles) before now (fault_of result) acts
  pub stays : IfOk result (λ advance. Stays protocol stands oracles now advance kept piece more turn)

-- The same of whatever the machine stands for, with moments that the clock told.
pub record Steps (protocol : Protocol) {M : Type 0} (stands : Standing protocol M) (before now : Around) (machine : M) (kept keeps piece : List ℕ) (result : Result (Advance M) Fault) : Type 0 where
  pub told : List Moment
  pub are_told : All (IsTold before.clock) told
  pub steps : WithOracles (λ oracles. (more : List Moment) (state : protocol.S) (rest : List ℕ) → stands (told ++ more) machine kept before.desk state rest
      → StepsBy protocol stands oracles before now result keeps piece more (all_turns (protocol.next oracles) state (rest ++ piece)))
