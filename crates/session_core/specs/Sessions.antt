-- What a session stands for, and what feeding it does.
use Rattle.std.specs.Prelude.{ℕ, [], ◌++◌, List, Result, IfOk}
use Rattle.std.specs.List.{All}
use Rattle.session_core.specs.Turns.{Turn, all_turns}
use Rattle.mail_wire.specs.declared.outside.Fault.{Fault}
use Rattle.session_core.specs.Acts.{Act}
use Rattle.session_core.specs.Around.{Around}
use Rattle.session_core.specs.Doing.{Does}
use Rattle.session_core.specs.Keeps.{fault_of}
use Rattle.session_core.specs.Oracles.{Oracles, WithOracles}
use Rattle.session_core.specs.Moments.{Moment, IsTold}
use Rattle.session_core.specs.Protocol.{Protocol}
use Rattle.session_core.specs.Steps.{Standing}
use Rattle.session_core.specs.declared.desk.Desk.{Desk}
use Rattle.session_core.specs.declared.feeding.Session.{Session}
use Rattle.session_core.specs.declared.feeding.Session.TheVariants as variant

-- A session that has ended stands for every end.
abbrev pub StandsFor : (protocol : Protocol) {M : Type 0} → Standing protocol M → List Moment → Session M → Desk → protocol.S → List ℕ → Type 0
StandsFor protocol stands more (variant.Open reading) desk state rest = stands more reading.machine reading.kept desk state rest
StandsFor protocol stands more variant.Ended desk state rest = protocol.HasEnded state

-- The session has kept no whole turn, and has what it needs.
abbrev pub IsReady : {M : Type 0} → (M → List ℕ → Desk → Type 0) → Session M → Desk → Type 0
IsReady is_ready (variant.Open reading) desk = is_ready reading.machine reading.kept desk
IsReady is_ready variant.Ended desk = Unit {0}

-- The session has ended.
abbrev pub HasEnded : {M : Type 0} → Session M → Type 0
HasEnded (variant.Open reading) = ⊥
HasEnded variant.Ended = Unit {0}

-- The opening was done, or the first of it; and the session stands for the start.
pub record BeginsSession (protocol : Protocol) {M : Type 0} (stands : Standing protocol M) (before now : Around) (result : Result (Session M) Fault) : Type 0 where
  pub does : WithOracles (λ oracles. Does (protocol.spelled oracles) before now (fault_of result) (protocol.opening before.desk.store))
  pub stands_for : IfOk result (λ session. (moments : List Moment) → StandsFor protocol stands moments session now.desk (protocol.start moments before.desk.store) [])

-- The acts of these turns were done, or after a fault the first of them; and the session stands for what they leave.
pub record FeedsBy (protocol : Protocol) {M : Type 0} (stands : Standing protocol M) (oracles : Oracles) (before now : Around) (result : Result (Session M) Fault) (more : List Moment) (turn : Turn protocol.S (Act protocol.P)) : Type 0 where
  pub does : Does (protocol.spelled oracles) before now (fault_of result) turn.parts
  pub stands_for : IfOk result (λ session. StandsFor protocol stands more session now.desk turn.after turn.rest)

-- Whatever the session stands for, the call does the turns of the rest and the piece, with moments that the clock told.
pub record Feeds (protocol : Protocol) {M : Type 0} (stands : Standing protocol M) (before now : Around) (session : Session M) (result : Result (Session M) Fault) (piece : List ℕ) : Type 0 where
  pub told : List Moment
  pub are_told : All (IsTold before.clock) told
  pub feeds : WithOracles (λ oracles. (more : List Moment) (state : protocol.S) (rest : List ℕ) → StandsFor protocol stands (told ++ more) session before.desk state rest
      → FeedsBy protocol stands oracles before now result more (all_turns (protocol.next oracles) state (rest ++ piece)))
