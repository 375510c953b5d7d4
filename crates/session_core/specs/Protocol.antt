-- A protocol as a machine over whole lists.
use Rattle.std.specs.Prelude.{ℕ, List, Option}
use Rattle.std.specs.List.{AllByRecursion}
use Rattle.session_core.specs.Turns.{Turn}
use Rattle.session_core.specs.Acts.{Act, IsFitAct}
use Rattle.mail_store.specs.StoreState.{StoreState}
use Rattle.session_core.specs.Oracles.{Oracles}
use Rattle.session_core.specs.Moments.{Moment}

-- A protocol: its states, its turns, and what may be sent.
pub record Protocol : Type 1 where
  -- states, each with its store, and parts of replies
  pub S : Type 0
  pub P : Type 0
  -- what a session does first, and its state then, with the moments that are still to come
  pub opening : StoreState → List (Act P)
  pub start : List Moment → StoreState → S
  -- the turn at the head of a stream
  pub next : Oracles → S → List ℕ → Option (Turn S (Act P))
  -- the octets of a part, and what may be sent
  pub spelled : Oracles → P → List ℕ
  pub Fits : Oracles → P → Type 0
  pub HasEnded : S → Type 0
  -- whatever such a state is asked for, its replies may be sent
  pub IsSound : S → Type 0

-- what these acts give may be sent
abbrev pub AreFitActs : (protocol : Protocol) → Oracles → List (Act protocol.P) → Type 0
AreFitActs protocol oracles acts = AllByRecursion (IsFitAct (protocol.Fits oracles)) acts

-- what the turn gives may be sent, and its state is sound
pub record IsFitTurn (protocol : Protocol) (oracles : Oracles) (turn : Turn protocol.S (Act protocol.P)) : Type 0 where
  pub fit : AreFitActs protocol oracles turn.parts
  pub sound : protocol.IsSound turn.after
