-- A session (RFC 1939, 3): its rows over a stream, and what its values stand for.
use Rattle.std.specs.Prelude.{◌≡◌, ℕ, List, [], codes, Option, None, Some, Result, IfOk}
use Rattle.session_core.specs.Turns.{Turn, all_turns}
use Rattle.mail_wire.specs.declared.outside.Fault.{Fault}
use Rattle.session_core.specs.Acts.{Act, acts_of, asking}
use Rattle.mail_store.specs.Following.{records_of}
use Rattle.mail_store.specs.StoreState.{StoreState, AreStored, with_records}
use Rattle.surrogate_cache.specs.Caching.{Asked}
use Rattle.session_core.specs.Around.{Around}
use Rattle.session_core.specs.Doing.{Does}
use Rattle.session_core.specs.Grammar.{Grammar, Row, protocol_of}
use Rattle.session_core.specs.Keeps.{fault_of}
use Rattle.session_core.specs.Moments.{Moment}
use Rattle.session_core.specs.Oracles.{Oracles, WithOracles}
use Rattle.session_core.specs.Protocol.{Protocol}
use Rattle.session_core.specs.declared.desk.Desk.{Desk}
use Rattle.session_core.specs.declared.rows.Wants.{Wants}
use Rattle.session_core.specs.declared.rows.Wants.TheVariants as wants
use Rattle.pop_session.specs.Commands.{command_of}
use Rattle.pop_session.specs.Machine.{ReplyPart, State, greeted, authorization, transaction, ended, says, Step, acts_in, asked_of, step}
use Rattle.pop_session.specs.Replies.{IsFit, part_octets}
use Rattle.pop_session.specs.States.{state_of, state_or_ended, KnowsState}
use Rattle.pop_session.specs.declared.states.PopState.{PopState}

-- the machine and its store
pub record Machine : Type 0 where
  pub state : State
  pub store : StoreState

-- What a line is answered that is longer than one may be; the session ends.
abbrev pub line_too_long : List ReplyPart
line_too_long = says (codes "-ERR line too long")

-- what is left after a command
abbrev pub after_step : StoreState → Step → Machine
after_step store taken = record { state = taken.state; store = with_records store (records_of taken.changes) }

-- The first line of a session (RFC 1939, 4).
abbrev pub greeting : List ReplyPart
greeting = says (codes "+OK ready")

-- no line was read yet
abbrev pub start_of : StoreState → Machine
start_of store = record { state = greeted; store = store }

-- after the end no command is read
abbrev pub wants_in : State → Option Wants
wants_in greeted = Some wants.Line
wants_in (authorization mode user) = Some wants.Line
wants_in (transaction mode maildrop) = Some wants.Line
wants_in ended = None

-- what a line brings
abbrev pub line_row : Oracles → Machine → List ℕ → Row Machine ReplyPart
line_row oracles machine text =
    let asked = asked_of machine.state machine.store (command_of text) in
    let taken = step oracles machine.state machine.store (command_of text) in
    record { acts = asking asked (acts_in taken); after = after_step machine.store taken }

-- A line that is too long is answered, and ends the session.
abbrev pub long_row : Machine → Row Machine ReplyPart
long_row machine = record { acts = acts_of [] line_too_long; after = record machine { state = ended } }

-- POP3 by its rows: its greeting, what each state reads, and what each line brings.
abbrev pub pop_grammar : Grammar
pop_grammar = record {
  S = Machine;
  P = ReplyPart;
  opening = λ store. acts_of [] greeting;
  start = λ moments store. start_of store;
  wants = λ machine. wants_in machine.state;
  row = line_row;
  long_row = λ oracles machine. long_row machine;
  spelled = part_octets;
  Fits = IsFit;
  IsSound = λ machine. AreStored machine.store.kept.messages;
}

-- POP3 as a protocol.
abbrev pub pop_protocol : Protocol
pop_protocol = protocol_of pop_grammar

-- what these octets bring
abbrev pub turns_of : Oracles → Machine → List ℕ → Turn Machine (Act ReplyPart)
turns_of oracles machine octets = all_turns (pop_protocol.next oracles) machine octets

-- ---- what values stand for

-- The machine that a session stands for, with the store of its desk.
abbrev pub machine_of : PopState → Desk → Machine
machine_of session desk = record { state = state_of session; store = desk.store }

-- A session stands for its machine, whatever moments are to come.
abbrev pub PopStands : List Moment → PopState → Desk → Machine → Type 0
PopStands more session desk machine = machine ≡ machine_of session desk

-- the store has the messages that the session names
abbrev pub KnowsPop : PopState → Desk → Type 0
KnowsPop session desk = KnowsState desk.store (state_of session)

-- These messages were asked for and the step was carried out, or after a fault the first of it; the session is in its state, and the store
-- has the messages that it names.
pub record TakesStep (before now : Around) (result : Result (Option PopState) Fault) (asked : List Asked) (taken : Oracles → Step) : Type 0 where
  pub does : WithOracles (λ oracles. Does (part_octets oracles) before now (fault_of result) (asking asked (acts_in (taken oracles))))
  pub next : WithOracles (λ oracles. IfOk result (λ next. state_or_ended next ≡ (taken oracles).state))
  pub known : IfOk result (λ next. KnowsState now.desk.store (state_or_ended next))
