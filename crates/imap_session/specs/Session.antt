-- A session (RFC 3501, 2.2, 3 and 4.3): the machine over a stream, and what its values stand for.
use Rattle.std.specs.Prelude.{◌≡◌, ℕ, ◌+◌, ◌^◌, ◌<◌, ◌++◌, Bool, true, false, ◌&&◌, List, [], ◌∷◌, codes, drop, length, Option, None, Some, Result, IfOk, if◌then◌else◌, slice_range}
use Rattle.std.specs.List.{All, list_any}
use Rattle.std.specs.Option.{option_map}
use Rattle.mail_wire.specs.declared.outside.Fault.{Fault}
use Rattle.mail_wire.specs.Octets.{same_name}
use Rattle.journal_records.specs.Grammar.{IsDate, date_shape, fits_letter, months}
use Rattle.mail_store.specs.Following.{records_of}
use Rattle.kept_mail.specs.Kept.{listed}
use Rattle.mail_store.specs.StoreState.{StoreState, AreStored, with_records}
use Rattle.kept_mail.specs.declared.kept.Listed.{Listed}
use Rattle.surrogate_cache.specs.Served.{Mode, legacy, enabled, is_enabled}
use Rattle.imap_grammar.specs.Events.{NothingBefore, seen_after}
use Rattle.imap_grammar.specs.FirstDue.{Due}
use Rattle.imap_grammar.specs.Standing.{HasSeen}
use Rattle.imap_grammar.specs.declared.reader.Reader.{Reader}
use Rattle.imap_grammar.specs.declared.event.Event.{Event}
use Rattle.imap_grammar.specs.declared.event.Event.TheVariants.{More, Go, Command, Bad, TooLarge, TooLong}
use Rattle.session_core.specs.Acts.{Act, changes_in}
use Rattle.session_core.specs.Around.{Around}
use Rattle.session_core.specs.Doing.{Does}
use Rattle.session_core.specs.Keeps.{fault_of}
use Rattle.session_core.specs.Oracles.{Oracles, WithOracles}
use Rattle.session_core.specs.Moments.{Moment, IsTold}
use Rattle.session_core.specs.Protocol.{Protocol}
use Rattle.session_core.specs.Turns.{Turn}
use Rattle.session_core.specs.declared.desk.Desk.{Desk}
use Rattle.imap_grammar.specs.declared.command.Command.{Command as CommandOf}
use Rattle.imap_grammar.specs.declared.command.Command.TheVariants as command
use Rattle.imap_session.specs.Machine.{Selection, State, not_authenticated, authenticated, selected, ended, Step, line, mode_of, reply, says, step, takes_moment, untagged}
use Rattle.imap_session.specs.Replies.{ReplyPart, IsFit, part_octets}
use Rattle.imap_session.specs.declared.session.ImapMachine.{ImapMachine}
use Rattle.imap_session.specs.declared.states.ImapState.{ImapState}
use Rattle.imap_session.specs.declared.states.ImapState.TheVariants as imap
use Rattle.imap_session.specs.declared.states.Selected.{Selected}

-- the machine, its store, the octets of a command in which literals were asked for, and the moments that are still to come
pub record Machine : Type 0 where
  pub state : State
  pub store : StoreState
  pub seen : List ℕ
  pub moments : List Moment

-- the text is a date: each octet fits its letter, and the month is one
unfoldable pub fits_shape : (shape date : List ℕ) → Bool
fits_shape [] [] = true
fits_shape (letter ∷ shape) (x ∷ date) = fits_letter letter x && fits_shape shape date
fits_shape shape date = false

-- The test of a date: each octet fits its letter of the shape, and the month is one (RFC 3501, 9, date-time).
abbrev pub is_date : List ℕ → Bool
is_date date = fits_shape date_shape date && list_any (λ month. same_name month (slice_range date 3 6)) months

-- the date at the next moment; where none is left, or its text is no date, that of a moment long ago
abbrev pub long_ago : List ℕ
long_ago = codes " 1-Jan-1970 00:00:00 +0000"

-- The date of the next moment, or that of a moment long ago where none is left or its text is no date.
abbrev pub date_at : List Moment → List ℕ
date_at [] = long_ago
date_at (moment ∷ moments) = if is_date moment.internal then moment.internal else long_ago

-- the moments after one that was taken, or not
abbrev pub moments_after : (taken : Bool) → List Moment → List Moment
moments_after true (moment ∷ moments) = moments
moments_after other moments = moments

-- What is due takes the next moment: an APPEND without a date, after login.
abbrev pub event_takes : State → Event → Bool
event_takes state (Command tag said) = takes_moment state said
event_takes state other = false

-- what is due: a literal may come, or a command is answered, or refused
abbrev pub due_step : Oracles → (now : List ℕ) → State → StoreState → Event → Step
due_step oracles now state store More = record { acts = []; state = state }
due_step oracles now state store Go = record { acts = reply (line (codes "+ go") ∷ []); state = state }
due_step oracles now state store (Command tag said) = step oracles now state store tag said
due_step oracles now state store (Bad (Some tag) at) = says tag (codes "BAD syntax") state
due_step oracles now state store (Bad None at) = record { acts = reply (untagged (codes "BAD syntax") ∷ []); state = state }
due_step oracles now state store (TooLarge tag) = says tag (codes "NO too large") state
due_step oracles now state store TooLong = record { acts = reply (untagged (codes "BYE line too long") ∷ []); state = ended }

-- The turn for what is due: its acts, the machine after it, and the octets after those it used.
abbrev pub due_turn : Oracles → Machine → List ℕ → Due → Turn Machine (Act ReplyPart)
due_turn oracles machine octets due =
    let taken = due_step oracles (date_at machine.moments) machine.state machine.store due.event in
    record {
      parts = taken.acts;
      after = record {
        state = taken.state;
        store = with_records machine.store (records_of (changes_in taken.acts));
        seen = seen_after machine.seen octets due.used due.event;
        moments = moments_after (event_takes machine.state due.event) machine.moments;
      };
      rest = drop due.used octets;
    }

-- The turn at the head of the octets, where something is due.
abbrev pub turn_by_reading : Oracles → Machine → List ℕ → Option (Turn Machine (Act ReplyPart))
turn_by_reading oracles machine octets = option_map (due_turn oracles machine octets) (oracles.event_of (is_enabled (mode_of machine.state)) machine.seen octets)

-- after the end no command is read
abbrev pub turn_from : Oracles → State → Machine → List ℕ → Option (Turn Machine (Act ReplyPart))
turn_from oracles ended machine octets = None
turn_from oracles state machine octets = turn_by_reading oracles machine octets

-- The turn at the head of the octets, where something is due and the session hasn't ended.
unfoldable pub next_turn : Oracles → Machine → List ℕ → Option (Turn Machine (Act ReplyPart))
next_turn oracles machine octets = turn_from oracles machine.state machine octets

-- The first line of a session (RFC 3501, 7.1.1).
abbrev pub greeting : List ReplyPart
greeting = untagged (codes "OK IMAP4rev1 ready") ∷ []

-- A session begins before login, with nothing read (RFC 3501, 3.1).
abbrev pub start_of : StoreState → List Moment → Machine
start_of store moments = record { state = not_authenticated; store = store; seen = []; moments = moments }

-- IMAP as a protocol: its greeting, its start, its turns, and what may be sent.
abbrev pub imap_protocol : Protocol
imap_protocol = record {
  S = Machine;
  P = ReplyPart;
  opening = λ store. reply greeting;
  start = λ moments store. start_of store moments;
  next = next_turn;
  spelled = part_octets;
  Fits = IsFit;
  HasEnded = λ machine. machine.state ≡ ended;
  IsSound = λ machine. AreStored machine.store.kept.messages;
}

-- ---- what values stand for

-- The folder that is selected, in a session of this mode.
abbrev pub selection_of : Mode → Selected → Selection
selection_of mode state = record { mode = mode; account = state.account; folder = state.folder; read_only = state.read_only }

-- the machine's state
abbrev pub state_of : ImapState → State
state_of (imap.NotAuthenticated session) = not_authenticated
state_of (imap.Authenticated session) = authenticated legacy session.state.account
state_of (imap.EnabledAuthenticated session) = authenticated enabled session.state.account
state_of (imap.Selected session) = selected (selection_of legacy session.state)
state_of (imap.EnabledSelected session) = selected (selection_of enabled session.state)

-- the machine's state, also where no session is left
abbrev pub state_or_ended : Option ImapState → State
state_or_ended None = ended
state_or_ended (Some session) = state_of session

-- the store has the account; and the folder, whose messages these are, and no more than a number of 32 bits tells
pub record KnowsFolder (store : StoreState) (account folder : ℕ) (messages : List Listed) : Type 0 where
  pub account_is : account < length store.kept.accounts
  pub folder_is : folder < length store.kept.folders
  pub messages_are : messages ≡ listed store.kept folder
  pub few : length messages < 2 ^ 32

-- the store has what the session names
abbrev pub KnowsState : StoreState → ImapState → Type 0
KnowsState store (imap.NotAuthenticated session) = Unit {0}
KnowsState store (imap.Authenticated session) = session.state.account < length store.kept.accounts
KnowsState store (imap.EnabledAuthenticated session) = session.state.account < length store.kept.accounts
KnowsState store (imap.Selected session) = KnowsFolder store session.state.account session.state.folder session.state.messages.items
KnowsState store (imap.EnabledSelected session) = KnowsFolder store session.state.account session.state.folder session.state.messages.items

-- The store has what the session names, if the session goes on.
abbrev pub KnowsNext : StoreState → Option ImapState → Type 0
KnowsNext store None = Unit {0}
KnowsNext store (Some session) = KnowsState store session

-- The states and the rests that a session stands for. Its reader has seen the octets of a command that came, and nothing is due at those
-- after the last literal that was asked for.
pub record ImapStands (moments : List Moment) (session : ImapMachine) (kept : List ℕ) (desk : Desk) (machine : Machine) (rest : List ℕ) : Type 0 where
  pub state_is : machine.state ≡ state_of session.state
  pub store_is : machine.store ≡ desk.store
  pub moments_are : machine.moments ≡ moments
  pub reads : HasSeen (is_enabled (mode_of machine.state)) session.reader (machine.seen ++ rest)
  pub quiet : NothingBefore (is_enabled (mode_of machine.state)) machine.seen rest (length rest + 1)

-- what a session needs: the reader keeps all that is kept of a command
pub record ImapReady (session : ImapMachine) (kept : List ℕ) (desk : Desk) : Type 0 where
  pub nothing_kept : kept ≡ []
  pub known : KnowsState desk.store session.state
  pub seen : List ℕ
  pub reads : HasSeen (is_enabled (mode_of (state_of session.state))) session.reader seen

-- the session after an answer, with its reader
abbrev pub machine_next : Reader → Option ImapState → Option ImapMachine
machine_next reader None = None
machine_next reader (Some state) = Some (record { reader = reader; state = state })

-- The step was carried out, or after a fault the first of it; the session is in its state, and the store has what it names.
pub record TakesStep (before now : Around) (result : Result (Option ImapState) Fault) (taken : Oracles → Step) : Type 0 where
  pub does : WithOracles (λ oracles. Does (part_octets oracles) before now (fault_of result) (taken oracles).acts)
  pub next : WithOracles (λ oracles. IfOk result (λ next. state_or_ended next ≡ (taken oracles).state))
  pub known : IfOk result (KnowsNext now.desk.store)

-- what a command says that the step of its state needs: a date that is given is one, and a bit for each flag
abbrev pub IsSaid : CommandOf → Type 0
IsSaid (command.Append written flags (Some date) in_utf8 octets) = IsDate date × (flags < 32)
IsSaid (command.Append written flags None in_utf8 octets) = flags < 32
IsSaid other = Unit {0}

-- A command that is due says only dates that may be kept and flags that there are.
abbrev pub IsSaidIn : Event → Type 0
IsSaidIn (Command tag said) = IsSaid said
IsSaidIn other = Unit {0}

-- The same step with a moment that the clock told, where one is taken. A fault may come before it was told.
pub record TakesStepAt (before now : Around) (result : Result (Option ImapState) Fault) (takes : Bool) (taken : Oracles → (date : List ℕ) → Step) : Type 0 where
  pub told : List Moment
  pub are_told : All (IsTold before.clock) told
  pub count : IfOk result (λ next. (more : List Moment) → moments_after takes (told ++ more) ≡ more)
  pub steps : (more : List Moment) → TakesStep before now result (λ oracles. taken oracles (date_at (told ++ more)))
