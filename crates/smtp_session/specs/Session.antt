-- A session (RFC 5321, 3 and 4): the machine over a stream, and what its values stand for.
use Rattle.std.specs.Prelude.{◌≡◌, ℕ, ◌<◌, ◌≤◌, ◌++◌, List, [], ◌∷◌, codes, true, length, Option, None, Some, IfSome}
use Rattle.std.specs.List.{AllByRecursion, All, flat_map, list_all}
use Rattle.std.specs.Option.{option_map}
use Rattle.mail_wire.specs.Dots.{unstuffed}
use Rattle.mail_wire.specs.Framing.{Framed, waiting, whole, too_long, next_line}
use Rattle.mail_wire.specs.Lines.{Cut, crlf}
use Rattle.mail_wire.specs.Octets.{is_ascii}
use Rattle.journal_records.specs.Addresses.{IsSendable}
use Rattle.mail_store.specs.Following.{records_of}
use Rattle.kept_mail.specs.Kept.{name_of}
use Rattle.mail_store.specs.StoreState.{StoreState, with_records}
use Rattle.kept_mail.specs.declared.limits.TheConstants.{RECIPIENTS_MAX}
use Rattle.smtp_grammar.specs.Commands.{is_client}
use Rattle.smtp_grammar.specs.Data.{data_cut}
use Rattle.smtp_grammar.specs.Reading.{HasRead}
use Rattle.session_core.specs.Acts.{Act, acts_of}
use Rattle.session_core.specs.Desks.{IsStoreName}
use Rattle.session_core.specs.Oracles.{Oracles}
use Rattle.session_core.specs.Moments.{Moment}
use Rattle.session_core.specs.Protocol.{Protocol}
use Rattle.session_core.specs.Turns.{Turn, all_turns}
use Rattle.session_core.specs.declared.desk.Desk.{Desk}
use Rattle.smtp_session.specs.Machine.{State, Step, acts_in, collecting, end_data, ended, fresh, greeted, mail, envelope_recipient_count, line_step}
use Rattle.smtp_session.specs.declared.session.SmtpMachine.{SmtpMachine}
use Rattle.smtp_session.specs.declared.states.Client.{Client}
use Rattle.smtp_session.specs.declared.states.Envelope.{Envelope}
use Rattle.smtp_session.specs.declared.states.SmtpState.{SmtpState}
use Rattle.smtp_session.specs.declared.states.SmtpState.TheVariants as smtp

-- the machine, its store, and the moments of the messages that are still to come
pub record Machine : Type 0 where
  pub state : State
  pub store : StoreState
  pub moments : List Moment

-- the next moment; where none is left its texts are empty
abbrev pub next_moment : List Moment → Moment
next_moment [] = record { date = []; internal = [] }
next_moment (moment ∷ moments) = moment

-- The moments after the next one.
abbrev pub later_moments : List Moment → List Moment
later_moments [] = []
later_moments (moment ∷ moments) = moments

-- the octets of a line of a reply
abbrev pub line_octets : List ℕ → List ℕ
line_octets text = text ++ crlf

-- The octets of a reply: its lines, each with CRLF.
abbrev pub reply_octets : List (List ℕ) → List ℕ
reply_octets lines = flat_map line_octets lines

-- a line of a reply is ASCII
abbrev pub IsFit : List ℕ → Type 0
IsFit text = list_all is_ascii text ≡ true

-- Each line of a reply is ASCII.
abbrev pub AreFit : List (List ℕ) → Type 0
AreFit lines = AllByRecursion IsFit lines

-- What a line is answered that is longer than one may be; the session ends (RFC 5321, 4.5.3.1.9).
abbrev pub line_too_long : List (List ℕ)
line_too_long = codes "500 5.5.2 line too long" ∷ []

-- what is left after a step
abbrev pub after_step : StoreState → List Moment → Step → Machine
after_step store moments taken = record { state = taken.state; store = with_records store (records_of taken.changes); moments = moments }

-- what a whole line brings
abbrev pub line_turn : Oracles → Machine → Framed → Option (Turn Machine (Act (List ℕ)))
line_turn oracles machine waiting = None
line_turn oracles machine (whole text rest) =
    let taken = line_step oracles machine.state machine.store text in
    Some (record { parts = acts_in taken; after = after_step machine.store machine.moments taken; rest = rest })
line_turn oracles machine (too_long rest) = Some (record { parts = acts_of [] line_too_long; after = record machine { state = ended }; rest = rest })

-- what whole data bring
abbrev pub data_turn : Oracles → Machine → Client → Envelope → Cut → Turn Machine (Act (List ℕ))
data_turn oracles machine client envelope cut =
    let taken = end_data oracles machine.store client envelope (next_moment machine.moments) (unstuffed cut.line) in
    record { parts = acts_in taken; after = after_step machine.store (later_moments machine.moments) taken; rest = cut.rest }

-- after the end no command is read
abbrev pub turn_from : Oracles → State → Machine → List ℕ → Option (Turn Machine (Act (List ℕ)))
turn_from oracles (fresh first) machine octets = line_turn oracles machine (next_line octets)
turn_from oracles (greeted client) machine octets = line_turn oracles machine (next_line octets)
turn_from oracles (mail client envelope) machine octets = line_turn oracles machine (next_line octets)
turn_from oracles (collecting client envelope) machine octets = option_map (data_turn oracles machine client envelope) (data_cut octets)
turn_from oracles ended machine octets = None

-- The turn at the head of the octets, if there is one and the session hasn't ended.
unfoldable pub next_turn : Oracles → Machine → List ℕ → Option (Turn Machine (Act (List ℕ)))
next_turn oracles machine octets = turn_from oracles machine.state machine octets

-- what these octets bring
abbrev pub turns_of : Oracles → Machine → List ℕ → Turn Machine (Act (List ℕ))
turns_of oracles machine octets = all_turns (next_turn oracles) machine octets

-- The first line of a session, with the server's name (RFC 5321, 3.1).
abbrev pub greeting : List ℕ → List (List ℕ)
greeting name = (codes "220 " ++ (name ++ codes " ESMTP")) ∷ []

-- A session begins before a client has greeted (RFC 5321, 3.1).
abbrev pub start_of : StoreState → List Moment → Machine
start_of store moments = record { state = fresh true; store = store; moments = moments }

-- its lines are ASCII, since the name of a store is
abbrev pub smtp_protocol : Protocol
smtp_protocol = record {
  S = Machine;
  P = List ℕ;
  opening = λ store. acts_of [] (greeting (name_of store.kept));
  start = λ moments store. start_of store moments;
  next = next_turn;
  spelled = λ oracles. line_octets;
  Fits = λ oracles. IsFit;
  HasEnded = λ machine. machine.state ≡ ended;
  IsSound = λ machine. IsStoreName (name_of machine.store.kept);
}

-- ---- what values stand for

-- the machine's state
abbrev pub state_of : SmtpState → State
state_of (smtp.Fresh session) = fresh session.state.is_first
state_of (smtp.Greeted session) = greeted session.state.client
state_of (smtp.Mail session) = mail session.state.client session.state.envelope
state_of (smtp.Data session) = collecting session.state.client session.state.envelope

-- the machine's state, also where no session is left
abbrev pub state_or_ended : Option SmtpState → State
state_or_ended None = ended
state_or_ended (Some session) = state_of session

-- The machine that a session stands for, with the store of its desk and the moments to come.
abbrev pub machine_of : SmtpMachine → Desk → List Moment → Machine
machine_of session desk moments = record { state = state_of session.state; store = desk.store; moments = moments }

-- The rest that stands after a state: what was kept of a line, or what was read of data.
abbrev pub HasRest : SmtpMachine → SmtpState → List ℕ → List ℕ → Type 0
HasRest session (smtp.Data taking) kept rest = HasRead session.reader rest
HasRest session state kept rest = rest ≡ kept

-- the states and the rests that a session stands for
pub record SmtpStands (moments : List Moment) (session : SmtpMachine) (kept : List ℕ) (desk : Desk) (machine : Machine) (rest : List ℕ) : Type 0 where
  pub machine_is : machine ≡ machine_of session desk moments
  pub has : HasRest session session.state kept rest

-- the store has the accounts that the envelope names, and its addresses may be kept
pub record Knows (store : StoreState) (envelope : Envelope) : Type 0 where
  pub local : All (λ account. account < length store.kept.accounts) envelope.local
  pub path : IfSome envelope.path IsSendable
  pub remote : All IsSendable envelope.remote
  pub few : envelope_recipient_count envelope ≤ RECIPIENTS_MAX

-- The client's name is one, and the store has what the state names; and data are taken for a recipient at least.
abbrev pub KnowsState : StoreState → State → Type 0
KnowsState store (fresh first) = Unit {0}
KnowsState store (greeted client) = is_client client.name ≡ true
KnowsState store (mail client envelope) = (is_client client.name ≡ true) × Knows store envelope
KnowsState store (collecting client envelope) = (is_client client.name ≡ true) × Knows store envelope × (0 < envelope_recipient_count envelope)
KnowsState store ended = Unit {0}

-- Data were read, up to the store's limit, and nothing of them is kept beside.
pub record ReadsData (session : SmtpMachine) (kept : List ℕ) (desk : Desk) : Type 0 where
  pub octets : List ℕ
  pub read : HasRead session.reader octets
  pub limit : session.reader.limit ≡ desk.store.message_max
  pub nothing_kept : kept ≡ []

-- what was kept is no whole command
abbrev pub IsUnfinished : SmtpMachine → SmtpState → List ℕ → Desk → Type 0
IsUnfinished session (smtp.Data taking) kept desk = ReadsData session kept desk
IsUnfinished session state kept desk = next_line kept ≡ waiting

-- what a session needs
pub record SmtpReady (session : SmtpMachine) (kept : List ℕ) (desk : Desk) : Type 0 where
  pub unfinished : IsUnfinished session session.state kept desk
  pub known : KnowsState desk.store (state_of session.state)
