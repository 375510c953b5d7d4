-- Which mode a session is in after commands, and after the lines of a stream.
use Rattle.std.proofs.Common.{◌≡◌, ◌≢◌, ℕ, zero, suc, List, [], ◌∷◌, Bool, true, false, refl, sym, ap, subst, ◌∙◌, ◌⊎◌, inl, inr, Some, None, Option, arith}
use Rattle.std.specs.Prelude.{◌||◌, ◌↔◌, IsTrue}
use Rattle.std.proofs.lemmas.Bool.{cases_Bool}
use Rattle.std.specs.Option.{option_map_or}
use Rattle.mail_wire.specs.Framing.{Framed, waiting, whole, too_long, next_line}
use Rattle.session_core.specs.Turns.{Turn, stay, following, turns}
use Rattle.session_core.proofs.TurnsLemmas.{turns-stop}
use Rattle.kept_mail.specs.declared.kept.Listed.{Listed}
use Rattle.journal_records.specs.declared.records.Record.{Record}
use Rattle.session_core.specs.Acts.{Act}
use Rattle.session_core.specs.Grammar.{turn_by, turn_in}
use Rattle.mail_store.specs.Following.{records_of}
use Rattle.kept_mail.specs.Kept.{logged_in}
use Rattle.mail_store.specs.StoreState.{StoreState, with_records}
use Rattle.surrogate_cache.specs.Served.{Mode, legacy}
use Rattle.session_core.specs.Oracles.{Oracles}
use Rattle.pop_session.specs.declared.command.Keyword.{Keyword}
use Rattle.pop_session.specs.declared.command.Keyword.TheVariants as keyword
use Rattle.pop_session.specs.declared.states.MaildropMessage.{MaildropMessage}
use Rattle.pop_session.specs.Commands.{Command, command_of}
use Rattle.mail_wire.specs.Numbers.{number_of}
use Rattle.pop_session.specs.History.{after_command, after_commands, commands_by, commands_up_to, commands_in, IsOfMode, is_utf8, enables, some_enables, mode_after, IsQuit}
use Rattle.pop_session.specs.Machine.{ReplyPart, line, shown, State, greeted, authorization, transaction, ended, done, out_of_order, syntax_error, listed_at, step, authorization_step, first_step, is_http, transaction_step, dele_message, dele_step, pass_step}
use Rattle.pop_session.specs.laws.PopLaws.{step_quiet}
use Rattle.pop_session.specs.Session.{Machine, pop_grammar, pop_protocol, turns_of, start_of, wants_in}

-- ---- one command

pass_mode : (mode : Mode) (store : StoreState) (found : Option ℕ) → IsOfMode mode (pass_step mode store found).state
pass_mode mode store None = refl
pass_mode mode store (Some account) = refl

authorization_mode : (oracles : Oracles) (mode : Mode) (user : Option (List ℕ)) (store : StoreState) (word : Keyword) (argument : Option (List ℕ))
    → IsOfMode (mode_after (is_utf8 word argument) mode) (authorization_step oracles mode user store word argument).state
authorization_mode oracles mode user store keyword.Stat argument = refl
authorization_mode oracles mode user store keyword.List argument = refl
authorization_mode oracles mode user store keyword.Uidl argument = refl
authorization_mode oracles mode user store keyword.Retr argument = refl
authorization_mode oracles mode user store keyword.Top argument = refl
authorization_mode oracles mode user store keyword.Dele argument = refl
authorization_mode oracles mode user store keyword.Rset argument = refl
authorization_mode oracles mode user store keyword.Noop argument = refl
authorization_mode oracles mode user store keyword.Http argument = refl
authorization_mode oracles mode user store keyword.Other argument = refl
authorization_mode oracles mode user store keyword.Capa None = refl
authorization_mode oracles mode user store keyword.Capa (Some text) = refl
authorization_mode oracles mode user store keyword.Utf8 None = refl
authorization_mode oracles mode user store keyword.Utf8 (Some text) = refl
authorization_mode oracles mode user store keyword.User None = refl
authorization_mode oracles mode user store keyword.User (Some []) = refl
authorization_mode oracles mode user store keyword.User (Some (x ∷ name)) = refl
authorization_mode oracles mode None store keyword.Pass None = refl
authorization_mode oracles mode (Some name) store keyword.Pass None = refl
authorization_mode oracles mode None store keyword.Pass (Some password) = refl
authorization_mode oracles mode (Some name) store keyword.Pass (Some password) = pass_mode mode store (logged_in oracles.path_of store.kept name password)
authorization_mode oracles mode user store keyword.Quit None = tt
authorization_mode oracles mode user store keyword.Quit (Some text) = refl

first_mode : (oracles : Oracles) (store : StoreState) (word : Keyword) (argument : Option (List ℕ)) → IsOfMode (mode_after (is_utf8 word argument) legacy) (first_step oracles store word argument).state
first_mode oracles store word argument = elim (cases_Bool (is_http word)) [
  | inl http ↦ rw (http) tt
  | inr other ↦ rw (other) (authorization_mode oracles legacy None store word argument)
]

message_mode : (mode : Mode) (maildrop : List MaildropMessage) (number : ℕ) (found : Option Listed) → IsOfMode mode (dele_message mode maildrop number found).state
message_mode mode maildrop number None = refl
message_mode mode maildrop number (Some one) = refl

dele_mode : (mode : Mode) (maildrop : List MaildropMessage) (number : Option ℕ) → IsOfMode mode (dele_step mode maildrop number).state
dele_mode mode maildrop None = refl
dele_mode mode maildrop (Some number) = message_mode mode maildrop number (listed_at maildrop number)

transaction_mode : (oracles : Oracles) (mode : Mode) (maildrop : List MaildropMessage) (store : StoreState) (word : Keyword) (argument : Option (List ℕ))
    → IsOfMode mode (transaction_step oracles mode maildrop store word argument).state
transaction_mode oracles mode maildrop store keyword.Dele None = refl
transaction_mode oracles mode maildrop store keyword.Dele (Some text) = dele_mode mode maildrop (number_of text)
transaction_mode oracles mode maildrop store keyword.Rset None = refl
transaction_mode oracles mode maildrop store keyword.Rset (Some text) = refl
transaction_mode oracles mode maildrop store keyword.Quit None = tt
transaction_mode oracles mode maildrop store keyword.Quit (Some text) = refl
transaction_mode oracles mode maildrop store keyword.User argument = refl
transaction_mode oracles mode maildrop store keyword.Pass argument = refl
transaction_mode oracles mode maildrop store keyword.Utf8 argument = refl
transaction_mode oracles mode maildrop store keyword.Stat argument = refl
transaction_mode oracles mode maildrop store keyword.List argument = refl
transaction_mode oracles mode maildrop store keyword.Retr argument = refl
transaction_mode oracles mode maildrop store keyword.Capa argument = refl
transaction_mode oracles mode maildrop store keyword.Uidl argument = refl
transaction_mode oracles mode maildrop store keyword.Top argument = refl
transaction_mode oracles mode maildrop store keyword.Noop argument = refl
transaction_mode oracles mode maildrop store keyword.Http argument = refl
transaction_mode oracles mode maildrop store keyword.Other argument = refl

-- a command leaves the mode, but UTF8 before login
pub step_mode : (oracles : Oracles) (state : State) (store : StoreState) (command : Command) (mode : Mode) → IsOfMode mode state
    → IsOfMode (mode_after (enables state command) mode) (step oracles state store command).state
unfolding step
step_mode oracles greeted store command mode same =
    subst (λ m. IsOfMode (mode_after (is_utf8 command.keyword command.argument) m) (first_step oracles store command.keyword command.argument).state) same
    (first_mode oracles store command.keyword command.argument)
step_mode oracles (authorization is user) store command mode same =
    subst (λ m. IsOfMode (mode_after (is_utf8 command.keyword command.argument) m) (authorization_step oracles is user store command.keyword command.argument).state) same
    (authorization_mode oracles is user store command.keyword command.argument)
step_mode oracles (transaction is maildrop) store command mode same =
    subst (λ m. IsOfMode m (transaction_step oracles is maildrop store command.keyword command.argument).state) same
    (transaction_mode oracles is maildrop store command.keyword command.argument)
step_mode oracles ended store command mode same = tt

-- QUIT ends the session
quit_ends : (oracles : Oracles) (state : State) (store : StoreState) (command : Command) → IsQuit state command → (step oracles state store command).state ≡ ended
unfolding step
quit_ends oracles greeted store command is = absurd is
quit_ends oracles (authorization mode user) store command is = absurd is
quit_ends oracles (transaction mode maildrop) store command is = rw (is.0, is.1) refl
quit_ends oracles ended store command is = absurd is

-- ---- several commands

after_both : (a b : Bool) (mode : Mode) → mode_after b (mode_after a mode) ≡ mode_after (a || b) mode
after_both true true mode = refl
after_both true false mode = refl
after_both false true mode = refl
after_both false false mode = refl

pub commands_mode : (oracles : Oracles) (machine : Machine) (commands : List Command) (mode : Mode) → IsOfMode mode machine.state
    → IsOfMode (mode_after (some_enables oracles machine commands) mode) (after_commands oracles machine commands).state
commands_mode oracles machine [] mode is = is
commands_mode oracles machine (command ∷ commands) mode is =
    subst (λ m. IsOfMode m (after_commands oracles (after_command oracles machine command) commands).state)
    (after_both (enables machine.state command) (some_enables oracles (after_command oracles machine command) commands) mode)
    (commands_mode oracles (after_command oracles machine command) commands (mode_after (enables machine.state command) mode)
    (step_mode oracles machine.state machine.store command mode is))

abbrev pub at_end : StoreState → Machine
at_end store = record { state = ended; store = store }

-- after the end commands do nothing
pub ended_stays : (oracles : Oracles) (store : StoreState) (commands : List Command) → after_commands oracles (at_end store) commands ≡ at_end store
unfolding step
ended_stays oracles store [] = refl
ended_stays oracles store (command ∷ commands) = ended_stays oracles store commands

pub machine_ends : (machine : Machine) → machine.state ≡ ended → machine ≡ at_end machine.store
machine_ends machine is = ap (λ (state : State). (let at : Machine = record { state = state; store = machine.store } in at)) is

pub ended_all : (oracles : Oracles) (machine : Machine) (commands : List Command) → machine.state ≡ ended → (after_commands oracles machine commands).state ≡ ended
ended_all oracles machine commands is =
    ap (λ (m : Machine). (after_commands oracles m commands).state) (machine_ends machine is) ∙ ap (λ (m : Machine). m.state) (ended_stays oracles machine.store commands)

-- unless the session has ended, the store is as before
pub commands_keep : (oracles : Oracles) (machine : Machine) (commands : List Command) → ((after_commands oracles machine commands).state ≡ ended → ⊥)
    → (after_commands oracles machine commands).store ≡ machine.store
commands_keep oracles machine [] goes_on = refl
commands_keep oracles machine (command ∷ commands) goes_on =
    elim (step_quiet oracles machine.state machine.store command) [
      | inl quit ↦ absurd (goes_on (ended_all oracles (after_command oracles machine command) commands (quit_ends oracles machine.state machine.store command quit)))
      | inr none ↦ commands_keep oracles (after_command oracles machine command) commands goes_on
          ∙ ap (λ (changes : List (List Record)). with_records machine.store (records_of changes)) none
    ]

-- ---- a stream

-- What is left of a stream: the machine after its commands, or one that a line too long has ended.
pub record IsLeft (oracles : Oracles) (machine : Machine) (commands : List Command) (left : Machine) : Type 0 where
  pub store : left.store ≡ (after_commands oracles machine commands).store
  pub state : (left.state ≡ (after_commands oracles machine commands).state) ⊎ (left.state ≡ ended)

-- the machine after so many turns
abbrev pub left_by : Oracles → ℕ → Machine → List ℕ → Machine
left_by oracles n machine octets = (turns (pop_protocol.next oracles) n machine octets).after

-- the machine after this turn and so many more
abbrev pub left_following : Oracles → ℕ → Machine → List ℕ → Option (Turn Machine (Act ReplyPart)) → Machine
left_following oracles n machine octets first =
    (option_map_or (λ turn. following turn.parts (turns (pop_protocol.next oracles) n turn.after turn.rest)) first (stay machine octets)).after

long_line_ends : (oracles : Oracles) (n : ℕ) (store : StoreState) (octets : List ℕ) → left_by oracles n (at_end store) octets ≡ at_end store
long_line_ends oracles n store octets = ap (λ (t : Turn Machine (Act ReplyPart)). t.after) (turns-stop (pop_protocol.next oracles) n (at_end store) octets refl)

framed_left : (oracles : Oracles) (n : ℕ) (machine : Machine) (octets : List ℕ) (framed : Framed)
    → ((next : Machine) (rest : List ℕ) → IsLeft oracles next (commands_up_to n rest) (left_by oracles n next rest))
    → IsLeft oracles machine (commands_by (commands_up_to n) framed) (left_following oracles n machine octets (turn_by pop_grammar oracles machine framed))
framed_left oracles n machine octets waiting more = record { store = refl; state = inl refl }
framed_left oracles n machine octets (whole text rest) more =
    let left = more (after_command oracles machine (command_of text)) rest in record { store = left.store; state = left.state }
framed_left oracles n machine octets (too_long rest) more =
    let is = long_line_ends oracles n machine.store rest in
    record { store = ap (λ (m : Machine). m.store) is; state = inr (ap (λ (m : Machine). m.state) is) }

state_left : (oracles : Oracles) (n : ℕ) (state : State) (machine : Machine) (octets : List ℕ) → machine.state ≡ state
    → ((next : Machine) (rest : List ℕ) → IsLeft oracles next (commands_up_to n rest) (left_by oracles n next rest))
    → IsLeft oracles machine (commands_by (commands_up_to n) (next_line octets)) (left_following oracles n machine octets (turn_in pop_grammar oracles machine (wants_in state) octets))
state_left oracles n greeted machine octets is more = framed_left oracles n machine octets (next_line octets) more
state_left oracles n (authorization mode user) machine octets is more = framed_left oracles n machine octets (next_line octets) more
state_left oracles n (transaction mode maildrop) machine octets is more = framed_left oracles n machine octets (next_line octets) more
state_left oracles n ended machine octets is more =
    let commands = commands_by (commands_up_to n) (next_line octets) in
    record {
      store = sym (ap (λ (m : Machine). (after_commands oracles m commands).store) (machine_ends machine is) ∙ ap (λ (m : Machine). m.store) (ended_stays oracles machine.store commands));
      state = inr is;
    }

turns_left : (oracles : Oracles) (n : ℕ) (machine : Machine) (octets : List ℕ) → IsLeft oracles machine (commands_up_to n octets) (left_by oracles n machine octets)
unfolding turns commands_up_to
turns_left oracles zero machine octets = record { store = refl; state = inl refl }
turns_left oracles (suc n) machine octets = state_left oracles n machine.state machine octets refl (turns_left oracles n)

mode_as : (mode : Mode) (state left : State) → IsOfMode mode state → (left ≡ state) ⊎ (left ≡ ended) → IsOfMode mode left
mode_as mode state left is (inl same) = subst (IsOfMode mode) (sym same) is
mode_as mode state left is (inr end) = subst (IsOfMode mode) (sym end) tt

-- a session is enabled after a stream where one of its commands was UTF8 before login
pub stream_mode : (oracles : Oracles) (store : StoreState) (octets : List ℕ)
    → IsOfMode (mode_after (some_enables oracles (start_of store) (commands_in octets)) legacy) (turns_of oracles (start_of store) octets).after.state
stream_mode oracles store octets =
    mode_as _ (after_commands oracles (start_of store) (commands_in octets)).state _ (commands_mode oracles (start_of store) (commands_in octets) legacy refl)
    (turns_left oracles _ (start_of store) octets).state

-- unless the session has ended, a stream leaves the store
pub stream_keeps : (oracles : Oracles) (machine : Machine) (octets : List ℕ) → ((turns_of oracles machine octets).after.state ≡ ended → ⊥)
    → (turns_of oracles machine octets).after.store ≡ machine.store
stream_keeps oracles machine octets goes_on =
    let left = turns_left oracles _ machine octets in
    left.store ∙ commands_keep oracles machine (commands_in octets) (λ end. goes_on (elim left.state [
      | inl same ↦ same ∙ end
      | inr is ↦ is
    ]))

-- ---- which commands do so

-- the first octet of a reply, where it has a line
abbrev pub first_octet : List ReplyPart → ℕ
first_octet [] = 0
first_octet (line [] ∷ parts) = 0
first_octet (line (x ∷ rest) ∷ parts) = x
first_octet (shown msg mode at len ∷ parts) = 0

pub refused_not_done : (reply : List ReplyPart) → first_octet reply ≡ 45 → (reply ≡ done) → ⊥
refused_not_done reply minus same = let differ : 45 ≡ 43 = sym minus ∙ ap first_octet same in omega (arith, differ)

nothing_not_done : ([] ≡ done) → ⊥
nothing_not_done same = let differ : 0 ≡ 43 = ap first_octet same in omega (arith, differ)

-- UTF8 is answered +OK where it enables
pub utf8_accepted : (oracles : Oracles) (state : State) (store : StoreState) (argument : Option (List ℕ))
    → let command : Command = record { keyword = keyword.Utf8; argument = argument } in
    ((step oracles state store command).reply ≡ done) ↔ IsTrue (enables state command)
unfolding step
utf8_accepted oracles greeted store None = (λ same. refl, λ is. refl)
utf8_accepted oracles greeted store (Some text) = (λ same. absurd (refused_not_done syntax_error refl same), λ is. cc)
utf8_accepted oracles (authorization mode user) store None = (λ same. refl, λ is. refl)
utf8_accepted oracles (authorization mode user) store (Some text) = (λ same. absurd (refused_not_done syntax_error refl same), λ is. cc)
utf8_accepted oracles (transaction mode maildrop) store argument = (λ same. absurd (refused_not_done out_of_order refl same), λ is. cc)
utf8_accepted oracles ended store argument = (λ same. absurd (nothing_not_done same), λ is. cc)

not_utf8 : (word : Keyword) (argument : Option (List ℕ)) → word ≢ keyword.Utf8 → ¬ IsTrue (is_utf8 word argument)
not_utf8 keyword.Utf8 argument other is = other refl
not_utf8 keyword.Stat argument other is = cc
not_utf8 keyword.List argument other is = cc
not_utf8 keyword.Uidl argument other is = cc
not_utf8 keyword.Retr argument other is = cc
not_utf8 keyword.Top argument other is = cc
not_utf8 keyword.Dele argument other is = cc
not_utf8 keyword.Rset argument other is = cc
not_utf8 keyword.Noop argument other is = cc
not_utf8 keyword.Http argument other is = cc
not_utf8 keyword.Other argument other is = cc
not_utf8 keyword.Capa argument other is = cc
not_utf8 keyword.User argument other is = cc
not_utf8 keyword.Pass argument other is = cc
not_utf8 keyword.Quit argument other is = cc

pub other_enables_not : (state : State) (command : Command) → command.keyword ≢ keyword.Utf8 → ¬ IsTrue (enables state command)
other_enables_not greeted command other is = not_utf8 command.keyword command.argument other is
other_enables_not (authorization mode user) command other is = not_utf8 command.keyword command.argument other is
other_enables_not (transaction mode maildrop) command other is = cc
other_enables_not ended command other is = cc

pub others_quiet : (oracles : Oracles) (state : State) (store : StoreState) (command : Command) → ¬ IsQuit state command → (step oracles state store command).changes ≡ []
others_quiet oracles state store command other = elim (step_quiet oracles state store command) [
  | inl quit ↦ absurd (other quit)
  | inr none ↦ none
]
