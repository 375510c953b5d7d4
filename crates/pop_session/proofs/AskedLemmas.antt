-- Which commands ask the cache, and for which messages.
use Rattle.std.proofs.Common.{◌≡◌, ℕ, zero, suc, List, [], ◌∷◌, ◌++◌, refl, sym, ap, ◌∙◌, ◌⊎◌, inl, inr, Some, None, Option, arith, append-nil}
use Rattle.std.specs.Prelude.{map}
use Rattle.std.specs.List.{flat_map}
use Rattle.std.specs.Option.{option_map, option_map_or}
use Rattle.mail_wire.specs.Framing.{Framed, waiting, whole, too_long, next_line}
use Rattle.mail_wire.specs.Numbers.{number_of}
use Rattle.mail_wire.proofs.AllLemmas.{all-append}
use Rattle.kept_mail.specs.declared.kept.Listed.{Listed}
use Rattle.mail_store.specs.StoreState.{StoreState}
use Rattle.surrogate_cache.specs.Caching.{Asked}
use Rattle.surrogate_cache.specs.Served.{Mode, legacy, enabled}
use Rattle.session_core.specs.Acts.{Act, acts_of, asked_in, asking}
use Rattle.session_core.specs.Desks.{stored_octets}
use Rattle.session_core.specs.Grammar.{turn_by, turn_in}
use Rattle.session_core.specs.Oracles.{Oracles}
use Rattle.session_core.specs.Turns.{Turn, stay, following, turns}
use Rattle.session_core.proofs.DoneLemmas.{asked_in-acts, asked_in-append, asked_in-asking}
use Rattle.session_core.proofs.TurnsLemmas.{turns-stop}
use Rattle.pop_session.specs.declared.command.Keyword.{Keyword}
use Rattle.pop_session.specs.declared.command.Keyword.TheVariants as keyword
use Rattle.pop_session.specs.declared.command.TopNumbers.{TopNumbers}
use Rattle.pop_session.specs.declared.states.MaildropMessage.{MaildropMessage}
use Rattle.pop_session.specs.Commands.{Command, command_of, top_numbers_of}
use Rattle.pop_session.specs.History.{AreInStore, IsOfMode, IsRefused, TellsSizes, after_command, asked_by_commands, commands_by, commands_in, commands_up_to, number_in}
use Rattle.pop_session.specs.Machine.{ReplyPart, State, greeted, authorization, transaction, ended, asked_for, asked_for_found, asked_for_number, asked_for_top, asked_of, left_of, listed_at, listing_one_reply, of_message, of_number, of_top, retr_reply, size_of, step, top_reply, transaction_asks, transaction_step}
use Rattle.pop_session.specs.Session.{Machine, line_too_long, pop_grammar, pop_protocol, turns_of, wants_in}
use Rattle.pop_session.proofs.ModeLemmas.{at_end, first_octet, machine_ends}

-- ---- what is asked for

each_asked : (store : StoreState) (listing : List Listed) → map (λ (one : Asked). one.id) (flat_map (asked_for legacy store) listing) ≡ map (λ (one : Listed). one.id) listing
each_asked store [] = refl
each_asked store (one ∷ listing) = ap (λ (ids : List ℕ). one.id ∷ ids) (each_asked store listing)

pub sizes_asked : (maildrop : List MaildropMessage) (store : StoreState) (command : Command) → TellsSizes command
    → map (λ (one : Asked). one.id) (asked_of (transaction legacy maildrop) store command) ≡ map (λ (one : Listed). one.id) (left_of maildrop)
unfolding asked_of
sizes_asked maildrop store command is = elim is.0 [
  | inl stat ↦ rw (stat, is.1) (each_asked store (left_of maildrop))
  | inr list ↦ rw (list, is.1) (each_asked store (left_of maildrop))
]

number_named : (maildrop : List MaildropMessage) (store : StoreState) (found : Option ℕ) (number : ℕ) (one : Listed) → found ≡ Some number → listed_at maildrop number ≡ Some one
    → asked_for_number legacy store maildrop found ≡ asked_for legacy store one
number_named maildrop store found number one is message = rw (is, message) refl

some_same : {n m : ℕ} → Some n ≡ Some m → n ≡ m
some_same h = cc

top_named : (maildrop : List MaildropMessage) (store : StoreState) (found : Option TopNumbers) (number : ℕ) (one : Listed) → option_map (λ (numbers : TopNumbers). numbers.number) found ≡ Some number
    → listed_at maildrop number ≡ Some one → asked_for_top legacy store maildrop found ≡ asked_for legacy store one
top_named maildrop store None number one is message = cc
top_named maildrop store (Some numbers) number one is message =
    ap (asked_for_found legacy store) (ap (listed_at maildrop) (some_same {n = numbers.number} {m = number} is) ∙ message)

row_named : (maildrop : List MaildropMessage) (store : StoreState) (word : Keyword) (argument : Option (List ℕ)) (number : ℕ) (one : Listed) → number_in word argument ≡ Some number
    → listed_at maildrop number ≡ Some one → transaction_asks legacy maildrop store word argument ≡ asked_for legacy store one
row_named maildrop store keyword.Capa argument number one is message = cc
row_named maildrop store keyword.Utf8 argument number one is message = cc
row_named maildrop store keyword.User argument number one is message = cc
row_named maildrop store keyword.Pass argument number one is message = cc
row_named maildrop store keyword.Quit argument number one is message = cc
row_named maildrop store keyword.Stat argument number one is message = cc
row_named maildrop store keyword.List None number one is message = cc
row_named maildrop store keyword.List (Some text) number one is message = number_named maildrop store (number_of text) number one is message
row_named maildrop store keyword.Uidl argument number one is message = cc
row_named maildrop store keyword.Retr None number one is message = cc
row_named maildrop store keyword.Retr (Some text) number one is message = number_named maildrop store (number_of text) number one is message
row_named maildrop store keyword.Top None number one is message = cc
row_named maildrop store keyword.Top (Some text) number one is message = top_named maildrop store (top_numbers_of text) number one is message
row_named maildrop store keyword.Dele argument number one is message = cc
row_named maildrop store keyword.Rset argument number one is message = cc
row_named maildrop store keyword.Noop argument number one is message = cc
row_named maildrop store keyword.Http argument number one is message = cc
row_named maildrop store keyword.Other argument number one is message = cc

pub named_asked : (maildrop : List MaildropMessage) (store : StoreState) (command : Command) (number : ℕ) (one : Listed) → number_in command.keyword command.argument ≡ Some number
    → listed_at maildrop number ≡ Some one → asked_of (transaction legacy maildrop) store command ≡ asked_for legacy store one
unfolding asked_of
named_asked maildrop store command number one is message = row_named maildrop store command.keyword command.argument number one is message

-- ---- the store has what is asked for

one_stored : (mode : Mode) (store : StoreState) (one : Listed) → AreInStore store (asked_for mode store one)
one_stored legacy store one = (refl, tt)
one_stored enabled store one = tt

all_stored : (mode : Mode) (store : StoreState) (listing : List Listed) → AreInStore store (flat_map (asked_for mode store) listing)
all_stored mode store [] = tt
all_stored mode store (one ∷ listing) =
    all-append (λ (one : Asked). one.octets ≡ stored_octets store one.id) (asked_for mode store one) (flat_map (asked_for mode store) listing) (one_stored mode store one) (all_stored mode store listing)

found_stored : (mode : Mode) (store : StoreState) (found : Option Listed) → AreInStore store (asked_for_found mode store found)
found_stored mode store None = tt
found_stored mode store (Some one) = one_stored mode store one

number_stored : (mode : Mode) (store : StoreState) (maildrop : List MaildropMessage) (number : Option ℕ) → AreInStore store (asked_for_number mode store maildrop number)
number_stored mode store maildrop None = tt
number_stored mode store maildrop (Some number) = found_stored mode store (listed_at maildrop number)

top_stored : (mode : Mode) (store : StoreState) (maildrop : List MaildropMessage) (numbers : Option TopNumbers) → AreInStore store (asked_for_top mode store maildrop numbers)
top_stored mode store maildrop None = tt
top_stored mode store maildrop (Some numbers) = found_stored mode store (listed_at maildrop numbers.number)

row_stored : (mode : Mode) (maildrop : List MaildropMessage) (store : StoreState) (word : Keyword) (argument : Option (List ℕ)) → AreInStore store (transaction_asks mode maildrop store word argument)
row_stored mode maildrop store keyword.Capa argument = tt
row_stored mode maildrop store keyword.Utf8 argument = tt
row_stored mode maildrop store keyword.User argument = tt
row_stored mode maildrop store keyword.Pass argument = tt
row_stored mode maildrop store keyword.Quit argument = tt
row_stored mode maildrop store keyword.Stat None = all_stored mode store (left_of maildrop)
row_stored mode maildrop store keyword.Stat (Some text) = tt
row_stored mode maildrop store keyword.List None = all_stored mode store (left_of maildrop)
row_stored mode maildrop store keyword.List (Some text) = number_stored mode store maildrop (number_of text)
row_stored mode maildrop store keyword.Uidl argument = tt
row_stored mode maildrop store keyword.Retr None = tt
row_stored mode maildrop store keyword.Retr (Some text) = number_stored mode store maildrop (number_of text)
row_stored mode maildrop store keyword.Top None = tt
row_stored mode maildrop store keyword.Top (Some text) = top_stored mode store maildrop (top_numbers_of text)
row_stored mode maildrop store keyword.Dele argument = tt
row_stored mode maildrop store keyword.Rset argument = tt
row_stored mode maildrop store keyword.Noop argument = tt
row_stored mode maildrop store keyword.Http argument = tt
row_stored mode maildrop store keyword.Other argument = tt

pub octets_asked : (state : State) (store : StoreState) (command : Command) → AreInStore store (asked_of state store command)
unfolding asked_of
octets_asked greeted store command = tt
octets_asked (authorization mode user) store command = tt
octets_asked (transaction mode maildrop) store command = row_stored mode maildrop store command.keyword command.argument
octets_asked ended store command = tt

-- ---- nothing else is

number_other : (mode : Mode) (maildrop : List MaildropMessage) (store : StoreState) (found : Option ℕ) → found ≡ None → asked_for_number mode store maildrop found ≡ []
number_other mode maildrop store found is = rw is refl

top_other : (mode : Mode) (maildrop : List MaildropMessage) (store : StoreState) (found : Option TopNumbers) → option_map (λ (numbers : TopNumbers). numbers.number) found ≡ None → asked_for_top mode store maildrop found ≡ []
top_other mode maildrop store None is = refl
top_other mode maildrop store (Some numbers) is = cc

row_other : (mode : Mode) (maildrop : List MaildropMessage) (store : StoreState) (word : Keyword) (argument : Option (List ℕ)) → ¬ (((word ≡ keyword.Stat) ⊎ (word ≡ keyword.List)) × (argument ≡ None))
    → number_in word argument ≡ None → transaction_asks mode maildrop store word argument ≡ []
row_other mode maildrop store keyword.Capa argument other is = refl
row_other mode maildrop store keyword.Utf8 argument other is = refl
row_other mode maildrop store keyword.User argument other is = refl
row_other mode maildrop store keyword.Pass argument other is = refl
row_other mode maildrop store keyword.Quit argument other is = refl
row_other mode maildrop store keyword.Stat None other is = absurd (other (inl refl, refl))
row_other mode maildrop store keyword.Stat (Some text) other is = refl
row_other mode maildrop store keyword.List None other is = absurd (other (inr refl, refl))
row_other mode maildrop store keyword.List (Some text) other is = number_other mode maildrop store (number_of text) is
row_other mode maildrop store keyword.Uidl argument other is = refl
row_other mode maildrop store keyword.Retr None other is = refl
row_other mode maildrop store keyword.Retr (Some text) other is = number_other mode maildrop store (number_of text) is
row_other mode maildrop store keyword.Top None other is = refl
row_other mode maildrop store keyword.Top (Some text) other is = top_other mode maildrop store (top_numbers_of text) is
row_other mode maildrop store keyword.Dele argument other is = refl
row_other mode maildrop store keyword.Rset argument other is = refl
row_other mode maildrop store keyword.Noop argument other is = refl
row_other mode maildrop store keyword.Http argument other is = refl
row_other mode maildrop store keyword.Other argument other is = refl

pub others_asked : (state : State) (store : StoreState) (command : Command) → ¬ TellsSizes command → number_in command.keyword command.argument ≡ None → asked_of state store command ≡ []
unfolding asked_of
others_asked greeted store command other is = refl
others_asked (authorization mode user) store command other is = refl
others_asked (transaction mode maildrop) store command other is = row_other mode maildrop store command.keyword command.argument other is
others_asked ended store command other is = refl

-- a reply that begins with a minus isn't one that begins with a plus
begins_otherwise : {A : Type 0} (first : ℕ) → first ≡ 43 → first ≡ 45 → A
begins_otherwise first plus minus = absurd (omega (arith, plus, minus))

found_refused : (mode : Mode) (store : StoreState) (row : ℕ → Listed → List ReplyPart) → ((number : ℕ) (one : Listed) → first_octet (row number one) ≡ 43) → (number : ℕ) (found : Option Listed)
    → first_octet (of_message row number found) ≡ 45 → asked_for_found mode store found ≡ []
found_refused mode store row told number None minus = refl
found_refused mode store row told number (Some one) minus = begins_otherwise (first_octet (row number one)) (told number one) minus

number_refused : (mode : Mode) (store : StoreState) (row : ℕ → Listed → List ReplyPart) → ((number : ℕ) (one : Listed) → first_octet (row number one) ≡ 43) → (maildrop : List MaildropMessage) (number : Option ℕ)
    → first_octet (of_number row maildrop number) ≡ 45 → asked_for_number mode store maildrop number ≡ []
number_refused mode store row told maildrop None minus = refl
number_refused mode store row told maildrop (Some number) minus = found_refused mode store row told number (listed_at maildrop number) minus

top_refused : (mode : Mode) (store : StoreState) (row : ℕ → ℕ → Listed → List ReplyPart) → ((lines number : ℕ) (one : Listed) → first_octet (row lines number one) ≡ 43) → (maildrop : List MaildropMessage)
    (numbers : Option TopNumbers) → first_octet (of_top row maildrop numbers) ≡ 45 → asked_for_top mode store maildrop numbers ≡ []
top_refused mode store row told maildrop None minus = refl
top_refused mode store row told maildrop (Some numbers) minus =
    found_refused mode store (row numbers.lines) (told numbers.lines) numbers.number (listed_at maildrop numbers.number) minus

row_refused : (oracles : Oracles) (mode : Mode) (maildrop : List MaildropMessage) (store : StoreState) (word : Keyword) (argument : Option (List ℕ))
    → first_octet (transaction_step oracles mode maildrop store word argument).reply ≡ 45 → transaction_asks mode maildrop store word argument ≡ []
row_refused oracles mode maildrop store keyword.Capa argument minus = refl
row_refused oracles mode maildrop store keyword.Utf8 argument minus = refl
row_refused oracles mode maildrop store keyword.User argument minus = refl
row_refused oracles mode maildrop store keyword.Pass argument minus = refl
row_refused oracles mode maildrop store keyword.Quit argument minus = refl
row_refused oracles mode maildrop store keyword.Stat None minus = begins_otherwise 43 refl minus
row_refused oracles mode maildrop store keyword.Stat (Some text) minus = refl
row_refused oracles mode maildrop store keyword.List None minus = begins_otherwise 43 refl minus
row_refused oracles mode maildrop store keyword.List (Some text) minus =
    number_refused mode store (listing_one_reply (size_of oracles mode store)) (λ number one. refl) maildrop (number_of text) minus
row_refused oracles mode maildrop store keyword.Uidl argument minus = refl
row_refused oracles mode maildrop store keyword.Retr None minus = refl
row_refused oracles mode maildrop store keyword.Retr (Some text) minus = number_refused mode store (retr_reply oracles mode store) (λ number one. refl) maildrop (number_of text) minus
row_refused oracles mode maildrop store keyword.Top None minus = refl
row_refused oracles mode maildrop store keyword.Top (Some text) minus = top_refused mode store (top_reply oracles mode store) (λ lines number one. refl) maildrop (top_numbers_of text) minus
row_refused oracles mode maildrop store keyword.Dele argument minus = refl
row_refused oracles mode maildrop store keyword.Rset argument minus = refl
row_refused oracles mode maildrop store keyword.Noop argument minus = refl
row_refused oracles mode maildrop store keyword.Http argument minus = refl
row_refused oracles mode maildrop store keyword.Other argument minus = refl

pub refused_asked : (oracles : Oracles) (state : State) (store : StoreState) (command : Command) → IsRefused (step oracles state store command).reply → asked_of state store command ≡ []
unfolding asked_of step
refused_asked oracles greeted store command refused = refl
refused_asked oracles (authorization mode user) store command refused = refl
refused_asked oracles (transaction mode maildrop) store command refused = row_refused oracles mode maildrop store command.keyword command.argument (ap first_octet refused.1)
refused_asked oracles ended store command refused = refl

-- ---- an enabled session

none_for : (store : StoreState) (listing : List Listed) → flat_map (asked_for enabled store) listing ≡ []
none_for store [] = refl
none_for store (one ∷ listing) = none_for store listing

found_enabled : (store : StoreState) (found : Option Listed) → asked_for_found enabled store found ≡ []
found_enabled store None = refl
found_enabled store (Some one) = refl

number_enabled : (maildrop : List MaildropMessage) (store : StoreState) (number : Option ℕ) → asked_for_number enabled store maildrop number ≡ []
number_enabled maildrop store None = refl
number_enabled maildrop store (Some number) = found_enabled store (listed_at maildrop number)

top_enabled : (maildrop : List MaildropMessage) (store : StoreState) (numbers : Option TopNumbers) → asked_for_top enabled store maildrop numbers ≡ []
top_enabled maildrop store None = refl
top_enabled maildrop store (Some numbers) = found_enabled store (listed_at maildrop numbers.number)

row_enabled : (maildrop : List MaildropMessage) (store : StoreState) (word : Keyword) (argument : Option (List ℕ)) → transaction_asks enabled maildrop store word argument ≡ []
row_enabled maildrop store keyword.Capa argument = refl
row_enabled maildrop store keyword.Utf8 argument = refl
row_enabled maildrop store keyword.User argument = refl
row_enabled maildrop store keyword.Pass argument = refl
row_enabled maildrop store keyword.Quit argument = refl
row_enabled maildrop store keyword.Stat None = none_for store (left_of maildrop)
row_enabled maildrop store keyword.Stat (Some text) = refl
row_enabled maildrop store keyword.List None = none_for store (left_of maildrop)
row_enabled maildrop store keyword.List (Some text) = number_enabled maildrop store (number_of text)
row_enabled maildrop store keyword.Uidl argument = refl
row_enabled maildrop store keyword.Retr None = refl
row_enabled maildrop store keyword.Retr (Some text) = number_enabled maildrop store (number_of text)
row_enabled maildrop store keyword.Top None = refl
row_enabled maildrop store keyword.Top (Some text) = top_enabled maildrop store (top_numbers_of text)
row_enabled maildrop store keyword.Dele argument = refl
row_enabled maildrop store keyword.Rset argument = refl
row_enabled maildrop store keyword.Noop argument = refl
row_enabled maildrop store keyword.Http argument = refl
row_enabled maildrop store keyword.Other argument = refl

pub enabled_asked : (state : State) (store : StoreState) (command : Command) → IsOfMode enabled state → asked_of state store command ≡ []
unfolding asked_of
enabled_asked greeted store command is = refl
enabled_asked (authorization mode user) store command is = refl
enabled_asked (transaction mode maildrop) store command is = rw is (row_enabled maildrop store command.keyword command.argument)
enabled_asked ended store command is = refl

-- ---- a stream

-- after the end nothing is asked for
ended_asked : (oracles : Oracles) (store : StoreState) (commands : List Command) → asked_by_commands oracles (at_end store) commands ≡ []
unfolding asked_of step
ended_asked oracles store [] = refl
ended_asked oracles store (command ∷ commands) = ended_asked oracles store commands

-- what these turns ask for
abbrev pub asked_by_turns : Oracles → ℕ → Machine → List ℕ → List Asked
asked_by_turns oracles n machine octets = asked_in (turns (pop_protocol.next oracles) n machine octets).parts

-- what this turn and so many more ask for
abbrev pub asked_after : Oracles → ℕ → Machine → List ℕ → Option (Turn Machine (Act ReplyPart)) → List Asked
asked_after oracles n machine octets first =
    asked_in (option_map_or (λ turn. following turn.parts (turns (pop_protocol.next oracles) n turn.after turn.rest)) first (stay machine octets)).parts

-- each stream asks for what so many of its commands do
abbrev AsksSo : Oracles → ℕ → Type 0
AsksSo oracles n = (machine : Machine) (octets : List ℕ) → asked_by_turns oracles n machine octets ≡ asked_by_commands oracles machine (commands_up_to n octets)

framed_asked : (oracles : Oracles) (n : ℕ) (machine : Machine) (octets : List ℕ) (framed : Framed) → AsksSo oracles n
    → asked_after oracles n machine octets (turn_by pop_grammar oracles machine framed) ≡ asked_by_commands oracles machine (commands_by (commands_up_to n) framed)
framed_asked oracles n machine octets waiting more = refl
framed_asked oracles n machine octets (whole text rest) more =
    let asked = asked_of machine.state machine.store (command_of text) in
    let taken = step oracles machine.state machine.store (command_of text) in
    let next = after_command oracles machine (command_of text) in
    let later = turns (pop_protocol.next oracles) n next rest in
    asked_in-append (asking asked (acts_of taken.changes taken.reply)) later.parts
    ∙ ap (λ (l : List Asked). l ++ asked_in later.parts) (asked_in-asking asked (acts_of taken.changes taken.reply) ∙ ap (λ (l : List Asked). asked ++ l) (asked_in-acts taken.changes taken.reply) ∙ append-nil asked)
    ∙ ap (λ (l : List Asked). asked ++ l) (more next rest)
framed_asked oracles n machine octets (too_long rest) more =
    ap (λ (t : Turn Machine (Act ReplyPart)). asked_in (acts_of [] line_too_long ++ t.parts)) (turns-stop (pop_protocol.next oracles) n (at_end machine.store) rest refl)

state_asked : (oracles : Oracles) (n : ℕ) (state : State) (machine : Machine) (octets : List ℕ) → machine.state ≡ state → AsksSo oracles n
    → asked_after oracles n machine octets (turn_in pop_grammar oracles machine (wants_in state) octets) ≡ asked_by_commands oracles machine (commands_by (commands_up_to n) (next_line octets))
state_asked oracles n greeted machine octets is more = framed_asked oracles n machine octets (next_line octets) more
state_asked oracles n (authorization mode user) machine octets is more = framed_asked oracles n machine octets (next_line octets) more
state_asked oracles n (transaction mode maildrop) machine octets is more = framed_asked oracles n machine octets (next_line octets) more
state_asked oracles n ended machine octets is more =
    let commands = commands_by (commands_up_to n) (next_line octets) in
    sym (ap (λ (m : Machine). asked_by_commands oracles m commands) (machine_ends machine is) ∙ ended_asked oracles machine.store commands)

turns_asked : (oracles : Oracles) (n : ℕ) → AsksSo oracles n
unfolding turns commands_up_to
turns_asked oracles zero machine octets = refl
turns_asked oracles (suc n) machine octets = state_asked oracles n machine.state machine octets refl (turns_asked oracles n)

pub stream_asked : (oracles : Oracles) (machine : Machine) (octets : List ℕ) → asked_in (turns_of oracles machine octets).parts ≡ asked_by_commands oracles machine (commands_in octets)
stream_asked oracles machine octets = turns_asked oracles _ machine octets
