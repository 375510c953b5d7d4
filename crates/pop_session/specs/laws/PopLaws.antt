-- What holds of the rows: which change the store, and that what they give may be sent.
use Rattle.std.proofs.Common.{◌≡◌, ℕ, ◌+◌, List, [], ◌∷◌, ◌++◌, length, Bool, true, false, refl, Some, None, Option, append-nil, ◌⊎◌, inl, inr, codes, sum_by}
use Rattle.std.proofs.lemmas.Bool.{cases_Bool}
use Rattle.std.specs.List.{list_all}
use Rattle.std.specs.Fmt.{decimal}
use Rattle.mail_wire.specs.Numbers.{number_of}
use Rattle.mail_wire.specs.Octets.{is_ascii}
use Rattle.mail_wire.proofs.AllLemmas.{all-append, pass-append}
use Rattle.mail_wire.proofs.NumberLemmas.{ascii-decimal}
use Rattle.journal_records.specs.declared.records.Record.{Record}
use Rattle.mail_store.specs.Changing.{expunged}
use Rattle.mail_store.specs.Following.{records_of}
use Rattle.kept_mail.specs.Kept.{logged_in}
use Rattle.mail_store.specs.StoreState.{StoreState, AreStored, with_records}
use Rattle.kept_mail.specs.declared.kept.Listed.{Listed}
use Rattle.session_core.proofs.FitLemmas.{fit_acts, fit_asking}
use Rattle.surrogate_cache.specs.Served.{Mode, legacy, enabled}
use Rattle.session_core.specs.Desks.{IsOpen}
use Rattle.session_core.specs.Grammar.{IsFitRow, LongRowsFit, RowsFit, opening_row}
use Rattle.session_core.specs.Oracles.{Oracles, AreOracles}
use Rattle.session_core.specs.Moments.{Moment}
use Rattle.session_core.specs.declared.desk.Desk.{Desk}
use Rattle.session_core.specs.declared.rows.Wants.TheVariants as wants
use Rattle.session_core.proofs.StoredLemmas.{stored_at, stored-expunged, surrogate_shown}
use Rattle.pop_session.specs.declared.states.MaildropMessage.{MaildropMessage}
use Rattle.pop_session.specs.declared.states.PopState.{PopState}
use Rattle.pop_session.specs.declared.states.PopState.TheVariants as pop
use Rattle.pop_session.specs.declared.command.Keyword.{Keyword}
use Rattle.pop_session.specs.declared.command.Keyword.TheVariants as keyword
use Rattle.pop_session.specs.declared.command.TopNumbers.{TopNumbers}
use Rattle.pop_session.specs.Commands.{Command, command_of, top_numbers_of}
use Rattle.pop_session.specs.History.{IsQuit}
use Rattle.pop_session.specs.Machine.{ReplyPart, State, greeted, authorization, transaction, ended, line, shown, authorization_step, first_step, is_http, transaction_step, transaction_reply, pass_step, dele_message, dele_step, deleted_ids, taken_out, two_numbers, left_of, listed_at, size_of, listed_octets, listing_from, listing_one_reply, listing_reply, stat_reply, retr_reply, top_reply, of_message, of_number, of_top, uid_row, acts_in, asked_of, step}
use Rattle.pop_session.specs.Replies.{IsFit, AreFit}
use Rattle.pop_session.specs.Session.{Machine, PopStands, greeting, line_too_long, pop_grammar, wants_in}
use Rattle.pop_session.specs.States.{state_of}

-- ---- which rows change the store

pass_changes : (mode : Mode) (store : StoreState) (found : Option ℕ) → (pass_step mode store found).changes ≡ []
pass_changes mode store None = refl
pass_changes mode store (Some account) = refl

-- no row of AUTHORIZATION changes the store
pub authorization_changes : (oracles : Oracles) (mode : Mode) (user : Option (List ℕ)) (store : StoreState) (word : Keyword) (argument : Option (List ℕ))
    → (authorization_step oracles mode user store word argument).changes ≡ []
authorization_changes oracles mode user store keyword.Stat argument = refl
authorization_changes oracles mode user store keyword.List argument = refl
authorization_changes oracles mode user store keyword.Uidl argument = refl
authorization_changes oracles mode user store keyword.Retr argument = refl
authorization_changes oracles mode user store keyword.Top argument = refl
authorization_changes oracles mode user store keyword.Dele argument = refl
authorization_changes oracles mode user store keyword.Rset argument = refl
authorization_changes oracles mode user store keyword.Noop argument = refl
authorization_changes oracles mode user store keyword.Http argument = refl
authorization_changes oracles mode user store keyword.Other argument = refl
authorization_changes oracles mode user store keyword.Capa None = refl
authorization_changes oracles mode user store keyword.Capa (Some text) = refl
authorization_changes oracles mode user store keyword.Utf8 None = refl
authorization_changes oracles mode user store keyword.Utf8 (Some text) = refl
authorization_changes oracles mode user store keyword.User None = refl
authorization_changes oracles mode user store keyword.User (Some []) = refl
authorization_changes oracles mode user store keyword.User (Some (x ∷ name)) = refl
authorization_changes oracles mode None store keyword.Pass None = refl
authorization_changes oracles mode (Some name) store keyword.Pass None = refl
authorization_changes oracles mode None store keyword.Pass (Some password) = refl
authorization_changes oracles mode (Some name) store keyword.Pass (Some password) = pass_changes mode store (logged_in oracles.path_of store.kept name password)
authorization_changes oracles mode user store keyword.Quit None = refl
authorization_changes oracles mode user store keyword.Quit (Some text) = refl

-- nor does the first line
pub first_changes : (oracles : Oracles) (store : StoreState) (word : Keyword) (argument : Option (List ℕ)) → (first_step oracles store word argument).changes ≡ []
first_changes oracles store word argument = elim (cases_Bool (is_http word)) [
  | inl http ↦ rw (http) refl
  | inr other ↦ rw (other) (authorization_changes oracles legacy None store word argument)
]

message_changes : (mode : Mode) (maildrop : List MaildropMessage) (number : ℕ) (found : Option Listed) → (dele_message mode maildrop number found).changes ≡ []
message_changes mode maildrop number None = refl
message_changes mode maildrop number (Some one) = refl

-- nor does DELE
pub dele_changes : (mode : Mode) (maildrop : List MaildropMessage) (number : Option ℕ) → (dele_step mode maildrop number).changes ≡ []
dele_changes mode maildrop None = refl
dele_changes mode maildrop (Some number) = message_changes mode maildrop number (listed_at maildrop number)

transaction_quiet : (oracles : Oracles) (mode : Mode) (maildrop : List MaildropMessage) (store : StoreState) (word : Keyword) (argument : Option (List ℕ))
    → ((word ≡ keyword.Quit) × (argument ≡ None)) ⊎ ((transaction_step oracles mode maildrop store word argument).changes ≡ [])
transaction_quiet oracles mode maildrop store keyword.Dele None = inr refl
transaction_quiet oracles mode maildrop store keyword.Dele (Some text) = inr (dele_changes mode maildrop (number_of text))
transaction_quiet oracles mode maildrop store keyword.Rset None = inr refl
transaction_quiet oracles mode maildrop store keyword.Rset (Some text) = inr refl
transaction_quiet oracles mode maildrop store keyword.Quit None = inl (refl, refl)
transaction_quiet oracles mode maildrop store keyword.Quit (Some text) = inr refl
transaction_quiet oracles mode maildrop store keyword.User argument = inr refl
transaction_quiet oracles mode maildrop store keyword.Pass argument = inr refl
transaction_quiet oracles mode maildrop store keyword.Utf8 argument = inr refl
transaction_quiet oracles mode maildrop store keyword.Stat argument = inr refl
transaction_quiet oracles mode maildrop store keyword.List argument = inr refl
transaction_quiet oracles mode maildrop store keyword.Retr argument = inr refl
transaction_quiet oracles mode maildrop store keyword.Capa argument = inr refl
transaction_quiet oracles mode maildrop store keyword.Uidl argument = inr refl
transaction_quiet oracles mode maildrop store keyword.Top argument = inr refl
transaction_quiet oracles mode maildrop store keyword.Noop argument = inr refl
transaction_quiet oracles mode maildrop store keyword.Http argument = inr refl
transaction_quiet oracles mode maildrop store keyword.Other argument = inr refl

-- a command changes nothing, but QUIT after login
pub step_quiet : (oracles : Oracles) (state : State) (store : StoreState) (command : Command) → IsQuit state command ⊎ ((step oracles state store command).changes ≡ [])
unfolding step
step_quiet oracles greeted store command = inr (first_changes oracles store command.keyword command.argument)
step_quiet oracles (authorization mode user) store command = inr (authorization_changes oracles mode user store command.keyword command.argument)
step_quiet oracles (transaction mode maildrop) store command = transaction_quiet oracles mode maildrop store command.keyword command.argument
step_quiet oracles ended store command = inr refl

-- ---- each line is ASCII

ascii-two : (word : List ℕ) (n m : ℕ) → list_all is_ascii word ≡ true → list_all is_ascii (two_numbers word n m) ≡ true
ascii-two word n m ascii =
    pass-append is_ascii (word ++ decimal n ++ codes " ") (decimal m) (pass-append is_ascii (word ++ decimal n) (codes " ") (pass-append is_ascii word (decimal n) ascii (ascii-decimal n)) refl) (ascii-decimal m)

from_by : (oracles : Oracles) (row : Listed → ℕ) (number : ℕ) (one : MaildropMessage) (maildrop : List MaildropMessage) → AreFit oracles (listing_from row (number + 1) maildrop)
    → (b : Bool) → one.deleted ≡ b → AreFit oracles (listing_from row number (one ∷ maildrop))
from_by oracles row number one maildrop others true is = rw is others
from_by oracles row number one maildrop others false is = rw is (ascii-two [] number (row one.listed) refl, others)

from_fit : (oracles : Oracles) (row : Listed → ℕ) (number : ℕ) (maildrop : List MaildropMessage) → AreFit oracles (listing_from row number maildrop)
from_fit oracles row number [] = tt
from_fit oracles row number (one ∷ maildrop) = from_by oracles row number one maildrop (from_fit oracles row (number + 1) maildrop) one.deleted refl

listing_fit : (oracles : Oracles) (row : Listed → ℕ) (maildrop : List MaildropMessage) → AreFit oracles (listing_reply row maildrop)
listing_fit oracles row maildrop = (refl, all-append (IsFit oracles) (listing_from row 1 maildrop) (line (codes ".") ∷ []) (from_fit oracles row 1 maildrop) (refl, tt))

stat_fit : (oracles : Oracles) (mode : Mode) (store : StoreState) (maildrop : List MaildropMessage) → AreFit oracles (stat_reply oracles mode store maildrop)
stat_fit oracles mode store maildrop = (ascii-two (codes "+OK ") (length (left_of maildrop)) (sum_by (size_of oracles mode store) (left_of maildrop)) refl, tt)

listing_one_fit : (oracles : Oracles) (row : Listed → ℕ) (number : ℕ) (one : Listed) → AreFit oracles (listing_one_reply row number one)
listing_one_fit oracles row number one = (ascii-two (codes "+OK ") number (row one) refl, tt)

of_one_fit : (oracles : Oracles) (mode : Mode) (maildrop : List MaildropMessage) (number : ℕ) (found : Option Listed) → AreFit oracles (dele_message mode maildrop number found).reply
of_one_fit oracles mode maildrop number None = (refl, tt)
of_one_fit oracles mode maildrop number (Some one) = (refl, tt)

dele_fit : (oracles : Oracles) (mode : Mode) (maildrop : List MaildropMessage) (number : Option ℕ) → AreFit oracles (dele_step mode maildrop number).reply
dele_fit oracles mode maildrop None = (refl, tt)
dele_fit oracles mode maildrop (Some number) = of_one_fit oracles mode maildrop number (listed_at maildrop number)

pass_fit : (oracles : Oracles) (mode : Mode) (store : StoreState) (found : Option ℕ) → AreFit oracles (pass_step mode store found).reply
pass_fit oracles mode store None = (refl, tt)
pass_fit oracles mode store (Some account) = (refl, tt)

authorization_fit : (oracles : Oracles) (mode : Mode) (user : Option (List ℕ)) (store : StoreState) (word : Keyword) (argument : Option (List ℕ))
    → AreFit oracles (authorization_step oracles mode user store word argument).reply
authorization_fit oracles mode user store keyword.Stat argument = (refl, tt)
authorization_fit oracles mode user store keyword.List argument = (refl, tt)
authorization_fit oracles mode user store keyword.Uidl argument = (refl, tt)
authorization_fit oracles mode user store keyword.Retr argument = (refl, tt)
authorization_fit oracles mode user store keyword.Top argument = (refl, tt)
authorization_fit oracles mode user store keyword.Dele argument = (refl, tt)
authorization_fit oracles mode user store keyword.Rset argument = (refl, tt)
authorization_fit oracles mode user store keyword.Noop argument = (refl, tt)
authorization_fit oracles mode user store keyword.Capa None = (refl, (refl, (refl, (refl, (refl, (refl, tt))))))
authorization_fit oracles mode user store keyword.Capa (Some text) = (refl, tt)
authorization_fit oracles mode user store keyword.Utf8 None = (refl, tt)
authorization_fit oracles mode user store keyword.Utf8 (Some text) = (refl, tt)
authorization_fit oracles mode user store keyword.User None = (refl, tt)
authorization_fit oracles mode user store keyword.User (Some []) = (refl, tt)
authorization_fit oracles mode user store keyword.User (Some (x ∷ name)) = (refl, tt)
authorization_fit oracles mode None store keyword.Pass None = (refl, tt)
authorization_fit oracles mode (Some name) store keyword.Pass None = (refl, tt)
authorization_fit oracles mode None store keyword.Pass (Some password) = (refl, tt)
authorization_fit oracles mode (Some name) store keyword.Pass (Some password) = pass_fit oracles mode store (logged_in oracles.path_of store.kept name password)
authorization_fit oracles mode user store keyword.Quit None = (refl, tt)
authorization_fit oracles mode user store keyword.Quit (Some text) = (refl, tt)
authorization_fit oracles mode user store keyword.Http argument = (refl, tt)
authorization_fit oracles mode user store keyword.Other argument = (refl, tt)

first_fit : (oracles : Oracles) (store : StoreState) (word : Keyword) (argument : Option (List ℕ)) → AreFit oracles (first_step oracles store word argument).reply
first_fit oracles store word argument = elim (cases_Bool (is_http word)) [
  | inl http ↦ rw (http) (refl, tt)
  | inr other ↦ rw (other) (authorization_fit oracles legacy None store word argument)
]

-- ---- what is shown of a message

shown_fit : (oracles : Oracles) → AreOracles oracles → (mode : Mode) (store : StoreState) (one : Listed) (len : ℕ) → AreStored store.kept.messages
    → AreFit oracles (line (codes "+OK") ∷ shown (listed_octets store one) mode 0 len ∷ line (codes ".") ∷ [])
shown_fit oracles are legacy store one len stored = (refl, (surrogate_shown oracles are (listed_octets store one) (stored_at store one.id stored), (refl, tt)))
shown_fit oracles are enabled store one len stored = (refl, (tt, (refl, tt)))

message_fit : (oracles : Oracles) (row : ℕ → Listed → List ReplyPart) → ((number : ℕ) (one : Listed) → AreFit oracles (row number one)) → (number : ℕ) (found : Option Listed) → AreFit oracles (of_message row number found)
message_fit oracles row fit number None = (refl, tt)
message_fit oracles row fit number (Some one) = fit number one

number_fit : (oracles : Oracles) (row : ℕ → Listed → List ReplyPart) → ((number : ℕ) (one : Listed) → AreFit oracles (row number one)) → (maildrop : List MaildropMessage) (number : Option ℕ)
    → AreFit oracles (of_number row maildrop number)
number_fit oracles row fit maildrop None = (refl, tt)
number_fit oracles row fit maildrop (Some number) = message_fit oracles row fit number (listed_at maildrop number)

top_fit : (oracles : Oracles) (row : ℕ → ℕ → Listed → List ReplyPart) → ((lines number : ℕ) (one : Listed) → AreFit oracles (row lines number one)) → (maildrop : List MaildropMessage) (numbers : Option TopNumbers)
    → AreFit oracles (of_top row maildrop numbers)
top_fit oracles row fit maildrop None = (refl, tt)
top_fit oracles row fit maildrop (Some numbers) = message_fit oracles (row numbers.lines) (fit numbers.lines) numbers.number (listed_at maildrop numbers.number)

reply_fit : (oracles : Oracles) → AreOracles oracles → (mode : Mode) (maildrop : List MaildropMessage) (store : StoreState) → AreStored store.kept.messages → (word : Keyword) (argument : Option (List ℕ))
    → AreFit oracles (transaction_reply oracles mode maildrop store word argument)
reply_fit oracles are mode maildrop store stored keyword.User argument = (refl, tt)
reply_fit oracles are mode maildrop store stored keyword.Pass argument = (refl, tt)
reply_fit oracles are mode maildrop store stored keyword.Utf8 argument = (refl, tt)
reply_fit oracles are mode maildrop store stored keyword.Capa None = (refl, (refl, (refl, (refl, (refl, (refl, tt))))))
reply_fit oracles are mode maildrop store stored keyword.Capa (Some text) = (refl, tt)
reply_fit oracles are mode maildrop store stored keyword.Noop None = (refl, tt)
reply_fit oracles are mode maildrop store stored keyword.Noop (Some text) = (refl, tt)
reply_fit oracles are mode maildrop store stored keyword.Stat None = stat_fit oracles mode store maildrop
reply_fit oracles are mode maildrop store stored keyword.Stat (Some text) = (refl, tt)
reply_fit oracles are mode maildrop store stored keyword.List None = listing_fit oracles (size_of oracles mode store) maildrop
reply_fit oracles are mode maildrop store stored keyword.List (Some text) =
    number_fit oracles (listing_one_reply (size_of oracles mode store)) (listing_one_fit oracles (size_of oracles mode store)) maildrop (number_of text)
reply_fit oracles are mode maildrop store stored keyword.Uidl None = listing_fit oracles uid_row maildrop
reply_fit oracles are mode maildrop store stored keyword.Uidl (Some text) = number_fit oracles (listing_one_reply uid_row) (listing_one_fit oracles uid_row) maildrop (number_of text)
reply_fit oracles are mode maildrop store stored keyword.Retr None = (refl, tt)
reply_fit oracles are mode maildrop store stored keyword.Retr (Some text) =
    number_fit oracles (retr_reply oracles mode store) (λ number one. shown_fit oracles are mode store one (size_of oracles mode store one) stored) maildrop (number_of text)
reply_fit oracles are mode maildrop store stored keyword.Top None = (refl, tt)
reply_fit oracles are mode maildrop store stored keyword.Top (Some text) =
    top_fit oracles (top_reply oracles mode store) (λ lines number one. shown_fit oracles are mode store one _ stored) maildrop (top_numbers_of text)
reply_fit oracles are mode maildrop store stored keyword.Dele argument = (refl, tt)
reply_fit oracles are mode maildrop store stored keyword.Rset argument = (refl, tt)
reply_fit oracles are mode maildrop store stored keyword.Quit argument = (refl, tt)
reply_fit oracles are mode maildrop store stored keyword.Http argument = (refl, tt)
reply_fit oracles are mode maildrop store stored keyword.Other argument = (refl, tt)

transaction_fit : (oracles : Oracles) → AreOracles oracles → (mode : Mode) (maildrop : List MaildropMessage) (store : StoreState) → AreStored store.kept.messages → (word : Keyword) (argument : Option (List ℕ))
    → AreFit oracles (transaction_step oracles mode maildrop store word argument).reply
transaction_fit oracles are mode maildrop store stored keyword.Dele None = (refl, tt)
transaction_fit oracles are mode maildrop store stored keyword.Dele (Some text) = dele_fit oracles mode maildrop (number_of text)
transaction_fit oracles are mode maildrop store stored keyword.Rset None = (refl, tt)
transaction_fit oracles are mode maildrop store stored keyword.Rset (Some text) = (refl, tt)
transaction_fit oracles are mode maildrop store stored keyword.Quit None = (refl, tt)
transaction_fit oracles are mode maildrop store stored keyword.Quit (Some text) = (refl, tt)
transaction_fit oracles are mode maildrop store stored keyword.User argument = reply_fit oracles are mode maildrop store stored keyword.User argument
transaction_fit oracles are mode maildrop store stored keyword.Pass argument = reply_fit oracles are mode maildrop store stored keyword.Pass argument
transaction_fit oracles are mode maildrop store stored keyword.Utf8 argument = reply_fit oracles are mode maildrop store stored keyword.Utf8 argument
transaction_fit oracles are mode maildrop store stored keyword.Capa argument = reply_fit oracles are mode maildrop store stored keyword.Capa argument
transaction_fit oracles are mode maildrop store stored keyword.Noop argument = reply_fit oracles are mode maildrop store stored keyword.Noop argument
transaction_fit oracles are mode maildrop store stored keyword.Stat argument = reply_fit oracles are mode maildrop store stored keyword.Stat argument
transaction_fit oracles are mode maildrop store stored keyword.List argument = reply_fit oracles are mode maildrop store stored keyword.List argument
transaction_fit oracles are mode maildrop store stored keyword.Uidl argument = reply_fit oracles are mode maildrop store stored keyword.Uidl argument
transaction_fit oracles are mode maildrop store stored keyword.Retr argument = reply_fit oracles are mode maildrop store stored keyword.Retr argument
transaction_fit oracles are mode maildrop store stored keyword.Top argument = reply_fit oracles are mode maildrop store stored keyword.Top argument
transaction_fit oracles are mode maildrop store stored keyword.Http argument = reply_fit oracles are mode maildrop store stored keyword.Http argument
transaction_fit oracles are mode maildrop store stored keyword.Other argument = reply_fit oracles are mode maildrop store stored keyword.Other argument

step_fit : (oracles : Oracles) → AreOracles oracles → (state : State) (store : StoreState) → AreStored store.kept.messages → (command : Command) → AreFit oracles (step oracles state store command).reply
unfolding step
step_fit oracles are greeted store stored command = first_fit oracles store command.keyword command.argument
step_fit oracles are (authorization mode user) store stored command = authorization_fit oracles mode user store command.keyword command.argument
step_fit oracles are (transaction mode maildrop) store stored command = transaction_fit oracles are mode maildrop store stored command.keyword command.argument
step_fit oracles are ended store stored command = tt

-- ---- the store after a row

-- each message may be kept after these changes
abbrev IsStoredAfter : StoreState → List (List Record) → Type 0
IsStoredAfter store made = AreStored (with_records store (records_of made)).kept.messages

stored_as : (store : StoreState) (made : List (List Record)) → made ≡ [] → AreStored store.kept.messages → IsStoredAfter store made
stored_as store made none stored = rw none stored

stored_taken : (store : StoreState) (ids : List ℕ) → AreStored store.kept.messages → IsStoredAfter store (taken_out ids)
stored_taken store [] stored = stored
stored_taken store (id ∷ ids) stored = rw (append-nil (expunged (id ∷ ids))) (stored-expunged store.kept (id ∷ ids) stored)

step_sound : (oracles : Oracles) (state : State) (store : StoreState) (command : Command) → AreStored store.kept.messages → IsStoredAfter store (step oracles state store command).changes
unfolding step
step_sound oracles greeted store command stored = stored_as store _ (first_changes oracles store command.keyword command.argument) stored
step_sound oracles (authorization mode user) store command stored = stored_as store _ (authorization_changes oracles mode user store command.keyword command.argument) stored
step_sound oracles (transaction mode maildrop) store command stored = elim (transaction_quiet oracles mode maildrop store command.keyword command.argument) [
  | inl quit ↦ rw (quit.0, quit.1) (stored_taken store (deleted_ids maildrop) stored)
  | inr none ↦ stored_as store _ none stored
]
step_sound oracles ended store command stored = stored

-- ---- the laws

wants_by : (session : PopState) → wants_in (state_of session) ≡ Some wants.Line
wants_by pop.Greeted = refl
wants_by (pop.Authorization session) = refl
wants_by (pop.EnabledAuthorization session) = refl
wants_by (pop.Transaction session) = refl
wants_by (pop.EnabledTransaction session) = refl

pub agrees_by : (more : List Moment) (session : PopState) (desk : Desk) (machine : Machine) → PopStands more session desk machine → wants_in machine.state ≡ Some wants.Line
agrees_by more session desk machine is = rw is (wants_by session)

pub opening_fits_by : (oracles : Oracles) → AreOracles oracles → (moments : List Moment) (desk : Desk) → IsOpen desk → IsFitRow pop_grammar oracles (opening_row pop_grammar moments desk.store)
opening_fits_by oracles are moments desk opens = record { fit = fit_acts (IsFit oracles) [] greeting (refl, tt); sound = opens.stored }

pub rows_fit_by : RowsFit pop_grammar
rows_fit_by oracles are machine text sound =
    let taken = step oracles machine.state machine.store (command_of text) in
    record {
      fit = fit_asking (IsFit oracles) (asked_of machine.state machine.store (command_of text)) (acts_in taken)
          (fit_acts (IsFit oracles) taken.changes taken.reply (step_fit oracles are machine.state machine.store sound (command_of text)));
      sound = step_sound oracles machine.state machine.store (command_of text) sound;
    }

pub long_rows_fit_by : LongRowsFit pop_grammar
long_rows_fit_by oracles are machine sound = record { fit = fit_acts (IsFit oracles) [] line_too_long (refl, tt); sound = sound }
