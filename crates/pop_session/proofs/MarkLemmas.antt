-- Which messages are marked after commands after a login.
use Rattle.std.proofs.Common.{◌≡◌, ℕ, zero, suc, ◌+◌, ◌<◌, List, [], ◌∷◌, Bool, true, false, arith, refl, sym, ap, ◌∙◌, Some, None, Option}
use Rattle.std.specs.Prelude.{map, length, ◌==◌, ◌||◌, ◌↔◌}
use Rattle.std.proofs.lemmas.Bool.Decides.{nat_tests}
use Rattle.std.proofs.lemmas.Bool.{or_left}
use Rattle.kept_mail.specs.declared.kept.Listed.{Listed}
use Rattle.kept_mail.specs.Kept.{change_at, logged_in}
use Rattle.mail_store.specs.StoreState.{StoreState}
use Rattle.surrogate_cache.specs.Served.{Mode}
use Rattle.session_core.specs.Oracles.{Oracles}
use Rattle.pop_session.specs.declared.command.Keyword.{Keyword}
use Rattle.pop_session.specs.declared.command.Keyword.TheVariants as keyword
use Rattle.pop_session.specs.declared.states.MaildropMessage.{MaildropMessage}
use Rattle.pop_session.specs.Commands.{Command}
use Rattle.mail_wire.specs.Numbers.{number_of}
use Rattle.pop_session.specs.History.{after_command, after_commands, is_among, with_marks, marks_found, marks_by_number, marks_by, marks_after, IsMarked, IsQuit}
use Rattle.pop_session.specs.Machine.{State, greeted, authorization, transaction, ended, marked, listed_at, unmarked, inbox_messages, step, authorization_step, transaction_step, pass_step, dele_message, dele_step, quit_step, done, no_such_message}
use Rattle.pop_session.specs.Session.{Machine}
use Rattle.pop_session.proofs.ModeLemmas.{refused_not_done}

-- ---- marks in a maildrop

or_else : (a b : Bool) → a ≡ false → (a || b) ≡ b
or_else true b is = cc
or_else false b is = refl

-- a mark before these messages is none of theirs
mark_before : (number first : ℕ) (marks : List ℕ) (listing : List Listed) → first < number → with_marks number (first ∷ marks) listing ≡ with_marks number marks listing
mark_before number first marks [] before = refl
mark_before number first marks (one ∷ listing) before =
    let apart : (number == first) ≡ false = grind (arith, nat_tests) in
    rw (or_else (number == first) (is_among number marks) apart, mark_before (suc number) first marks listing (omega (arith, before))) refl

-- one mark more
mark_at : (number place at : ℕ) (marks : List ℕ) (listing : List Listed) → at ≡ number + place
    → change_at (marked true) (with_marks number marks listing) place ≡ with_marks number (at ∷ marks) listing
mark_at number place at marks [] is = refl
mark_at number zero at marks (one ∷ listing) is =
    let here : (number == at) ≡ true = grind (arith, nat_tests) in
    rw (or_left (number == at) (is_among number marks) here, mark_before (suc number) at marks listing (omega (arith, is))) refl
mark_at number (suc place) at marks (one ∷ listing) is =
    let apart : (number == at) ≡ false = grind (arith, nat_tests) in
    rw (or_else (number == at) (is_among number marks) apart, mark_at (suc number) place at marks listing (omega (arith, is))) refl

-- all marks taken away
unmarked_all : (number : ℕ) (marks : List ℕ) (listing : List Listed) → map (marked false) (with_marks number marks listing) ≡ with_marks number [] listing
unmarked_all number marks [] = refl
unmarked_all number marks (one ∷ listing) = ap (λ others. record { listed = one; deleted = false } ∷ others) (unmarked_all (suc number) marks listing)

-- at login none is marked
login_unmarked : (number : ℕ) (listing : List Listed) → map unmarked listing ≡ with_marks number [] listing
login_unmarked number [] = refl
login_unmarked number (one ∷ listing) = ap (λ others. record { listed = one; deleted = false } ∷ others) (login_unmarked (suc number) listing)

-- ---- one command

found_marked : (mode : Mode) (listing : List Listed) (marks : List ℕ) (number : ℕ) (found : Option Listed) → found ≡ listed_at (with_marks 1 marks listing) number
    → IsMarked mode listing (marks_found number marks found) (dele_message mode (with_marks 1 marks listing) number found).state
found_marked mode listing marks number None is = (refl, refl)
found_marked mode listing marks zero (Some one) is = cc
found_marked mode listing marks (suc place) (Some one) is = (refl, mark_at 1 place (suc place) marks listing (omega arith))

number_marked : (mode : Mode) (listing : List Listed) (marks : List ℕ) (number : Option ℕ)
    → IsMarked mode listing (marks_by_number listing marks number) (dele_step mode (with_marks 1 marks listing) number).state
number_marked mode listing marks None = (refl, refl)
number_marked mode listing marks (Some number) = found_marked mode listing marks number (listed_at (with_marks 1 marks listing) number) refl

row_marked : (oracles : Oracles) (mode : Mode) (listing : List Listed) (marks : List ℕ) (store : StoreState) (word : Keyword) (argument : Option (List ℕ))
    → IsMarked mode listing (marks_by listing marks word argument) (transaction_step oracles mode (with_marks 1 marks listing) store word argument).state
row_marked oracles mode listing marks store keyword.Dele None = (refl, refl)
row_marked oracles mode listing marks store keyword.Dele (Some text) = number_marked mode listing marks (number_of text)
row_marked oracles mode listing marks store keyword.Rset None = (refl, unmarked_all 1 marks listing)
row_marked oracles mode listing marks store keyword.Rset (Some text) = (refl, refl)
row_marked oracles mode listing marks store keyword.Quit None = tt
row_marked oracles mode listing marks store keyword.Quit (Some text) = (refl, refl)
row_marked oracles mode listing marks store keyword.User argument = (refl, refl)
row_marked oracles mode listing marks store keyword.Pass argument = (refl, refl)
row_marked oracles mode listing marks store keyword.Utf8 argument = (refl, refl)
row_marked oracles mode listing marks store keyword.Stat argument = (refl, refl)
row_marked oracles mode listing marks store keyword.List argument = (refl, refl)
row_marked oracles mode listing marks store keyword.Retr argument = (refl, refl)
row_marked oracles mode listing marks store keyword.Capa argument = (refl, refl)
row_marked oracles mode listing marks store keyword.Uidl argument = (refl, refl)
row_marked oracles mode listing marks store keyword.Top argument = (refl, refl)
row_marked oracles mode listing marks store keyword.Noop argument = (refl, refl)
row_marked oracles mode listing marks store keyword.Http argument = (refl, refl)
row_marked oracles mode listing marks store keyword.Other argument = (refl, refl)

step_marked : (oracles : Oracles) (mode : Mode) (listing : List Listed) (marks : List ℕ) (state : State) (store : StoreState) (command : Command) → IsMarked mode listing marks state
    → IsMarked mode listing (marks_by listing marks command.keyword command.argument) (step oracles state store command).state
unfolding step
step_marked oracles mode listing marks greeted store command marked_so = absurd marked_so
step_marked oracles mode listing marks (authorization is user) store command marked_so = absurd marked_so
step_marked oracles mode listing marks (transaction is maildrop) store command marked_so =
    rw (marked_so.0, marked_so.1) (row_marked oracles mode listing marks store command.keyword command.argument)
step_marked oracles mode listing marks ended store command marked_so = tt

-- ---- several commands

pub commands_marked : (oracles : Oracles) (mode : Mode) (listing : List Listed) (marks : List ℕ) (machine : Machine) (commands : List Command) → IsMarked mode listing marks machine.state
    → IsMarked mode listing (marks_after listing marks commands) (after_commands oracles machine commands).state
commands_marked oracles mode listing marks machine [] is = is
commands_marked oracles mode listing marks machine (command ∷ commands) is =
    commands_marked oracles mode listing (marks_by listing marks command.keyword command.argument) (after_command oracles machine command) commands
    (step_marked oracles mode listing marks machine.state machine.store command is)

-- ---- the login

same_maildrop : (mode is : Mode) (maildrop other : List MaildropMessage) → transaction mode maildrop ≡ transaction is other → maildrop ≡ other
same_maildrop mode is maildrop other h = cc

-- what a login leaves: the messages of an account's INBOX, none of them marked
abbrev pub IsLogin : StoreState → List MaildropMessage → Type 0
IsLogin store maildrop = (account : ℕ) × (maildrop ≡ with_marks 1 [] (inbox_messages store.kept account))

pass_login : (mode is : Mode) (store : StoreState) (found : Option ℕ) (maildrop : List MaildropMessage) → (pass_step mode store found).state ≡ transaction is maildrop → IsLogin store maildrop
pass_login mode is store None maildrop same = cc
pass_login mode is store (Some account) maildrop same =
    (account, sym (same_maildrop mode is _ maildrop same) ∙ login_unmarked 1 (inbox_messages store.kept account))

row_login : (oracles : Oracles) (mode is : Mode) (user : Option (List ℕ)) (store : StoreState) (word : Keyword) (argument : Option (List ℕ)) (maildrop : List MaildropMessage)
    → (authorization_step oracles mode user store word argument).state ≡ transaction is maildrop → IsLogin store maildrop
row_login oracles mode is user store keyword.Stat argument maildrop same = cc
row_login oracles mode is user store keyword.List argument maildrop same = cc
row_login oracles mode is user store keyword.Uidl argument maildrop same = cc
row_login oracles mode is user store keyword.Retr argument maildrop same = cc
row_login oracles mode is user store keyword.Top argument maildrop same = cc
row_login oracles mode is user store keyword.Dele argument maildrop same = cc
row_login oracles mode is user store keyword.Rset argument maildrop same = cc
row_login oracles mode is user store keyword.Noop argument maildrop same = cc
row_login oracles mode is user store keyword.Http argument maildrop same = cc
row_login oracles mode is user store keyword.Other argument maildrop same = cc
row_login oracles mode is user store keyword.Capa None maildrop same = cc
row_login oracles mode is user store keyword.Capa (Some text) maildrop same = cc
row_login oracles mode is user store keyword.Utf8 None maildrop same = cc
row_login oracles mode is user store keyword.Utf8 (Some text) maildrop same = cc
row_login oracles mode is user store keyword.User None maildrop same = cc
row_login oracles mode is user store keyword.User (Some []) maildrop same = cc
row_login oracles mode is user store keyword.User (Some (x ∷ name)) maildrop same = cc
row_login oracles mode is None store keyword.Pass None maildrop same = cc
row_login oracles mode is (Some name) store keyword.Pass None maildrop same = cc
row_login oracles mode is None store keyword.Pass (Some password) maildrop same = cc
row_login oracles mode is (Some name) store keyword.Pass (Some password) maildrop same =
    pass_login mode is store (logged_in oracles.path_of store.kept name password) maildrop same
row_login oracles mode is user store keyword.Quit None maildrop same = cc
row_login oracles mode is user store keyword.Quit (Some text) maildrop same = cc

pub step_login : (oracles : Oracles) (mode is : Mode) (user : Option (List ℕ)) (store : StoreState) (command : Command) (maildrop : List MaildropMessage)
    → (step oracles (authorization mode user) store command).state ≡ transaction is maildrop → IsLogin store maildrop
unfolding step
step_login oracles mode is user store command maildrop same = row_login oracles mode is user store command.keyword command.argument maildrop same

-- ---- DELE and QUIT

longer : (number : ℕ) (marks : List ℕ) → marks ≡ number ∷ marks → ⊥
longer number marks is = let long = ap (λ (l : List ℕ). length l) is in omega arith

found_answered : (mode : Mode) (maildrop : List MaildropMessage) (marks : List ℕ) (number : ℕ) (found : Option Listed)
    → ((dele_message mode maildrop number found).reply ≡ done) ↔ (marks_found number marks found ≡ number ∷ marks)
found_answered mode maildrop marks number None = (λ same. absurd (refused_not_done no_such_message refl same), λ is. absurd (longer number marks is))
found_answered mode maildrop marks number (Some one) = (λ same. refl, λ is. refl)

-- DELE marks a message where it is answered +OK
pub dele_answered : (oracles : Oracles) (mode : Mode) (listing : List Listed) (marks : List ℕ) (store : StoreState) (text : List ℕ) (number : ℕ) → number_of text ≡ Some number
    → ((transaction_step oracles mode (with_marks 1 marks listing) store keyword.Dele (Some text)).reply ≡ done) ↔ (marks_by listing marks keyword.Dele (Some text) ≡ number ∷ marks)
dele_answered oracles mode listing marks store text number is =
    rw is (found_answered mode (with_marks 1 marks listing) marks number (listed_at (with_marks 1 marks listing) number))

pub quit_is : (oracles : Oracles) (mode : Mode) (listing : List Listed) (marks : List ℕ) (store : StoreState) (command : Command)
    → let state = transaction mode (with_marks 1 marks listing) in IsQuit state command → step oracles state store command ≡ quit_step (with_marks 1 marks listing)
unfolding step
quit_is oracles mode listing marks store command is = rw (is.0, is.1) refl
