-- What the commands of a session come to, one after another: which mode it is in, which messages are marked, and which are asked for (RFC 1939, 5 and 7; RFC
-- 6856, 2).
use Rattle.std.specs.Prelude.{◌≡◌, ℕ, zero, suc, ◌==◌, ◌||◌, ◌⊎◌, List, [], ◌∷◌, ◌++◌, Bool, true, false, Option, None, Some, length, codes}
use Rattle.std.specs.List.{AllByRecursion}
use Rattle.std.specs.Option.{option_map}
use Rattle.mail_wire.specs.Framing.{Framed, waiting, whole, too_long, next_line}
use Rattle.kept_mail.specs.declared.kept.Listed.{Listed}
use Rattle.mail_store.specs.StoreState.{StoreState}
use Rattle.surrogate_cache.specs.Caching.{Asked}
use Rattle.surrogate_cache.specs.Served.{Mode, legacy, enabled}
use Rattle.session_core.specs.Desks.{stored_octets}
use Rattle.session_core.specs.Oracles.{Oracles}
use Rattle.pop_session.specs.declared.command.Keyword.{Keyword}
use Rattle.pop_session.specs.declared.command.Keyword.TheVariants as keyword
use Rattle.pop_session.specs.declared.states.MaildropMessage.{MaildropMessage}
use Rattle.pop_session.specs.declared.command.TopNumbers.{TopNumbers}
use Rattle.pop_session.specs.Commands.{Command, command_of, top_numbers_of}
use Rattle.mail_wire.specs.Numbers.{number_of}
use Rattle.pop_session.specs.Machine.{ReplyPart, says, State, greeted, authorization, transaction, ended, listed_at, asked_of, step}
use Rattle.pop_session.specs.Session.{Machine, after_step}

-- ---- the commands that are done

-- the machine after a command
abbrev pub after_command : Oracles → Machine → Command → Machine
after_command oracles machine command = after_step machine.store (step oracles machine.state machine.store command)

-- the machine after these commands
abbrev pub after_commands : Oracles → Machine → List Command → Machine
after_commands oracles machine [] = machine
after_commands oracles machine (command ∷ commands) = after_commands oracles (after_command oracles machine command) commands

-- the command of a line, and more after it
abbrev pub commands_by : (List ℕ → List Command) → Framed → List Command
commands_by more waiting = []
commands_by more (whole line rest) = command_of line ∷ more rest
commands_by more (too_long rest) = []

-- the commands of the first lines, at most so many
unfoldable pub commands_up_to : ℕ → List ℕ → List Command
commands_up_to zero octets = []
commands_up_to (suc n) octets = commands_by (commands_up_to n) (next_line octets)

-- the commands of the lines of these octets, up to one that is too long
abbrev pub commands_in : List ℕ → List Command
commands_in octets = commands_up_to (length octets) octets

-- ---- the mode

-- the state has this mode, or the session has ended
abbrev pub IsOfMode : Mode → State → Type 0
IsOfMode mode greeted = legacy ≡ mode
IsOfMode mode (authorization is user) = is ≡ mode
IsOfMode mode (transaction is maildrop) = is ≡ mode
IsOfMode mode ended = Unit {0}

-- UTF8, which has no argument (RFC 6856, 2)
abbrev pub is_utf8 : Keyword → Option (List ℕ) → Bool
is_utf8 keyword.Utf8 None = true
is_utf8 word argument = false

-- The command enables UTF-8: it is an UTF8 that is accepted, before login (RFC 6856, 2).
abbrev pub enables : State → Command → Bool
enables greeted command = is_utf8 command.keyword command.argument
enables (authorization mode user) command = is_utf8 command.keyword command.argument
enables (transaction mode maildrop) command = false
enables ended command = false

-- One of these commands enables UTF-8.
abbrev pub some_enables : Oracles → Machine → List Command → Bool
some_enables oracles machine [] = false
some_enables oracles machine (command ∷ commands) = enables machine.state command || some_enables oracles (after_command oracles machine command) commands

-- the mode after commands one of which asks for UTF-8, or none does
abbrev pub mode_after : Bool → Mode → Mode
mode_after true mode = enabled
mode_after false mode = mode

-- ---- the marks

-- QUIT after login
abbrev pub IsQuit : State → Command → Type 0
IsQuit greeted command = ⊥
IsQuit (authorization mode user) command = ⊥
IsQuit (transaction mode maildrop) command = (command.keyword ≡ keyword.Quit) × (command.argument ≡ None)
IsQuit ended command = ⊥

-- The number is one of these.
abbrev pub is_among : ℕ → List ℕ → Bool
is_among number [] = false
is_among number (n ∷ numbers) = (number == n) || is_among number numbers

-- the maildrop of these messages, numbered from this number on, in which those of these numbers are marked
abbrev pub with_marks : ℕ → List ℕ → List Listed → List MaildropMessage
with_marks number marks [] = []
with_marks number marks (one ∷ listing) = record { listed = one; deleted = is_among number marks } ∷ with_marks (suc number) marks listing

-- one mark more where the message was found
abbrev pub marks_found : ℕ → List ℕ → Option Listed → List ℕ
marks_found number marks None = marks
marks_found number marks (Some one) = number ∷ marks

-- DELE marks the message of a number that is there and isn't marked
abbrev pub marks_by_number : List Listed → List ℕ → Option ℕ → List ℕ
marks_by_number listing marks None = marks
marks_by_number listing marks (Some number) = marks_found number marks (listed_at (with_marks 1 marks listing) number)

-- the numbers of the marked messages after a command: DELE marks one, and RSET takes all marks away
abbrev pub marks_by : List Listed → List ℕ → Keyword → Option (List ℕ) → List ℕ
marks_by listing marks keyword.Dele (Some text) = marks_by_number listing marks (number_of text)
marks_by listing marks keyword.Rset None = []
marks_by listing marks word argument = marks

-- The messages that are marked after these commands.
abbrev pub marks_after : List Listed → List ℕ → List Command → List ℕ
marks_after listing marks [] = marks
marks_after listing marks (command ∷ commands) = marks_after listing (marks_by listing marks command.keyword command.argument) commands

-- the session is logged in to these messages, of which those of these numbers are marked, or it has ended
abbrev pub IsMarked : Mode → List Listed → List ℕ → State → Type 0
IsMarked mode listing marks greeted = ⊥
IsMarked mode listing marks (authorization is user) = ⊥
IsMarked mode listing marks (transaction is maildrop) = (is ≡ mode) × (maildrop ≡ with_marks 1 marks listing)
IsMarked mode listing marks ended = Unit {0}

-- ---- the messages that are asked for

-- the messages that these commands ask for, in their order
abbrev pub asked_by_commands : Oracles → Machine → List Command → List Asked
asked_by_commands oracles machine [] = []
asked_by_commands oracles machine (command ∷ commands) =
    asked_of machine.state machine.store command ++ asked_by_commands oracles (after_command oracles machine command) commands

-- STAT, or LIST of all messages
abbrev pub TellsSizes : Command → Type 0
TellsSizes command = ((command.keyword ≡ keyword.Stat) ⊎ (command.keyword ≡ keyword.List)) × (command.argument ≡ None)

-- the number in LIST, RETR or TOP of one message
abbrev pub number_in : Keyword → Option (List ℕ) → Option ℕ
number_in keyword.List (Some text) = number_of text
number_in keyword.Retr (Some text) = number_of text
number_in keyword.Top (Some text) = option_map (λ (numbers : TopNumbers). numbers.number) (top_numbers_of text)
number_in word argument = None

-- The reply is one line that begins with `-ERR ` (RFC 1939, 3).
abbrev pub IsRefused : List ReplyPart → Type 0
IsRefused reply = (text : List ℕ) × (reply ≡ says (codes "-ERR " ++ text))

-- each message is asked for with the octets that the store has under its number
abbrev pub AreInStore : StoreState → List Asked → Type 0
AreInStore store asked = AllByRecursion (λ (one : Asked). one.octets ≡ stored_octets store one.id) asked
