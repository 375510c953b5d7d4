-- The POP3 machine (RFC 1939, 4 to 7; RFC 6856, 2).
use Rattle.std.specs.Prelude.{ℕ, Bool, true, false, zero, suc, ◌+◌, ◌++◌, List, [], ◌∷◌, Option, None, Some, length, codes, map, take, slice_get, sum_by, option_and_then, if◌then◌else◌}
use Rattle.std.specs.List.{flat_map}
use Rattle.std.specs.Str.{bytes_eq}
use Rattle.std.specs.Fmt.{decimal}
use Rattle.std.specs.Option.{option_map_or}
use Rattle.mail_wire.specs.Lines.{crlf, lines_of}
use Rattle.kept_mail.specs.declared.kept.Listed.{Listed}
use Rattle.session_core.specs.Acts.{Act, acts_of}
use Rattle.mail_store.specs.Changing.{expunged}
use Rattle.kept_mail.specs.Kept.{Kept, change_at, logged_in, inbox_of, listed}
use Rattle.mail_store.specs.StoreState.{StoreState}
use Rattle.journal_records.specs.declared.records.Record.{Record}
use Rattle.surrogate_cache.specs.Caching.{Asked, asked_by}
use Rattle.surrogate_cache.specs.Served.{Mode, legacy, enabled, served_by}
use Rattle.session_core.specs.Oracles.{Oracles}
use Rattle.pop_session.specs.declared.command.Keyword.{Keyword}
use Rattle.pop_session.specs.declared.command.Keyword.TheVariants as keyword
use Rattle.pop_session.specs.Commands.{Command, top_numbers_of}
use Rattle.mail_wire.specs.Numbers.{number_of}
use Rattle.pop_session.specs.declared.command.TopNumbers.{TopNumbers}
use Rattle.pop_session.specs.declared.states.MaildropMessage.{MaildropMessage}
use Rattle.session_core.specs.Desks.{stored_octets}

-- a part of a reply
pub data ReplyPart : Type 0 where
  -- a line, without its CRLF
  line : (octets : List ℕ) → ReplyPart
  -- of what the mode serves of a message, so many octets from this place on
  shown : (msg : List ℕ) (mode : Mode) (at len : ℕ) → ReplyPart

-- The states of a session (RFC 1939, 3).
pub data State : Type 0 where
  -- AUTHORIZATION before the first line, when no name was given and UTF-8 isn't enabled
  greeted : State
  -- AUTHORIZATION, with the name that USER gave
  authorization : (mode : Mode) (user : Option (List ℕ)) → State
  -- TRANSACTION, with the messages of INBOX at login and those of them that are marked as deleted
  transaction : (mode : Mode) (maildrop : List MaildropMessage) → State
  -- the session has ended
  ended : State

-- What a command does: the changes that it makes of the store, the records of one call each; its reply; and the state after it.
pub record Step : Type 0 where
  pub changes : List (List Record)
  pub reply : List ReplyPart
  pub state : State

-- its changes, and then its reply
abbrev pub acts_in : Step → List (Act ReplyPart)
acts_in taken = acts_of taken.changes taken.reply

-- ---- replies

-- A reply of one line.
abbrev pub says : List ℕ → List ReplyPart
says text = line text ∷ []

-- What a command is answered that was done (RFC 1939, 3).
abbrev pub done : List ReplyPart
done = says (codes "+OK")

-- What QUIT is answered (RFC 1939, 4 and 6).
abbrev pub bye : List ReplyPart
bye = says (codes "+OK bye")

-- What a login is answered that fails (RFC 1939, 7).
abbrev pub not_admitted : List ReplyPart
not_admitted = says (codes "-ERR no")

-- What a command is answered that the state doesn't allow (RFC 1939, 3).
abbrev pub out_of_order : List ReplyPart
out_of_order = says (codes "-ERR out of order")

-- What a command is answered whose argument is none of its (RFC 1939, 3).
abbrev pub syntax_error : List ReplyPart
syntax_error = says (codes "-ERR syntax")

-- What a command is answered that names no message, or one that is marked as deleted (RFC 1939, 5).
abbrev pub no_such_message : List ReplyPart
no_such_message = says (codes "-ERR no such message")

-- the octets of a message of the store
abbrev pub listed_octets : StoreState → Listed → List ℕ
listed_octets store one = stored_octets store one.id

-- how many octets a session is served of a message
abbrev pub size_of : Oracles → Mode → StoreState → Listed → ℕ
size_of oracles mode store one = length (served_by oracles.surrogate mode (listed_octets store one))

-- two numbers after a word
abbrev pub two_numbers : List ℕ → ℕ → ℕ → List ℕ
two_numbers word n m = word ++ decimal n ++ codes " " ++ decimal m

-- ---- the maildrop

-- a message that isn't marked
abbrev pub unless_deleted : MaildropMessage → Option Listed
unless_deleted one = if one.deleted then None else Some one.listed

-- the messages that aren't marked
abbrev pub left_of : List MaildropMessage → List Listed
left_of [] = []
left_of (one ∷ maildrop) = if one.deleted then left_of maildrop else one.listed ∷ left_of maildrop

-- the numbers in the store of the messages that are marked
abbrev pub deleted_ids : List MaildropMessage → List ℕ
deleted_ids [] = []
deleted_ids (one ∷ maildrop) = if one.deleted then one.listed.id ∷ deleted_ids maildrop else deleted_ids maildrop

-- The message, marked as deleted or not.
abbrev pub marked : Bool → MaildropMessage → MaildropMessage
marked deleted one = record one { deleted = deleted }

-- with the message of this number marked
abbrev pub with_deleted : ℕ → List MaildropMessage → List MaildropMessage
with_deleted zero maildrop = maildrop
with_deleted (suc place) maildrop = change_at (marked true) maildrop place

-- the message of a number, from 1 on, unless it is marked
abbrev pub listed_at : List MaildropMessage → ℕ → Option Listed
listed_at maildrop zero = None
listed_at maildrop (suc place) = option_and_then unless_deleted (slice_get maildrop place)

-- ---- replies on messages

-- how many messages, and the sum of their sizes
abbrev pub stat_reply : Oracles → Mode → StoreState → List MaildropMessage → List ReplyPart
stat_reply oracles mode store maildrop =
    says (two_numbers (codes "+OK ") (length (left_of maildrop)) (sum_by (size_of oracles mode store) (left_of maildrop)))

-- what UIDL tells of a message, after its number; LIST tells its size
abbrev pub uid_row : Listed → ℕ
uid_row one = one.uid

-- a line for each message that isn't marked, numbered from this number on
abbrev pub listing_from : (Listed → ℕ) → ℕ → List MaildropMessage → List ReplyPart
listing_from row number [] = []
listing_from row number (one ∷ maildrop) =
    if one.deleted then listing_from row (number + 1) maildrop
    else line (two_numbers [] number (row one.listed)) ∷ listing_from row (number + 1) maildrop

-- The reply of LIST or UIDL without a number: a line for each message that isn't marked, and a dot (RFC 1939, 5 and 7).
abbrev pub listing_reply : (Listed → ℕ) → List MaildropMessage → List ReplyPart
listing_reply row maildrop = line (codes "+OK") ∷ listing_from row 1 maildrop ++ line (codes ".") ∷ []

-- The reply of LIST or UIDL of one message (RFC 1939, 5 and 7).
abbrev pub listing_one_reply : (Listed → ℕ) → ℕ → Listed → List ReplyPart
listing_one_reply row number one = says (two_numbers (codes "+OK ") number (row one))

-- The reply of RETR: what the session is served of the message, and a dot (RFC 1939, 5).
abbrev pub retr_reply : Oracles → Mode → StoreState → ℕ → Listed → List ReplyPart
retr_reply oracles mode store number one =
    line (codes "+OK") ∷ shown (listed_octets store one) mode 0 (size_of oracles mode store one) ∷ line (codes ".") ∷ []

-- the lines up to the first empty one, and so many lines after it
abbrev pub top_lines : ℕ → List (List ℕ) → List (List ℕ)
top_lines n [] = []
top_lines n (first ∷ lines) = if bytes_eq first crlf then first ∷ take n lines else first ∷ top_lines n lines

-- how many octets that are of what is served
abbrev pub top_length : ℕ → List ℕ → ℕ
top_length n octets = sum_by length (top_lines n (lines_of octets))

-- The reply of TOP: the header, the empty line and so many lines of what the session is served, and a dot (RFC 1939, 7).
abbrev pub top_reply : Oracles → Mode → StoreState → ℕ → ℕ → Listed → List ReplyPart
top_reply oracles mode store lines number one =
    line (codes "+OK") ∷ shown (listed_octets store one) mode 0 (top_length lines (served_by oracles.surrogate mode (listed_octets store one)))
    ∷ line (codes ".") ∷ []

-- what this server can do (RFC 2449, 5; RFC 6856, 2)
abbrev pub capabilities : List ReplyPart
capabilities = line (codes "+OK") ∷ line (codes "UTF8 USER") ∷ line (codes "TOP") ∷ line (codes "UIDL") ∷ line (codes "USER") ∷ line (codes ".") ∷ []

-- ---- numbers of messages

-- a row for the message of this number
abbrev pub of_message : (ℕ → Listed → List ReplyPart) → ℕ → Option Listed → List ReplyPart
of_message row number None = no_such_message
of_message row number (Some one) = row number one

-- a row whose argument is the number of a message
abbrev pub of_number : (ℕ → Listed → List ReplyPart) → List MaildropMessage → Option ℕ → List ReplyPart
of_number row maildrop None = syntax_error
of_number row maildrop (Some number) = of_message row number (listed_at maildrop number)

-- a row whose argument is the number of a message, and that of lines
abbrev pub of_top : (ℕ → ℕ → Listed → List ReplyPart) → List MaildropMessage → Option TopNumbers → List ReplyPart
of_top row maildrop None = syntax_error
of_top row maildrop (Some numbers) = of_message (row numbers.lines) numbers.number (listed_at maildrop numbers.number)

-- ---- rows; the first that fits counts

-- the messages of the account's INBOX
abbrev pub inbox_messages : Kept → ℕ → List Listed
inbox_messages kept account = option_map_or (listed kept) (inbox_of kept account) []

-- A message of the maildrop at login, when none is marked.
abbrev pub unmarked : Listed → MaildropMessage
unmarked one = record { listed = one; deleted = false }

-- no message is marked at login
abbrev pub maildrop_of : Kept → ℕ → List MaildropMessage
maildrop_of kept account = map unmarked (inbox_messages kept account)

-- a reply, and nothing is changed
abbrev pub answers : List ReplyPart → State → Step
answers reply state = record { changes = []; reply = reply; state = state }

-- the state after a PASS that finds this account, or none
abbrev pub pass_step : Mode → StoreState → Option ℕ → Step
pass_step mode store None = answers not_admitted (authorization mode None)
pass_step mode store (Some account) = answers done (transaction mode (maildrop_of store.kept account))

-- the commands of TRANSACTION alone
abbrev pub is_of_transaction : Keyword → Bool
is_of_transaction keyword.Stat = true
is_of_transaction keyword.List = true
is_of_transaction keyword.Uidl = true
is_of_transaction keyword.Retr = true
is_of_transaction keyword.Top = true
is_of_transaction keyword.Dele = true
is_of_transaction keyword.Rset = true
is_of_transaction keyword.Noop = true
is_of_transaction keyword = false

-- the rows of AUTHORIZATION that are its own
abbrev pub authorization_row : Oracles → Mode → Option (List ℕ) → StoreState → Keyword → Option (List ℕ) → Step
authorization_row oracles mode user store keyword.Capa None = answers capabilities (authorization mode user)
authorization_row oracles mode user store keyword.Utf8 None = answers done (authorization enabled user)
authorization_row oracles mode user store keyword.User (Some (x ∷ name)) = answers done (authorization mode (Some (x ∷ name)))
authorization_row oracles mode None store keyword.Pass (Some password) = answers out_of_order (authorization mode None)
authorization_row oracles mode (Some name) store keyword.Pass (Some password) = pass_step mode store (logged_in oracles.path_of store.kept name password)
authorization_row oracles mode user store keyword.Quit None = answers bye ended
authorization_row oracles mode user store keyword argument = answers syntax_error (authorization mode user)

-- the rows of AUTHORIZATION
abbrev pub authorization_step : Oracles → Mode → Option (List ℕ) → StoreState → Keyword → Option (List ℕ) → Step
authorization_step oracles mode user store keyword argument =
    if is_of_transaction keyword then answers out_of_order (authorization mode user)
    else authorization_row oracles mode user store keyword argument

-- The line begins an HTTP request.
abbrev pub is_http : Keyword → Bool
is_http keyword.Http = true
is_http keyword = false

-- The first line of a session: an HTTP request is refused and ends it, so that no page speaks POP3 through a browser; any other line is one of AUTHORIZATION.
abbrev pub first_step : Oracles → StoreState → Keyword → Option (List ℕ) → Step
first_step oracles store keyword argument =
    if is_http keyword then answers syntax_error ended else authorization_step oracles legacy None store keyword argument

-- the replies of the rows of TRANSACTION that leave the state
abbrev pub transaction_reply : Oracles → Mode → List MaildropMessage → StoreState → Keyword → Option (List ℕ) → List ReplyPart
transaction_reply oracles mode maildrop store keyword.User argument = out_of_order
transaction_reply oracles mode maildrop store keyword.Pass argument = out_of_order
transaction_reply oracles mode maildrop store keyword.Utf8 argument = out_of_order
transaction_reply oracles mode maildrop store keyword.Capa None = capabilities
transaction_reply oracles mode maildrop store keyword.Noop None = done
transaction_reply oracles mode maildrop store keyword.Stat None = stat_reply oracles mode store maildrop
transaction_reply oracles mode maildrop store keyword.List None = listing_reply (size_of oracles mode store) maildrop
transaction_reply oracles mode maildrop store keyword.List (Some number) =
    of_number (listing_one_reply (size_of oracles mode store)) maildrop (number_of number)
transaction_reply oracles mode maildrop store keyword.Uidl None = listing_reply uid_row maildrop
transaction_reply oracles mode maildrop store keyword.Uidl (Some number) = of_number (listing_one_reply uid_row) maildrop (number_of number)
transaction_reply oracles mode maildrop store keyword.Retr (Some number) = of_number (retr_reply oracles mode store) maildrop (number_of number)
transaction_reply oracles mode maildrop store keyword.Top (Some numbers) = of_top (top_reply oracles mode store) maildrop (top_numbers_of numbers)
transaction_reply oracles mode maildrop store keyword argument = syntax_error

-- DELE marks the message of a number
abbrev pub dele_message : Mode → List MaildropMessage → ℕ → Option Listed → Step
dele_message mode maildrop number None = answers no_such_message (transaction mode maildrop)
dele_message mode maildrop number (Some one) = answers done (transaction mode (with_deleted number maildrop))

-- DELE: the message of the number is marked as deleted, if there is one (RFC 1939, 5).
abbrev pub dele_step : Mode → List MaildropMessage → Option ℕ → Step
dele_step mode maildrop None = answers syntax_error (transaction mode maildrop)
dele_step mode maildrop (Some number) = dele_message mode maildrop number (listed_at maildrop number)

-- the change that takes these messages out of the store, by one call, and none where there are none
abbrev pub taken_out : List ℕ → List (List Record)
taken_out [] = []
taken_out (id ∷ ids) = expunged (id ∷ ids) ∷ []

-- QUIT takes the marked messages out of the store
abbrev pub quit_step : List MaildropMessage → Step
quit_step maildrop = record { changes = taken_out (deleted_ids maildrop); reply = bye; state = ended }

-- the rows of TRANSACTION
abbrev pub transaction_step : Oracles → Mode → List MaildropMessage → StoreState → Keyword → Option (List ℕ) → Step
transaction_step oracles mode maildrop store keyword.Dele (Some number) = dele_step mode maildrop (number_of number)
transaction_step oracles mode maildrop store keyword.Rset None = answers done (transaction mode (map (marked false) maildrop))
transaction_step oracles mode maildrop store keyword.Quit None = quit_step maildrop
transaction_step oracles mode maildrop store keyword argument =
    answers (transaction_reply oracles mode maildrop store keyword argument) (transaction mode maildrop)

-- one command
unfoldable pub step : Oracles → State → StoreState → Command → Step
step oracles greeted store command = first_step oracles store command.keyword command.argument
step oracles (authorization mode user) store command = authorization_step oracles mode user store command.keyword command.argument
step oracles (transaction mode maildrop) store command = transaction_step oracles mode maildrop store command.keyword command.argument
step oracles ended store command = answers [] ended

-- ---- what a command asks its cache for

-- what a legacy session is shown of a message, or told of its size, comes through the cache
abbrev pub asked_for : Mode → StoreState → Listed → List Asked
asked_for mode store one = asked_by mode one.id (listed_octets store one)

-- the messages that aren't marked, in their order
abbrev pub asked_for_left : Mode → StoreState → List MaildropMessage → List Asked
asked_for_left mode store maildrop = flat_map (asked_for mode store) (left_of maildrop)

-- a message, if it was found
abbrev pub asked_for_found : Mode → StoreState → Option Listed → List Asked
asked_for_found mode store None = []
asked_for_found mode store (Some one) = asked_for mode store one

-- the message of a number, where the argument is one
abbrev pub asked_for_number : Mode → StoreState → List MaildropMessage → Option ℕ → List Asked
asked_for_number mode store maildrop None = []
asked_for_number mode store maildrop (Some number) = asked_for_found mode store (listed_at maildrop number)

-- the message of TOP
abbrev pub asked_for_top : Mode → StoreState → List MaildropMessage → Option TopNumbers → List Asked
asked_for_top mode store maildrop None = []
asked_for_top mode store maildrop (Some numbers) = asked_for_found mode store (listed_at maildrop numbers.number)

-- the rows of TRANSACTION: the messages whose sizes are added up or listed, and the one that is shown
abbrev pub transaction_asks : Mode → List MaildropMessage → StoreState → Keyword → Option (List ℕ) → List Asked
transaction_asks mode maildrop store keyword.Stat None = asked_for_left mode store maildrop
transaction_asks mode maildrop store keyword.List None = asked_for_left mode store maildrop
transaction_asks mode maildrop store keyword.List (Some number) = asked_for_number mode store maildrop (number_of number)
transaction_asks mode maildrop store keyword.Retr (Some number) = asked_for_number mode store maildrop (number_of number)
transaction_asks mode maildrop store keyword.Top (Some numbers) = asked_for_top mode store maildrop (top_numbers_of numbers)
transaction_asks mode maildrop store keyword argument = []

-- one command
unfoldable pub asked_of : State → StoreState → Command → List Asked
asked_of greeted store command = []
asked_of (authorization mode user) store command = []
asked_of (transaction mode maildrop) store command = transaction_asks mode maildrop store command.keyword command.argument
asked_of ended store command = []
