-- The SMTP machine (RFC 5321, 4.1 to 4.3; RFC 6531, 3).
use Rattle.std.specs.Prelude.{ℕ, ◌+◌, ◌++◌, ◌==◌, ◌&&◌, not, List, [], ◌∷◌, Bool, true, false, Option, None, Some, length, codes, nat_lt, nat_le, is_some, sum_by, option_and_then, decimal, if◌then◌else◌}
use Rattle.std.specs.List.{list_any, list_all}
use Rattle.std.specs.Str.{bytes_eq}
use Rattle.mail_wire.specs.Octets.{is_ascii}
use Rattle.address_grammar.specs.declared.Address.{Address}
use Rattle.journal_records.specs.Addresses.{is_same_domain, path_text}
use Rattle.mail_store.specs.Changing.{delivery_refusal}
use Rattle.kept_mail.specs.Deliveries.{delivered, has_large_octets}
use Rattle.kept_mail.specs.Kept.{find_account, is_local, name_of}
use Rattle.mail_store.specs.StoreState.{StoreState}
use Rattle.kept_mail.specs.declared.delivery.Delivery.{Delivery}
use Rattle.journal_records.specs.declared.limits.TheConstants.{TEXT_MAX}
use Rattle.kept_mail.specs.declared.limits.TheConstants.{RECIPIENTS_MAX}
use Rattle.journal_records.specs.declared.records.Record.{Record}
use Rattle.smtp_grammar.specs.declared.command.Verb.{Verb}
use Rattle.smtp_grammar.specs.declared.command.Verb.TheVariants as verb
use Rattle.smtp_grammar.specs.Commands.{PathAndRest, command_of, is_client, path_after, white_words, parameter_of, are_malformed, is_unknown, is_smtputf8, announced}
use Rattle.smtp_session.specs.declared.states.Client.{Client}
use Rattle.smtp_session.specs.declared.states.Envelope.{Envelope}
use Rattle.session_core.specs.Acts.{Act, acts_of}
use Rattle.session_core.specs.Oracles.{Oracles}
use Rattle.session_core.specs.Moments.{Moment}
use Rattle.http_lines.specs.Requests.{is_http_request}
use Rattle.smtp_session.specs.Loops.{is_looping}
use Rattle.smtp_session.specs.Trace.{protocol, return_path, received}

-- ---- states and steps

-- The states of a session (RFC 5321, 4.1.4).
pub data State : Type 0 where
  -- nobody has greeted; the next line is the first of the session, or it isn't
  fresh : (first : Bool) → State
  -- EHLO or HELO was accepted
  greeted : (client : Client) → State
  -- MAIL was accepted, and these recipients
  mail : (client : Client) (envelope : Envelope) → State
  -- DATA was accepted
  collecting : (client : Client) (envelope : Envelope) → State
  -- the session has ended
  ended : State

-- What a command or the end of data does: the changes that it makes of the store, the records of one call each; the lines of its
-- reply, each without its CRLF; and the state after it.
pub record Step : Type 0 where
  pub changes : List (List Record)
  pub reply : List (List ℕ)
  pub state : State

-- its changes, and then its reply
abbrev pub acts_in : Step → List (Act (List ℕ))
acts_in taken = acts_of taken.changes taken.reply

-- a reply, and nothing is changed
abbrev pub answers : List (List ℕ) → State → Step
answers reply state = record { changes = []; reply = reply; state = state }

-- A reply of one line, and nothing is changed.
abbrev pub says : List ℕ → State → Step
says text state = answers (text ∷ []) state

-- A command was done (RFC 5321, 4.2.3).
abbrev pub ok : State → Step
ok state = says (codes "250 2.0.0 ok") state

-- A command whose argument is malformed is answered 501 (RFC 5321, 4.2.3).
abbrev pub bad_argument : State → Step
bad_argument state = says (codes "501 5.5.4 bad argument") state

-- A command that the state doesn't allow is answered 503 (RFC 5321, 4.1.4).
abbrev pub out_of_order : State → Step
out_of_order state = says (codes "503 5.5.1 out of order") state

-- An address that isn't ASCII, in a transaction without SMTPUTF8, is answered 553 (RFC 6531, 3.5).
abbrev pub needs_smtputf8 : State → Step
needs_smtputf8 state = says (codes "553 5.6.7 address needs SMTPUTF8") state

-- A message that is larger than one may be is answered 552 (RFC 1870, 6).
abbrev pub too_large : State → Step
too_large state = says (codes "552 5.3.4 too large") state

-- ---- EHLO and HELO

-- The reply of EHLO: the name of the server, and the extensions that it offers (RFC 5321, 4.1.1.1).
abbrev pub offers : StoreState → List (List ℕ)
offers store = (codes "250-" ++ name_of store.kept) ∷ codes "250-8BITMIME" ∷ (codes "250-SIZE " ++ decimal store.message_max)
    ∷ codes "250-SMTPUTF8" ∷ codes "250 ENHANCEDSTATUSCODES" ∷ []

-- A client by the name that it gave, and by whether it said EHLO.
abbrev pub client_of : List ℕ → Bool → Client
client_of name extended = record { name = name; extended = extended }

-- EHLO, where its argument may be a client's name (RFC 5321, 4.1.1.1).
abbrev pub ehlo_step : State → StoreState → List ℕ → Step
ehlo_step state store name = if is_client name then answers (offers store) (greeted (client_of name true)) else bad_argument state

-- HELO, where its argument may be a client's name (RFC 5321, 4.1.1.1).
abbrev pub helo_step : State → StoreState → List ℕ → Step
helo_step state store name =
    if is_client name then says (codes "250 " ++ name_of store.kept) (greeted (client_of name false)) else bad_argument state

-- ---- paths

-- an address whose text is longer than one may be isn't read
abbrev pub within_limit : Option Address → Option (Option Address)
within_limit path = if nat_le (length (path_text path)) TEXT_MAX then Some path else None

-- What a path says, where its text is within the limit; the null path says no address.
abbrev pub path_read : Oracles → Option PathAndRest → Option (Option Address)
path_read oracles given = option_and_then (λ (g : PathAndRest). option_and_then within_limit (oracles.path_of g.path)) given

-- an address that isn't ASCII is taken with SMTPUTF8 alone
abbrev pub lacks_smtputf8 : Bool → Option Address → Bool
lacks_smtputf8 smtputf8 path = not smtputf8 && not (list_all is_ascii (path_text path))

-- ---- MAIL

-- The parameters after a path.
abbrev pub words_after : Option PathAndRest → List (List ℕ)
words_after None = []
words_after (Some given) = white_words given.rest

-- The envelope of a transaction that begins, without recipients (RFC 5321, 2.3.1).
abbrev pub envelope_of : Option Address → Bool → Envelope
envelope_of path smtputf8 = record { path = path; smtputf8 = smtputf8; local = []; remote = [] }

-- MAIL with this path and these parameters: they are checked, then the transaction begins (RFC 5321, 4.1.1.2).
abbrev pub mail_to : Client → StoreState → Bool → Option Address → List (List ℕ) → Step
mail_to client store smtputf8 path words =
    if are_malformed words then bad_argument (greeted client)
    else if list_any (λ word. is_unknown (parameter_of word)) words then says (codes "555 5.5.4 unknown parameter") (greeted client)
    else if lacks_smtputf8 smtputf8 path then needs_smtputf8 (greeted client)
    else if nat_lt store.message_max (sum_by (λ word. announced (parameter_of word)) words) then too_large (greeted client)
    else says (codes "250 2.1.0 ok") (mail client (envelope_of path smtputf8))

-- MAIL with a path that could be read, or not (RFC 5321, 4.1.1.2).
abbrev pub mail_by : Client → StoreState → Option (Option Address) → List (List ℕ) → Step
mail_by client store None words = bad_argument (greeted client)
mail_by client store (Some path) words = mail_to client store (list_any (λ word. is_smtputf8 (parameter_of word)) words) path words

-- MAIL, once a client has greeted and where no transaction is open (RFC 5321, 4.1.1.2).
abbrev pub mail_step : Oracles → State → StoreState → List ℕ → Step
mail_step oracles (greeted client) store argument =
    let given = path_after (codes "FROM:") argument in
    mail_by client store (path_read oracles given) (words_after given)
mail_step oracles state store argument = out_of_order state

-- ---- RCPT

-- Addresses of a domain that isn't local are the same where their local parts are equal and their domains are the same.
abbrev pub is_same_remote : Address → Address → Bool
is_same_remote a b = bytes_eq a.local b.local && is_same_domain a.domain b.domain

-- How many recipients an envelope has, local ones and others.
abbrev pub envelope_recipient_count : Envelope → ℕ
envelope_recipient_count envelope = length envelope.local + length envelope.remote

-- A recipient was accepted (RFC 5321, 4.1.1.3).
abbrev pub accepted : State → Step
accepted state = says (codes "250 2.1.5 ok") state

-- a recipient is there already, or is put last where there is room
abbrev pub with_room : Bool → Client → Envelope → Envelope → Step
with_room there client envelope with_one =
    if there then accepted (mail client envelope)
    else if nat_lt (envelope_recipient_count envelope) RECIPIENTS_MAX then accepted (mail client with_one)
    else says (codes "452 4.5.3 too many recipients") (mail client envelope)

-- A recipient of one of the store's domains, who must have an account (RFC 5321, 3.3).
abbrev pub rcpt_local : Client → Envelope → Option ℕ → Step
rcpt_local client envelope None = says (codes "550 5.1.1 no such mailbox") (mail client envelope)
rcpt_local client envelope (Some account) =
    with_room (list_any (λ other. other == account) envelope.local) client envelope (record envelope { local = envelope.local ++ account ∷ [] })

-- A recipient of another domain, to whom the message is to be relayed (RFC 5321, 3.6).
abbrev pub rcpt_remote : Client → Envelope → Address → Step
rcpt_remote client envelope address =
    with_room (list_any (λ other. is_same_remote other address) envelope.remote) client envelope (record envelope { remote = envelope.remote ++ address ∷ [] })

-- RCPT with a path that could be read, or not; its address is of one of the store's domains, or of another (RFC 5321, 4.1.1.3).
abbrev pub rcpt_to : Oracles → Client → Envelope → StoreState → Option (Option Address) → Step
rcpt_to oracles client envelope store None = bad_argument (mail client envelope)
rcpt_to oracles client envelope store (Some None) = bad_argument (mail client envelope)
rcpt_to oracles client envelope store (Some (Some address)) =
    if lacks_smtputf8 envelope.smtputf8 (Some address) then needs_smtputf8 (mail client envelope)
    else if is_local store.kept address.domain then rcpt_local client envelope (find_account oracles.path_of store.kept address)
    else rcpt_remote client envelope address

-- without parameters
abbrev pub alone : Option PathAndRest → Option PathAndRest
alone None = None
alone (Some given) = if length (white_words given.rest) == 0 then Some given else None

-- RCPT, in a transaction (RFC 5321, 4.1.1.3).
abbrev pub rcpt_step : Oracles → State → StoreState → List ℕ → Step
rcpt_step oracles (mail client envelope) store argument =
    rcpt_to oracles client envelope store (path_read oracles (alone (path_after (codes "TO:") argument)))
rcpt_step oracles state store argument = out_of_order state

-- ---- the other commands

-- DATA, in a transaction with a recipient at least (RFC 5321, 4.1.1.4).
abbrev pub data_step : State → Step
data_step (mail client envelope) =
    if envelope_recipient_count envelope == 0 then out_of_order (mail client envelope) else says (codes "354 go ahead") (collecting client envelope)
data_step state = out_of_order state

-- the path and the recipients are forgotten
abbrev pub reset : State → State
reset (mail client envelope) = greeted client
reset state = state

-- a command in a state that reads lines
unfoldable pub step : Oracles → State → StoreState → Verb → List ℕ → Step
step oracles state store verb.Ehlo argument = ehlo_step state store argument
step oracles state store verb.Helo argument = helo_step state store argument
step oracles state store verb.Mail argument = mail_step oracles state store argument
step oracles state store verb.Rcpt argument = rcpt_step oracles state store argument
step oracles state store verb.Data argument = data_step state
step oracles state store verb.Rset argument = ok (reset state)
step oracles state store verb.Noop argument = ok state
step oracles state store verb.Vrfy argument = says (codes "252 2.5.0 send and see") state
step oracles state store verb.Quit argument = says (codes "221 2.0.0 bye") ended
step oracles state store verb.Other argument = says (codes "500 5.5.2 unknown command") state

-- ---- lines

-- the next line is the first of the session
abbrev pub awaits_first : State → Bool
awaits_first (fresh first) = first
awaits_first state = false

-- a line was taken
abbrev pub past_first : State → State
past_first (fresh first) = fresh false
past_first state = state

-- An HTTP request is no mail: a client that begins with one is answered 500, and nothing that it sends after it is read.
abbrev pub request_refused : Step
request_refused = says (codes "500 5.5.2 syntax error") ended

-- A whole line, with its CRLF: its command, but where the session begins with an HTTP request.
unfoldable pub line_step : Oracles → State → StoreState → List ℕ → Step
line_step oracles state store line =
    if awaits_first state && is_http_request line then request_refused
    else step oracles (past_first state) store (command_of line).verb (command_of line).argument

-- ---- the end of the data

-- the field that tells where the message came from
abbrev pub trace : StoreState → Client → Envelope → Moment → List ℕ
trace store client envelope moment = received client.name (name_of store.kept) (protocol envelope.smtputf8 client.extended) moment.date

-- What is kept, with these marks: for local accounts with the path, for the queue without it.
abbrev pub delivery_with : (local_mark remote_mark : ℕ) → StoreState → Client → Envelope → Moment → List ℕ → Delivery
delivery_with local_mark remote_mark store client envelope moment octets = record {
  path = envelope.path;
  local = envelope.local;
  local_octets = return_path envelope.path ++ (trace store client envelope moment ++ octets);
  local_mark = local_mark;
  remote = envelope.remote;
  remote_octets = trace store client envelope moment ++ octets;
  remote_mark = remote_mark;
  date = moment.internal;
}

-- What is kept, with the marks of its octets.
abbrev pub delivery_of : Oracles → StoreState → Client → Envelope → Moment → List ℕ → Delivery
delivery_of oracles store client envelope moment octets =
    let remote = trace store client envelope moment ++ octets in
    delivery_with (oracles.mark_of (return_path envelope.path ++ remote)) (oracles.mark_of remote) store client envelope moment octets

-- Data that would be kept too large are refused before those that are no message, and these before a message that goes in a circle
-- (RFC 5321, 6.3). A store that would pass another limit has the reply of the first.
abbrev pub end_by : Bool → Bool → StoreState → Client → Delivery → Step
end_by is_message loops store client delivery =
    if has_large_octets store.message_max delivery then too_large (greeted client)
    else if not is_message then says (codes "554 5.6.0 not a message") (greeted client)
    else if loops then says (codes "554 5.4.6 routing loop") (greeted client)
    else if is_some (delivery_refusal store delivery) then too_large (greeted client)
    else record { changes = delivered store.kept delivery ∷ []; reply = codes "250 2.0.0 stored" ∷ []; state = greeted client }

-- The end of the data: the message is stored and queued, or it is refused (RFC 5321, 4.1.1.4).
abbrev pub end_data : Oracles → StoreState → Client → Envelope → Moment → List ℕ → Step
end_data oracles store client envelope moment octets =
    end_by (oracles.has_tree octets) (is_looping octets) store client (delivery_of oracles store client envelope moment octets)
