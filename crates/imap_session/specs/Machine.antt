-- The IMAP machine (RFC 3501, 3, 6, 7 and 9; RFC 5161, 3.1; RFC 6855, 3 and 4).
use Rattle.std.specs.Prelude.{ℕ, Bool, true, false, ◌+◌, ◌==◌, ◌++◌, ◌&&◌, ◌||◌, not, nat_le, nat_lt, List, [], ◌∷◌, Option, None, Some, length, codes, map, filter, slice_get, count_by, is_some, option_and_then, if◌then◌else◌}
use Rattle.std.specs.Fmt.{decimal}
use Rattle.std.specs.List.{flat_map, list_any, list_all}
use Rattle.std.specs.Option.{option_map_or}
use Rattle.std.specs.Str.{chars, is_utf8}
use Rattle.mail_wire.specs.Characters.{carriage_return, percent, asterisk}
use Rattle.mail_wire.specs.Lines.{crlf, is_crlf}
use Rattle.mail_wire.specs.Octets.{same_name}
use Rattle.unicode_normalization.specs.Forms.{is_nfc}
use Rattle.std.specs.Char.{is_control}
use Rattle.journal_records.specs.Grammar.{kept_name}
use Rattle.journal_records.specs.declared.limits.TheConstants.{NAME_MAX}
use Rattle.journal_records.specs.declared.records.Record.{Record}
use Rattle.journal_records.specs.declared.records.Record.TheVariants as records
use Rattle.kept_mail.specs.declared.kept.Listed.{Listed}
use Rattle.mail_store.specs.declared.changing.StoreFault.{StoreFault}
use Rattle.mail_store.specs.declared.changing.StoreFault.TheVariants as refusal
use Rattle.mail_store.specs.Changing.{append_refusal, expunged, folder_refusal}
use Rattle.kept_mail.specs.Kept.{Kept, after_record, find_folder, folder_names, kept_folder_name, listed, logged_in, uid_next}
use Rattle.mail_store.specs.StoreState.{StoreState}
use Rattle.surrogate_cache.specs.Served.{Mode, legacy, enabled, is_enabled}
use Rattle.session_core.specs.Acts.{Act, asking, gives, changes}
use Rattle.session_core.specs.Oracles.{Oracles}
use Rattle.imap_grammar.specs.declared.command.Set.{Set}
use Rattle.imap_grammar.specs.declared.command.StatusItem.{StatusItem}
use Rattle.imap_grammar.specs.declared.command.StatusItem.TheVariants as status
use Rattle.imap_grammar.specs.declared.command.StoreOp.{StoreOp}
use Rattle.imap_grammar.specs.declared.command.StoreOp.TheVariants.{Add}
use Rattle.imap_grammar.specs.declared.command.FetchItem.{FetchItem}
use Rattle.imap_grammar.specs.declared.command.FetchItem.TheVariants as item
use Rattle.imap_grammar.specs.declared.command.Command.{Command}
use Rattle.imap_grammar.specs.declared.command.Command.TheVariants as command
use Rattle.imap_mailboxes.specs.Flags.{flags_text, has_flag, stored_flags}
use Rattle.imap_mailboxes.specs.Names.{shown_name}
use Rattle.imap_mailboxes.specs.Patterns.{is_match}
use Rattle.imap_mailboxes.specs.Sets.{chosen_places, is_refused}
use Rattle.imap_session.specs.Items.{asked_of, is_flags, is_uid, item_parts, sets_seen}
use Rattle.imap_session.specs.Replies.{ReplyPart, text, name}

-- ---- states and steps

-- the folder that is selected, of an account, in a session of a mode; EXAMINE opens it as read only (RFC 3501, 3.3 and 6.3.2)
pub record Selection : Type 0 where
  pub mode : Mode
  pub account : ℕ
  pub folder : ℕ
  pub read_only : Bool

-- A session that isn't authenticated is legacy.
pub data State : Type 0 where
  not_authenticated : State
  authenticated : (mode : Mode) (account : ℕ) → State
  selected : (selection : Selection) → State
  ended : State

-- what the step of a command depends on beside the state: the oracles, the date of the moment, the command's tag, and the store
pub record Context : Type 0 where
  pub oracles : Oracles
  pub now : List ℕ
  pub tag : List ℕ
  pub store : StoreState

-- The context of a command with this tag.
abbrev pub context_of : Oracles → (now tag : List ℕ) → StoreState → Context
context_of oracles now tag store = record { oracles = oracles; now = now; tag = tag; store = store }

-- what a command does, in order, and the state after it
pub record Step : Type 0 where
  pub acts : List (Act ReplyPart)
  pub state : State

-- ---- replies

-- A line of a reply: the octets and CRLF.
abbrev pub line : List ℕ → ReplyPart
line octets = text (octets ++ crlf)

-- An untagged line: a star, a space and the octets (RFC 3501, 2.2.2).
abbrev pub untagged : List ℕ → ReplyPart
untagged octets = line (codes "* " ++ octets)

-- the line that ends the replies of a command
abbrev pub tagged : (tag words : List ℕ) → ReplyPart
tagged tag words = line (tag ++ (codes " " ++ words))

-- The acts that give these parts.
abbrev pub reply : List ReplyPart → List (Act ReplyPart)
reply parts = map gives parts

-- A command does these acts, and then comes the line that ends its replies (RFC 3501, 2.2.2).
abbrev pub ends_with : (tag words : List ℕ) → List (Act ReplyPart) → State → Step
ends_with tag words acts state = record { acts = acts ++ reply (tagged tag words ∷ []); state = state }

-- nothing changes: these parts, and the line that ends the replies
abbrev pub answers : (tag words : List ℕ) → List ReplyPart → State → Step
answers tag words parts state = ends_with tag words (reply parts) state

-- Nothing changes, and one tagged line is the reply (RFC 3501, 2.2.2).
abbrev pub says : (tag words : List ℕ) → State → Step
says tag words state = answers tag words [] state

-- The words of a command that was done (RFC 3501, 7.1.1).
abbrev pub done : List ℕ
done = codes "OK done"

-- A command that this state doesn't allow is answered BAD (RFC 3501, 3 and 7.1.3).
abbrev pub out_of_order : (tag : List ℕ) → State → Step
out_of_order tag state = says tag (codes "BAD out of order") state

-- A command that names no folder of the account is answered NO (RFC 3501, 7.1.2).
abbrev pub no_such_folder : (tag : List ℕ) → State → Step
no_such_folder tag state = says tag (codes "NO no such folder") state

-- A command whose set names a message that isn't there is answered BAD (RFC 3501, 7.1.3).
abbrev pub no_such_message : (tag : List ℕ) → State → Step
no_such_message tag state = says tag (codes "BAD no such message") state

-- A change of a folder that EXAMINE opened is answered NO (RFC 3501, 6.3.2).
abbrev pub refused_as_read_only : (tag : List ℕ) → State → Step
refused_as_read_only tag state = says tag (codes "NO read only") state

-- ---- LOGIN and ENABLE

-- LOGIN: the session is authenticated for this account, or answered NO where there is none (RFC 3501, 6.2.3).
abbrev pub login_by : (tag : List ℕ) → Option ℕ → Step
login_by tag None = says tag (codes "NO no") not_authenticated
login_by tag (Some account) = says tag done (authenticated legacy account)

-- ENABLE asks for UTF8=ACCEPT, in any case of its letters (RFC 6855, 3).
abbrev pub asks_utf8 : List (List ℕ) → Bool
asks_utf8 words = list_any (same_name (codes "UTF8=ACCEPT")) words

-- what ENABLE turned on is told, and nothing twice
abbrev pub enable_step : (tag : List ℕ) → Mode → (account : ℕ) → (asked : Bool) → Step
enable_step tag legacy account true = answers tag done (untagged (codes "ENABLED UTF8=ACCEPT") ∷ []) (authenticated enabled account)
enable_step tag mode account asked = answers tag done (untagged (codes "ENABLED") ∷ []) (authenticated mode account)

-- ---- folders

-- the folder that the text names
abbrev pub folder_named : Oracles → Mode → StoreState → (account : ℕ) → List ℕ → Option ℕ
folder_named oracles mode store account written = option_and_then (find_folder store.kept account) (oracles.name_of (is_enabled mode) written)

-- The five flags that a message may have here (RFC 3501, 2.3.2).
abbrev pub all_flags : List ℕ
all_flags = codes "(\\Answered \\Flagged \\Deleted \\Seen \\Draft)"

-- The flags that a client can change: all of them, or none in a folder that EXAMINE opened (RFC 3501, 7.1).
abbrev pub permanent_flags : (read_only : Bool) → List ℕ
permanent_flags read_only = if read_only then codes "()" else all_flags

-- The untagged lines of SELECT and EXAMINE: how many messages there are, and the flags and numbers of the folder (RFC 3501, 6.3.1).
abbrev pub folder_lines : StoreState → (folder : ℕ) → (read_only : Bool) → List ReplyPart
folder_lines store folder read_only =
    untagged (decimal (length (listed store.kept folder)) ++ codes " EXISTS") ∷ untagged (codes "0 RECENT") ∷ untagged (codes "FLAGS " ++ all_flags)
    ∷ untagged (codes "OK [UIDVALIDITY 1] ok") ∷ untagged (codes "OK [UIDNEXT " ++ (decimal (uid_next store.kept folder) ++ codes "] ok"))
    ∷ untagged (codes "OK [PERMANENTFLAGS " ++ (permanent_flags read_only ++ codes "] ok")) ∷ []

-- The words that end SELECT and EXAMINE (RFC 3501, 6.3.1 and 6.3.2).
abbrev pub opened_words : (read_only : Bool) → List ℕ
opened_words read_only = if read_only then codes "OK [READ-ONLY] done" else codes "OK [READ-WRITE] done"

-- SELECT and EXAMINE of a folder; where there is none, none is selected any more (RFC 3501, 6.3.1 and 6.3.2).
abbrev pub select_by : (tag : List ℕ) → Mode → (account : ℕ) → (read_only : Bool) → StoreState → Option ℕ → Step
select_by tag mode account read_only store None = no_such_folder tag (authenticated mode account)
select_by tag mode account read_only store (Some folder) =
    answers tag (opened_words read_only) (folder_lines store folder read_only)
    (selected (record { mode = mode; account = account; folder = folder; read_only = read_only }))

-- a character that a folder's name may have: no control, no `*` and no `%`
abbrev pub may_stand_in_name : ℕ → Bool
may_stand_in_name c = not (is_control c) && (not (c == asterisk) && not (c == percent))

-- the octets may be a folder's name
abbrev pub names_folder : List ℕ → Bool
names_folder folder_name =
    is_utf8 folder_name && (nat_lt 0 (length folder_name) && (nat_le (length folder_name) NAME_MAX && (is_nfc (chars folder_name) && list_all may_stand_in_name (chars folder_name))))

-- CREATE: the folder is made, unless the store refuses it (RFC 3501, 6.3.3).
abbrev pub create_unless : (tag : List ℕ) → State → (account : ℕ) → (kept : List ℕ) → Option StoreFault → Step
create_unless tag state account kept None = ends_with tag done (changes (records.Folder account kept ∷ []) ∷ []) state
create_unless tag state account kept (Some refusal.Exists) = says tag (codes "NO exists") state
create_unless tag state account kept (Some other) = says tag (codes "NO too large") state

-- CREATE of a name: it must be one that a folder may have, without the delimiter at its end (RFC 3501, 6.3.3).
abbrev pub create_by : (tag : List ℕ) → State → (account : ℕ) → StoreState → Option (List ℕ) → Step
create_by tag state account store None = says tag (codes "NO bad name") state
create_by tag state account store (Some given) =
    if names_folder (kept_name given) then create_unless tag state account (kept_name given) (folder_refusal store.kept account given)
    else says tag (codes "NO bad name") state

-- the line of a folder, where its name as it is shown matches
abbrev pub list_line : Mode → (pattern folder_name : List ℕ) → List ReplyPart
list_line mode pattern folder_name =
    if is_match pattern (shown_name (is_enabled mode) folder_name)
    then text (codes "* LIST () NIL ") ∷ name mode folder_name ∷ text crlf ∷ []
    else []

-- an empty pattern asks for the delimiter alone (RFC 3501, 6.3.8)
abbrev pub list_lines : Mode → StoreState → (account : ℕ) → (reference pattern : List ℕ) → List ReplyPart
list_lines mode store account reference [] = untagged (codes "LIST (\\Noselect) NIL \"\"") ∷ []
list_lines mode store account reference (x ∷ pattern) = flat_map (list_line mode (reference ++ x ∷ pattern)) (folder_names store.kept account)

-- The message has the flag Seen (RFC 3501, 2.3.2).
abbrev pub is_seen : Listed → Bool
is_seen one = has_flag one.flags 1

-- How many of the messages lack the flag Seen.
abbrev pub unseen_among : List Listed → ℕ
unseen_among messages = count_by (λ one. not (is_seen one)) messages

-- what is told of an item, of a folder with these messages
abbrev pub status_among : StatusItem → List Listed → (next : ℕ) → List ℕ
status_among status.Messages messages next = codes "MESSAGES " ++ decimal (length messages)
status_among status.Recent messages next = codes "RECENT 0"
status_among status.UidNext messages next = codes "UIDNEXT " ++ decimal next
status_among status.UidValidity messages next = codes "UIDVALIDITY 1"
status_among status.Unseen messages next = codes "UNSEEN " ++ decimal (unseen_among messages)

-- What STATUS tells of an item of a folder (RFC 3501, 6.3.10).
abbrev pub status_text : StoreState → (folder : ℕ) → StatusItem → List ℕ
status_text store folder asked = status_among asked (listed store.kept folder) (uid_next store.kept folder)

-- texts with a space between any two
abbrev pub spaced : List (List ℕ) → List ℕ
spaced [] = []
spaced (one ∷ []) = one
spaced (one ∷ next ∷ others) = one ++ (codes " " ++ spaced (next ∷ others))

-- The line of STATUS: the folder's name, and its items in parentheses (RFC 3501, 7.2.4).
abbrev pub status_line : Mode → StoreState → (folder : ℕ) → List StatusItem → List ReplyPart
status_line mode store folder items =
    text (codes "* STATUS ") ∷ name mode (kept_folder_name store.kept folder) ∷ line (codes " (" ++ (spaced (map (status_text store folder) items) ++ codes ")")) ∷ []

-- STATUS of a folder, if there is one (RFC 3501, 6.3.10).
abbrev pub status_by : (tag : List ℕ) → State → Mode → StoreState → List StatusItem → Option ℕ → Step
status_by tag state mode store items None = no_such_folder tag state
status_by tag state mode store items (Some folder) = answers tag done (status_line mode store folder items) state

-- ---- APPEND

-- the message that APPEND gives, with its flags and its date; its octets came in the form with UTF8 or not (RFC 3501, 6.3.11; RFC 6855, 4)
pub record Append : Type 0 where
  pub flags : ℕ
  pub date : List ℕ
  pub in_utf8 : Bool
  pub octets : List ℕ

-- there are no octets, or CRLF or a CR stands at their end
unfoldable pub is_complete : List ℕ → Bool
is_complete [] = true
is_complete (x ∷ []) = x == carriage_return
is_complete (x ∷ y ∷ []) = is_crlf x y || y == carriage_return
is_complete (x ∷ y ∷ z ∷ rest) = is_complete (y ∷ z ∷ rest)

-- data whose last line lacks its end are completed
abbrev pub completed : List ℕ → List ℕ
completed octets = if is_complete octets then octets else octets ++ crlf

-- the folder that is selected, if one is
abbrev pub opened_in : State → Option ℕ
opened_in (selected selection) = Some selection.folder
opened_in other = None

-- how many messages the selected folder has is told where it is the one that has another now
abbrev pub exists_lines : (opened : Option ℕ) → Kept → (folder : ℕ) → List ReplyPart
exists_lines None kept folder = []
exists_lines (Some opened) kept folder = if opened == folder then untagged (decimal (length (listed kept folder)) ++ codes " EXISTS") ∷ [] else []

-- the record of a message that is put last in a folder, with the mark of its octets
abbrev pub appended : (folder flags mark : ℕ) → (date octets : List ℕ) → Record
appended folder flags mark date octets = records.Message folder flags (Some mark) date octets

-- APPEND: the message is put last in the folder, unless the store refuses it; a session that has the folder open is told how many there are.
abbrev pub append_unless : (tag : List ℕ) → State → Kept → (folder : ℕ) → Record → Option StoreFault → Step
append_unless tag state kept folder made None = ends_with tag done (changes (made ∷ []) ∷ reply (exists_lines (opened_in state) (after_record kept made) folder)) state
append_unless tag state kept folder made (Some other) = says tag (codes "NO too large") state

-- octets without a tree of entities are no message
abbrev pub append_octets : Context → State → (folder : ℕ) → Append → Step
append_octets context state folder append =
    let octets = completed append.octets in
    if context.oracles.has_tree octets
    then append_unless context.tag state context.store.kept folder (appended folder append.flags (context.oracles.mark_of octets) append.date octets) (append_refusal context.store octets)
    else says context.tag (codes "NO not a message") state

-- data in the form with UTF8 are for a session that enabled it (RFC 6855, 4)
abbrev pub append_in : Context → State → Mode → Append → Option ℕ → Step
append_in context state mode append None = no_such_folder context.tag state
append_in context state mode append (Some folder) =
    if append.in_utf8 && not (is_enabled mode) then says context.tag (codes "NO not enabled") state else append_octets context state folder append

-- a date that isn't given is that of the present moment
abbrev pub date_or : (now : List ℕ) → Option (List ℕ) → List ℕ
date_or now None = now
date_or now (Some date) = date

-- ---- messages

-- a message with its number in the folder, from 1 on
pub record Numbered : Type 0 where
  pub number : ℕ
  pub listed : Listed

-- The message at this place with its number, or none.
abbrev pub numbered_at : List Listed → (place : ℕ) → List Numbered
numbered_at messages place = option_map_or (λ one. record { number = place + 1; listed = one } ∷ []) (slice_get messages place) []

-- the messages of a set, in the order of the folder
abbrev pub chosen : (by_uid : Bool) → Set → List Listed → List Numbered
chosen by_uid set messages = flat_map (numbered_at messages) (chosen_places by_uid set messages)

-- acts for each message of a set, unless it names one that isn't there
abbrev pub for_each : (tag : List ℕ) → State → (by_uid : Bool) → Set → List Listed → (Numbered → List (Act ReplyPart)) → Step
for_each tag state by_uid set messages act =
    if is_refused by_uid set messages then no_such_message tag state else ends_with tag done (flat_map act (chosen by_uid set messages)) state

-- The record that gives a message these flags.
abbrev pub flags_change : Listed → ℕ → List Record
flags_change one flags = records.Flags one.id flags ∷ []

-- ---- FETCH

-- what FETCH and UID FETCH say: the messages are numbered by UIDs or not (RFC 3501, 6.4.5 and 6.4.8)
pub record Fetch : Type 0 where
  pub by_uid : Bool
  pub set : Set
  pub items : List FetchItem

-- FETCH as it is done with each message: in a session of a mode, and a folder that may be read only
pub record Fetching : Type 0 where
  pub mode : Mode
  pub read_only : Bool
  pub by_uid : Bool
  pub items : List FetchItem

-- a space before each, but the first where nothing stands before it
abbrev pub parts_following : (others : Bool) → List (List ReplyPart) → List ReplyPart
parts_following others [] = []
parts_following false (parts ∷ more) = parts ++ parts_following true more
parts_following true (parts ∷ more) = text (codes " ") ∷ (parts ++ parts_following true more)

-- UID FETCH tells the UID first where it isn't asked
abbrev pub with_uid : (by_uid : Bool) → List FetchItem → List FetchItem
with_uid by_uid items = if by_uid && not (list_any is_uid items) then item.Uid ∷ items else items

-- flags that change are told last where they aren't asked
abbrev pub with_flags : (changed : Bool) → List FetchItem → List FetchItem
with_flags changed items = if changed && not (list_any is_flags items) then items ++ item.Flags ∷ [] else items

-- the message becomes seen: an item shows it so, the folder may be changed, and it isn't yet
abbrev pub becomes_seen : (read_only : Bool) → List FetchItem → Listed → Bool
becomes_seen read_only items one = not read_only && (list_any sets_seen items && not (is_seen one))

-- The message with the flag Seen, as STORE's `+FLAGS (\Seen)` sets it (RFC 3501, 6.4.6).
abbrev pub seen : Listed → Listed
seen one = record one { flags = stored_flags Add one.flags 1 }

-- The reply of FETCH for a message: its number, and its items in parentheses (RFC 3501, 7.4.2).
abbrev pub fetch_reply : Oracles → Mode → StoreState → (number : ℕ) → Listed → List FetchItem → List ReplyPart
fetch_reply oracles mode store number one items =
    text (codes "* " ++ (decimal number ++ codes " FETCH (")) ∷ parts_following false (map (item_parts oracles mode store one) items) ++ line (codes ")") ∷ []

-- the message is asked for, and then it is told
abbrev pub fetch_told : Oracles → StoreState → Fetching → Numbered → (changed : Bool) → List (Act ReplyPart)
fetch_told oracles store fetching one changed =
    asking (asked_of fetching.mode store fetching.items one.listed.id)
    (reply (fetch_reply oracles fetching.mode store one.number one.listed (with_flags changed (with_uid fetching.by_uid fetching.items))))

-- one message: Seen is set beforehand
abbrev pub fetch_one : Oracles → StoreState → Fetching → Numbered → List (Act ReplyPart)
fetch_one oracles store fetching one =
    if becomes_seen fetching.read_only fetching.items one.listed
    then changes (flags_change one.listed (seen one.listed).flags) ∷ fetch_told oracles store fetching (record one { listed = seen one.listed }) true
    else fetch_told oracles store fetching one false

-- FETCH in the folder that is selected, as it is done with each message.
abbrev pub fetching_in : Selection → Fetch → Fetching
fetching_in selection fetch = record { mode = selection.mode; read_only = selection.read_only; by_uid = fetch.by_uid; items = fetch.items }

-- FETCH of the messages of a set (RFC 3501, 6.4.5).
abbrev pub fetch_step : Context → Selection → Fetch → Step
fetch_step context selection fetch =
    for_each context.tag (selected selection) fetch.by_uid fetch.set (listed context.store.kept selection.folder)
    (fetch_one context.oracles context.store (fetching_in selection fetch))

-- ---- STORE

-- what STORE and UID STORE say: what is done with which flags, and whether the new ones are told (RFC 3501, 6.4.6 and 6.4.8)
pub record Store : Type 0 where
  pub by_uid : Bool
  pub set : Set
  pub op : StoreOp
  pub silent : Bool
  pub flags : ℕ

-- The unique identifier of a message, where the command goes by these (RFC 3501, 6.4.8).
abbrev pub uid_text : (by_uid : Bool) → Listed → List ℕ
uid_text by_uid one = if by_uid then codes "UID " ++ (decimal one.uid ++ codes " ") else []

-- the flags that a message has now, unless they aren't wanted
abbrev pub flags_reply : (by_uid silent : Bool) → Numbered → (flags : ℕ) → List ReplyPart
flags_reply by_uid silent one flags =
    if silent then []
    else untagged (decimal one.number ++ (codes " FETCH (" ++ (uid_text by_uid one.listed ++ (flags_text flags ++ codes ")")))) ∷ []

-- STORE for one message: its flags are changed, and told unless the command is silent (RFC 3501, 6.4.6).
abbrev pub store_one : (by_uid silent : Bool) → StoreOp → (named : ℕ) → Numbered → List (Act ReplyPart)
store_one by_uid silent op named one =
    let flags = stored_flags op one.listed.flags named in
    changes (flags_change one.listed flags) ∷ reply (flags_reply by_uid silent one flags)

-- STORE for the messages of a set; it is refused in a folder that EXAMINE opened (RFC 3501, 6.4.6).
abbrev pub store_step : Context → Selection → Store → Step
store_step context selection store =
    if selection.read_only then refused_as_read_only context.tag (selected selection)
    else for_each context.tag (selected selection) store.by_uid store.set (listed context.store.kept selection.folder)
    (store_one store.by_uid store.silent store.op store.flags)

-- ---- EXPUNGE and CLOSE

-- The message has the flag Deleted (RFC 3501, 2.3.2).
abbrev pub is_deleted : Listed → Bool
is_deleted one = has_flag one.flags 8

-- The numbers that are told: each is the message's number once those before it are gone. This is the number of the first message.
abbrev pub closing_up : (number : ℕ) → List Listed → List ReplyPart
closing_up number [] = []
closing_up number (one ∷ others) =
    if is_deleted one then untagged (decimal number ++ codes " EXPUNGE") ∷ closing_up number others else closing_up (number + 1) others

-- the change that takes them out of the store, by one call, and none where there are none
abbrev pub taken_out : List ℕ → List (Act ReplyPart)
taken_out [] = []
taken_out (id ∷ ids) = changes (expunged (id ∷ ids)) ∷ []

-- The numbers in the store of the messages that have the flag Deleted.
abbrev pub deleted_ids : List Listed → List ℕ
deleted_ids messages = map (λ (one : Listed). one.id) (filter is_deleted messages)

-- EXPUNGE: the messages with the flag Deleted go, and each is told; it is refused in a folder that EXAMINE opened (RFC 3501, 6.4.3).
abbrev pub expunge_step : (tag : List ℕ) → State → (read_only : Bool) → List Listed → Step
expunge_step tag state read_only messages =
    if read_only then refused_as_read_only tag state
    else ends_with tag done (taken_out (deleted_ids messages) ++ reply (closing_up 1 messages)) state

-- CLOSE: the messages with the flag Deleted go without being told, but not where EXAMINE opened the folder (RFC 3501, 6.4.2).
abbrev pub close_step : (tag : List ℕ) → State → (read_only : Bool) → List Listed → Step
close_step tag state read_only messages = ends_with tag done (if read_only then [] else taken_out (deleted_ids messages)) state

-- ---- commands by state

-- CAPABILITY, which every state allows (RFC 3501, 6.1.1).
abbrev pub capability : (tag : List ℕ) → State → Step
capability tag state = answers tag done (untagged (codes "CAPABILITY IMAP4rev1 ENABLE UTF8=ACCEPT") ∷ []) state

-- LOGOUT: BYE, and the session ends (RFC 3501, 6.1.3).
abbrev pub logout : (tag : List ℕ) → Step
logout tag = answers tag done (untagged (codes "BYE bye") ∷ []) ended

-- The commands that every state allows, and what is answered to those that this state doesn't allow (RFC 3501, 6.1).
abbrev pub common_step : (tag : List ℕ) → State → Command → Step
common_step tag state command.Capability = capability tag state
common_step tag state command.Noop = says tag done state
common_step tag state command.Logout = logout tag
common_step tag state command.NotHere = says tag (codes "NO not here") state
common_step tag state other = out_of_order tag state

-- A command before login: LOGIN, or one of every state (RFC 3501, 6.2).
abbrev pub not_authenticated_step : Oracles → (tag : List ℕ) → StoreState → Command → Step
not_authenticated_step oracles tag store (command.Login user password) = login_by tag (logged_in oracles.path_of store.kept user password)
not_authenticated_step oracles tag store other = common_step tag not_authenticated other

-- the commands of every session that is authenticated, whether a folder is selected or not
abbrev pub mailbox_step : Context → State → Mode → (account : ℕ) → Command → Step
mailbox_step context state mode account (command.Select written) =
    select_by context.tag mode account false context.store (folder_named context.oracles mode context.store account written)
mailbox_step context state mode account (command.Examine written) =
    select_by context.tag mode account true context.store (folder_named context.oracles mode context.store account written)
mailbox_step context state mode account (command.Create written) =
    create_by context.tag state account context.store (context.oracles.name_of (is_enabled mode) written)
mailbox_step context state mode account (command.List reference pattern) = answers context.tag done (list_lines mode context.store account reference pattern) state
mailbox_step context state mode account (command.Status written items) =
    status_by context.tag state mode context.store items (folder_named context.oracles mode context.store account written)
mailbox_step context state mode account (command.Append written flags date in_utf8 octets) =
    append_in context state mode (record { flags = flags; date = date_or context.now date; in_utf8 = in_utf8; octets = octets })
    (folder_named context.oracles mode context.store account written)
mailbox_step context state mode account other = common_step context.tag state other

-- A command after login, where no folder is open: ENABLE, one of mailboxes, or one of every state (RFC 3501, 6.3; RFC 5161, 3.1).
abbrev pub authenticated_step : Context → Mode → (account : ℕ) → Command → Step
authenticated_step context mode account (command.Enable words) = enable_step context.tag mode account (asks_utf8 words)
authenticated_step context mode account other = mailbox_step context (authenticated mode account) mode account other

-- A command where a folder is open: one of its messages, of mailboxes, or of every state (RFC 3501, 6.4).
abbrev pub selected_step : Context → Selection → Command → Step
selected_step context selection command.Check = says context.tag done (selected selection)
selected_step context selection (command.Fetch by_uid set items) = fetch_step context selection (record { by_uid = by_uid; set = set; items = items })
selected_step context selection (command.Store by_uid set op silent flags) =
    store_step context selection (record { by_uid = by_uid; set = set; op = op; silent = silent; flags = flags })
selected_step context selection command.Expunge =
    expunge_step context.tag (selected selection) selection.read_only (listed context.store.kept selection.folder)
selected_step context selection command.Close =
    close_step context.tag (authenticated selection.mode selection.account) selection.read_only (listed context.store.kept selection.folder)
selected_step context selection other = mailbox_step context (selected selection) selection.mode selection.account other

-- a command in a state, at a moment of this date; after the end none is read
unfoldable pub step : Oracles → (now : List ℕ) → State → StoreState → (tag : List ℕ) → Command → Step
step oracles now not_authenticated store tag said = not_authenticated_step oracles tag store said
step oracles now (authenticated mode account) store tag said = authenticated_step (context_of oracles now tag store) mode account said
step oracles now (selected selection) store tag said = selected_step (context_of oracles now tag store) selection said
step oracles now ended store tag said = record { acts = []; state = ended }

-- the mode in which commands are read
abbrev pub mode_of : State → Mode
mode_of not_authenticated = legacy
mode_of (authenticated mode account) = mode
mode_of (selected selection) = selection.mode
mode_of ended = legacy

-- the command puts a message into a folder, and gives it no date
abbrev pub lacks_date : Command → Bool
lacks_date (command.Append written flags date in_utf8 octets) = not (is_some date)
lacks_date other = false

-- The command takes the date of the next moment: an APPEND without a date, after login.
abbrev pub takes_moment : State → Command → Bool
takes_moment (authenticated mode account) said = lacks_date said
takes_moment (selected selection) said = lacks_date said
takes_moment state said = false
