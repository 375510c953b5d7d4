-- What comes of an APPEND (RFC 3501, 6.3.11; RFC 6855, 4): its message is put, or one of four causes is told.
use Rattle.std.specs.Prelude.{◌≡◌, ◌⊎◌, ◌<◌, ◌≤◌, ◌+◌, ◌==◌, ◌++◌, ℕ, Bool, true, List, [], ◌∷◌, length, codes, Option, None, Some, if◌then◌else◌}
use Rattle.std.specs.Fmt.{decimal}
use Rattle.journal_records.specs.Stored.{IsStored}
use Rattle.kept_mail.specs.Kept.{Kept, listed}
use Rattle.kept_mail.specs.declared.limits.TheConstants.{THINGS_MAX}
use Rattle.mail_store.specs.StoreState.{StoreState}
use Rattle.surrogate_cache.specs.Served.{Mode, legacy, enabled}
use Rattle.session_core.specs.Acts.{changes}
use Rattle.session_core.specs.Oracles.{Oracles}
use Rattle.imap_grammar.specs.declared.command.Command.{Command}
use Rattle.imap_grammar.specs.declared.command.Command.TheVariants as command
use Rattle.imap_session.specs.Machine.{Context, State, Step, appended, authenticated, completed, date_or, done, ends_with, folder_named, opened_in, reply, says, selected, untagged}
use Rattle.imap_session.specs.Replies.{ReplyPart}

-- what an APPEND says
pub record Said : Type 0 where
  pub written : List ℕ
  pub flags : ℕ
  pub date : Option (List ℕ)
  pub in_utf8 : Bool
  pub octets : List ℕ

-- The APPEND that says this.
abbrev pub append_of : Said → Command
append_of said = command.Append said.written said.flags said.date said.in_utf8 said.octets

-- the session is authenticated, of this mode and for this account, whether a folder is selected or not
abbrev pub IsAuthenticated : Mode → (account : ℕ) → State → Type 0
IsAuthenticated mode account state = (state ≡ authenticated mode account) ⊎ ((folder : ℕ) × (read_only : Bool) × (state ≡ selected (record { mode = mode; account = account; folder = folder; read_only = read_only })))

-- the store takes octets as a message more: they are no larger than a message may be, and it has room for one
pub record HasRoomFor (store : StoreState) (octets : List ℕ) : Type 0 where
  pub size : length octets ≤ store.message_max
  pub messages : length store.kept.messages < THINGS_MAX

-- The message may be put into this folder: it is the one that is named, data in the form with UTF8 come from a session that enabled it, and the
-- octets, the last line complete, have a tree, for which the store has room.
pub record MayBePut (oracles : Oracles) (mode : Mode) (account : ℕ) (store : StoreState) (said : Said) (folder : ℕ) : Type 0 where
  pub named : folder_named oracles mode store account said.written ≡ Some folder
  pub form : said.in_utf8 ≡ true → mode ≡ enabled
  pub tree : IsStored (completed said.octets)
  pub room : HasRoomFor store (completed said.octets)

-- the selected folder has one message more than it had, where this one was put into it
abbrev pub one_more : (opened : Option ℕ) → Kept → (folder : ℕ) → List ReplyPart
one_more None kept folder = []
one_more (Some opened) kept folder = if opened == folder then untagged (decimal (length (listed kept folder) + 1) ++ codes " EXISTS") ∷ [] else []

-- the message is put last in the folder, with the mark of its octets, and then that is told; the state stays
abbrev pub put_step : Oracles → (now tag : List ℕ) → State → StoreState → Said → (folder : ℕ) → Step
put_step oracles now tag state store said folder =
    let octets = completed said.octets in
    let made = appended folder said.flags (oracles.mark_of octets) (date_or now said.date) octets in
    ends_with tag done (changes (made ∷ []) ∷ reply (one_more (opened_in state) store.kept folder)) state

-- why a message isn't put
pub data Cause : Type 0 where
  no_folder : Cause
  not_enabled : Cause
  no_message : Cause
  too_large : Cause

-- The words of the reply for each cause.
abbrev pub words_of_cause : Cause → List ℕ
words_of_cause no_folder = codes "NO no such folder"
words_of_cause not_enabled = codes "NO not enabled"
words_of_cause no_message = codes "NO not a message"
words_of_cause too_large = codes "NO too large"

-- When each cause is one: no folder of this name, UTF8 before it was enabled, octets that are no message, or no room for them.
abbrev pub IsCause : Oracles → Mode → (account : ℕ) → StoreState → Said → Cause → Type 0
IsCause oracles mode account store said no_folder = folder_named oracles mode store account said.written ≡ None
IsCause oracles mode account store said not_enabled = (said.in_utf8 ≡ true) × (mode ≡ legacy)
IsCause oracles mode account store said no_message = ¬ IsStored (completed said.octets)
IsCause oracles mode account store said too_large = ¬ HasRoomFor store (completed said.octets)

-- The message of an APPEND is put last into the folder that it names.
abbrev pub IsPut : Context → State → Mode → (account : ℕ) → Said → Step → Type 0
IsPut context state mode account said taken =
    (folder : ℕ) × (folder_named context.oracles mode context.store account said.written ≡ Some folder)
    × (taken ≡ put_step context.oracles context.now context.tag state context.store said folder)

-- a cause is told and nothing else, and nothing changes
abbrev pub IsRefused : Context → State → Mode → (account : ℕ) → Said → Step → Type 0
IsRefused context state mode account said taken =
    (cause : Cause) × IsCause context.oracles mode account context.store said cause × (taken ≡ says context.tag (words_of_cause cause) state)
