-- What comes of APPEND.
use Rattle.std.specs.Prelude.{◌≡◌, ℕ, ◌<◌, Bool, ◌&&◌, not, List, [], ◌∷◌, length, codes, Option, None, Some, if◌then◌else◌}
use Rattle.journal_records.specs.declared.records.Record.{Record}
use Rattle.kept_mail.specs.Kept.{Kept, after_record, listed}
use Rattle.kept_mail.specs.declared.kept.Listed.{Listed}
use Rattle.kept_mail.specs.declared.limits.TheConstants.{THINGS_MAX}
use Rattle.mail_store.specs.Changing.{append_refusal}
use Rattle.mail_store.specs.StoreState.{StoreState}
use Rattle.mail_store.specs.declared.changing.StoreFault.{StoreFault}
use Rattle.surrogate_cache.specs.Served.{Mode, is_enabled}
use Rattle.session_core.specs.Oracles.{Oracles}
use Rattle.session_core.specs.Moments.{Moment, IsTold}
use Rattle.imap_grammar.specs.declared.command.Command.{Command}
use Rattle.imap_grammar.specs.declared.command.Command.TheVariants as command
use Rattle.imap_session.specs.Machine.{Context, State, Step, append_in, appended, completed, done, exists_lines, folder_named}
use Rattle.imap_session.specs.Replies.{ReplyPart}
use Rattle.imap_session.specs.declared.appending.AppendRequest.{AppendRequest}
use Rattle.imap_session.specs.declared.appending.Put.{Put}
use Rattle.imap_session.specs.declared.appending.Put.TheVariants as put

-- the command that says it
abbrev pub command_of : AppendRequest → Command
command_of request = command.Append request.written.now request.flags request.date.now request.in_utf8 request.octets.now

-- its step, with this date
abbrev pub request_step : Context → State → Mode → (account : ℕ) → AppendRequest → (date : List ℕ) → Step
request_step context state mode account request date =
    append_in context state mode (record { flags = request.flags; date = date; in_utf8 = request.in_utf8; octets = request.octets.now })
    (folder_named context.oracles mode context.store account request.written.now)

-- where octets are put, or why they aren't
abbrev pub put_unless : (folder : ℕ) → Option StoreFault → Put
put_unless folder None = put.In folder
put_unless folder (Some other) = put.TooLarge

abbrev pub put_octets : (has_tree : Bool) → StoreState → (folder : ℕ) → (octets : List ℕ) → Put
put_octets has_tree store folder octets = if has_tree then put_unless folder (append_refusal store octets) else put.NoMessage

abbrev pub put_named : Oracles → Mode → StoreState → (in_utf8 : Bool) → (octets : List ℕ) → Option ℕ → Put
put_named oracles mode store in_utf8 octets None = put.NoFolder
put_named oracles mode store in_utf8 octets (Some folder) =
    if in_utf8 && not (is_enabled mode) then put.NotEnabled else put_octets (oracles.has_tree (completed octets)) store folder (completed octets)

abbrev pub put_of : Oracles → Mode → (account : ℕ) → StoreState → AppendRequest → Put
put_of oracles mode account store request = put_named oracles mode store request.in_utf8 request.octets.now (folder_named oracles mode store account request.written.now)

-- the change, if there is one
abbrev pub put_changes : (flags mark : ℕ) → (date octets : List ℕ) → Put → List (List Record)
put_changes flags mark date octets (put.In folder) = (appended folder flags mark date octets ∷ []) ∷ []
put_changes flags mark date octets other = []

-- what is told beside, where the store has this then
abbrev pub put_lines : (opened : Option ℕ) → Kept → Put → List ReplyPart
put_lines opened kept (put.In folder) = exists_lines opened kept folder
put_lines opened kept other = []

-- and what is answered
abbrev pub words_of_put : Put → List ℕ
words_of_put (put.In folder) = done
words_of_put put.NoFolder = codes "NO no such folder"
words_of_put put.NotEnabled = codes "NO not enabled"
words_of_put put.NoMessage = codes "NO not a message"
words_of_put put.TooLarge = codes "NO too large"

-- what the store keeps after a request with these flags, and what it kept before: the message that was put is the last one, or all is as it was
abbrev pub IsAfter : (old new : Kept) → (flags : ℕ) → Put → Type 0
IsAfter old new flags (put.In folder) =
    (mark : ℕ) × (date : List ℕ) × (octets : List ℕ) × (new ≡ after_record old (appended folder flags mark date octets)) × (length old.messages < THINGS_MAX)
IsAfter old new flags other = new ≡ old

-- these were the messages of the opened folder before the request
pub record WereListed (kept : Kept) (opened flags : ℕ) (advance : Put) (messages : List Listed) : Type 0 where
  pub old : Kept
  pub were : messages ≡ listed old opened
  pub following : IsAfter old kept flags advance

-- the date is the given one, or that of a moment that the clock told, which may tell a fixed reading
abbrev pub IsDateFrom : (reading : Option ℕ) → (given : Option (List ℕ)) → (date : List ℕ) → Type 0
IsDateFrom reading None date = (moment : Moment) × IsTold reading moment × (date ≡ moment.internal)
IsDateFrom reading (Some given) date = date ≡ given
