-- What is done with the messages of a set, one after the other.
use Rattle.std.specs.Prelude.{◌≡◌, ◌⊎◌, ℕ, Bool, true, false, List, length}
use Rattle.journal_records.specs.declared.records.Record.TheVariants as records
use Rattle.kept_mail.specs.Kept.{Kept, after_record, listed}
use Rattle.mail_store.specs.StoreState.{StoreState}
use Rattle.kept_mail.specs.declared.kept.Listed.{Listed}
use Rattle.session_core.specs.Desks.{stored_date, stored_octets}
use Rattle.imap_grammar.specs.declared.command.Command.{Command}
use Rattle.imap_grammar.specs.declared.command.Command.TheVariants as command
use Rattle.imap_session.specs.Machine.{State, ended}

-- every message has the octets and the date in the one store that it has in the other
pub record ShowsAlike (store other : StoreState) : Type 0 where
  pub octets : (id : ℕ) → stored_octets other id ≡ stored_octets store id
  pub dates : (id : ℕ) → stored_date other id ≡ stored_date store id

-- of a message that was listed so, nothing changed but its flags, and nothing else in the store
pub record HasNewFlags (old new : Kept) (was is : Listed) : Type 0 where
  pub same : is ≡ record was { flags = is.flags }
  pub kept_is : ((new ≡ old) × (is.flags ≡ was.flags)) ⊎ (new ≡ after_record old (records.Flags was.id is.flags))

-- the list is still that of a folder, and the store has what it had but for flags
pub record KeepsListing (old new : StoreState) (were are : List Listed) : Type 0 where
  pub alike : ShowsAlike old new
  pub count : length are ≡ length were
  pub accounts : length new.kept.accounts ≡ length old.kept.accounts
  pub folders : length new.kept.folders ≡ length old.kept.folders
  pub listing : (folder : ℕ) → were ≡ listed old.kept folder → are ≡ listed new.kept folder

-- the command selects a folder, or puts a message into one
abbrev pub selects_or_appends : Command → Bool
selects_or_appends (command.Select written) = true
selects_or_appends (command.Examine written) = true
selects_or_appends (command.Append written flags date in_utf8 octets) = true
selects_or_appends other = false

-- the state after a command that changes none, unless it ends the session
abbrev pub state_left : State → Command → State
state_left state command.Logout = ended
state_left state other = state
