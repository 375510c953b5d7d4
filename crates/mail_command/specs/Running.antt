-- What the call that runs a command does to its wire and its keeper, by its status.
use Rattle.std.specs.Prelude.{◌≡◌, ℕ, ◌+◌, ◌≤◌, ◌⊎◌, List, [], ◌++◌, length, codes, Option, IfSome}
use Rattle.mail_wire.specs.declared.outside.Entry.{Entry}
use Rattle.mail_wire.specs.Lines.{crlf}
use Rattle.mail_wire.specs.WireState.{WireState}
use Rattle.mail_wire.specs.Transcript.{IsLawful, taken_of, given_of}
use Rattle.mail_wire.specs.Moves.{Moves, Gives, GivesPrefix}
use Rattle.mail_store.specs.Answers.{LeavesRecords}
use Rattle.mail_store.specs.StoreState.{StoreState}
use Rattle.session_core.specs.Serving.{Instance, IsPrefixOf, ServesLawfully, ServesAll, ServesUpTo, changes_by}
use Rattle.session_core.specs.declared.desk.Limits.{Limits}
use Rattle.session_core.specs.declared.serving.Served.{Served}
use Rattle.session_core.specs.declared.serving.Served.TheVariants as ended_as
use Rattle.setup_command.specs.Running.{IsBrokenOff, OpensStore, HoldsStore, IsUnopened, BreaksSessionOff, HoldsBegun}
use Rattle.mail_command.specs.declared.tasks.Task.{Task}
use Rattle.mail_command.specs.declared.tasks.Task.TheVariants.{Downgrade, Check}
use Rattle.mail_command.specs.declared.standalone.Standalone.{Standalone}
use Rattle.mail_command.specs.declared.standalone.Standalone.TheVariants as standalone
use Rattle.mail_command.specs.declared.generating.Totals.{Totals}
use Rattle.mail_command.specs.Generating.{AreTotals, totals_text}
use Rattle.mail_command.specs.Outcome.{Outcome, message_max}
use Rattle.mail_wire.specs.declared.traffic.TheConstants.{PIECE}

-- ---- words of no command

-- What is given for words that are no command.
abbrev pub words_refused : List ℕ
words_refused = codes "words refused" ++ crlf

-- What is done for words that are no command: they are refused, or that was broken off.
pub data RefusesWords (before now : WireState) (status : ℕ) : Type 0 where
  Told : Gives before now words_refused → status ≡ 4 → RefusesWords before now status
  BrokenOff : GivesPrefix before now words_refused → IsBrokenOff status → RefusesWords before now status

-- ---- `help`

-- a text is given, or the first octets of it where that was broken off
abbrev pub GivesHelp : WireState → WireState → ℕ → Type 0
GivesHelp before now status = (text : List ℕ) × ((Gives before now text × (status ≡ 0)) ⊎ (GivesPrefix before now text × IsBrokenOff status))

-- ---- `downgrade` and `check`

-- The octets that were taken, no more than a piece beyond what a message may have, came to their outcome, and it was given whole.
-- Nothing was given before the last take. Where the wire tells what it had left, the outcome is that of all of it, and all of it
-- was taken, if it isn't more than a message may have.
pub record AnswersAll (task : Task) (before now : WireState) (status : ℕ) : Type 0 where
  pub entries : List Entry
  pub moves : Moves before now entries
  pub quiet : IsLawful (λ taken. []) entries
  pub few : length (taken_of entries) ≤ message_max + PIECE
  pub outcome : Outcome task (taken_of entries) status (given_of entries)
  pub whole : IfSome before.left (λ octets. Outcome task octets status (given_of entries))
  pub all_taken : IfSome before.left (λ octets. length octets ≤ message_max → taken_of entries ≡ octets)

-- The command was broken off: no more was taken than that, nothing was given before the last take, and what was given is a prefix of its outcome's octets.
pub record BreaksOff (task : Task) (before now : WireState) : Type 0 where
  pub entries : List Entry
  pub moves : Moves before now entries
  pub quiet : IsLawful (λ taken. []) entries
  pub few : length (taken_of entries) ≤ message_max + PIECE
  pub begun : (status : ℕ) (given : List ℕ) → Outcome task (taken_of entries) status given → IsPrefixOf (given_of entries) given
  pub whole : IfSome before.left (λ octets. (status : ℕ) (given : List ℕ) → Outcome task octets status given → IsPrefixOf (given_of entries) given)

-- Whatever outcome the octets have that the wire had left, its status is the answer, or the command was broken off.
abbrev pub IsExact : Task → WireState → ℕ → Type 0
IsExact task before result =
    IfSome before.left (λ octets. (status : ℕ) (given : List ℕ) → Outcome task octets status given → (result ≡ status) ⊎ IsBrokenOff result)

-- What a command does that reads one message: by its status it answered all of it, or it was broken off.
pub record RunsTask (task : Task) (before now : WireState) (status : ℕ) : Type 0 where
  pub answers : ¬ IsBrokenOff status → AnswersAll task before now status
  pub broken_off : IsBrokenOff status → BreaksOff task before now
  pub exact : IsExact task before status

-- What `downgrade` does.
abbrev pub RunsDowngrade : WireState → WireState → ℕ → Type 0
RunsDowngrade = RunsTask Downgrade

-- What `check` does.
abbrev pub RunsCheck : WireState → WireState → ℕ → Type 0
RunsCheck = RunsTask Check

-- ---- `gen`

-- the totals of so many messages are given, or that was broken off
pub data RunsGen (number : ℕ) (before now : WireState) (status : ℕ) : Type 0 where
  Told : (totals : Totals) → AreTotals number totals → Gives before now (totals_text number totals) → status ≡ 0 → RunsGen number before now status
  -- in the text
  BrokenOff : (totals : Totals) → AreTotals number totals → GivesPrefix before now (totals_text number totals) → IsBrokenOff status → RunsGen number before now status
  -- before it
  Unmade : Gives before now [] → IsBrokenOff status → RunsGen number before now status

-- ---- all that leave the keeper alone

-- What a command does that leaves the journal alone.
abbrev pub RunsStandalone : Standalone → WireState → WireState → ℕ → Type 0
RunsStandalone (standalone.Message task) = RunsTask task
RunsStandalone (standalone.Gen number) = RunsGen number
RunsStandalone standalone.Help = GivesHelp

-- ---- a session

-- the status of a command whose session ends so
abbrev pub status_of_served : Served → ℕ
status_of_served ended_as.Ended = 0
status_of_served ended_as.WireFault = 1
status_of_served ended_as.KeeperFault = 2
status_of_served ended_as.Memory = 3
status_of_served ended_as.Limit = 6

-- A session was broken off that worked on the store that the keeper's records give.
pub record BreaksInSession (instance : Instance) (limits : Limits) (old new : Option (List ℕ)) (before now : WireState) (status : ℕ) : Type 0 where
  pub store : StoreState
  pub after : StoreState
  pub opened : Option (List ℕ)
  pub served : Served
  pub told : status ≡ status_of_served served
  pub opens : OpensStore old opened store
  pub message_limit : store.message_max ≡ limits.message_max
  pub lawful : ServesLawfully instance store after opened new served limits.session_max before now
  pub holds : IfSome old (λ octets. HoldsBegun new store (changes_by instance store (taken_of lawful.entries)))

-- how far a session's command came that was broken off and ended so
pub data BreaksSession (instance : Instance) (limits : Limits) (old new : Option (List ℕ)) (before now : WireState) (ended : ℕ) : Type 0 where
  -- the journal wasn't opened
  InJournal : Gives before now [] → LeavesRecords old new → BreaksSession instance limits old new before now ended
  -- the line that tells why it can't be
  InLine : (status : ℕ) (line : List ℕ) → IsUnopened old new status line → GivesPrefix before now line → LeavesRecords old new
      → BreaksSession instance limits old new before now ended
  InSession : BreaksInSession instance limits old new before now ended → BreaksSession instance limits old new before now ended

-- What the command of a session does, by its status. It works with these limits, of how many octets a message may have and how many
-- a session may take.
pub data RunsSession (instance : Instance) (limits : Limits) (old new : Option (List ℕ)) (before now : WireState) (status : ℕ) : Type 0 where
  -- the session or its input ended
  Ended : (store after : StoreState) (opened : Option (List ℕ)) → OpensStore old opened store → store.message_max ≡ limits.message_max
      → ServesAll instance store after opened new limits.session_max before now → HoldsStore new after → status ≡ 0 → RunsSession instance limits old new before now status
  -- as many octets were taken as a session may take, and it hadn't ended
  Limit : (store after : StoreState) (opened : Option (List ℕ)) → OpensStore old opened store → store.message_max ≡ limits.message_max
      → ServesUpTo instance store after opened new limits.session_max before now → HoldsStore new after → status ≡ 6 → RunsSession instance limits old new before now status
  -- the journal was told to be bad
  Unopened : (line : List ℕ) → IsUnopened old new status line → Gives before now line → RunsSession instance limits old new before now status
  -- it was broken off
  Broken : BreaksSessionOff status → BreaksSession instance limits old new before now status → RunsSession instance limits old new before now status
