-- What a command does that adds one record to the store of a keeper.
use Rattle.std.specs.Prelude.{◌≡◌, ℕ, ◌⊎◌, List, [], ◌∷◌, ◌++◌, codes, Option, Some, None, IfSome, Result, Ok, Err}
use Rattle.mail_wire.specs.declared.outside.Fault.{Fault}
use Rattle.mail_wire.specs.declared.outside.Fault.TheVariants as fault
use Rattle.mail_wire.specs.Lines.{crlf}
use Rattle.mail_wire.specs.WireState.{WireState}
use Rattle.mail_wire.specs.Moves.{Gives, GivesPrefix}
use Rattle.mail_store.specs.declared.changing.StoreFault.{StoreFault}
use Rattle.mail_store.specs.declared.changing.StoreFault.TheVariants as faults
use Rattle.mail_store.specs.declared.opening.OpenFault.{OpenFault}
use Rattle.mail_store.specs.declared.opening.OpenFault.TheVariants as opening
use Rattle.journal_records.specs.declared.records.Record.{Record}
use Rattle.mail_store.specs.Answers.{LeavesRecords}
use Rattle.mail_store.specs.Following.{Follows}
use Rattle.kept_mail.specs.Kept.{Kept, store_of}
use Rattle.mail_store.specs.Opening.{HasRecords}
use Rattle.mail_store.specs.StoreState.{StoreState}
use Rattle.setup_command.specs.declared.statuses.TheConstants.{DONE, KEEPER_FAULT, BAD_JOURNAL, ADDING_REFUSED}
use Rattle.setup_command.specs.Running.{OpensStore, HoldsStore, IsUnopened, place_line, BreaksSessionOff, HoldsBegun}

-- the line that tells why a store wasn't changed; a fault of the keeper and want of memory have none
abbrev pub IsRefusedBy : StoreFault → List ℕ → Type 0
IsRefusedBy faults.Exists line = line ≡ codes "exists" ++ crlf
IsRefusedBy faults.NoSuch line = line ≡ codes "no such domain" ++ crlf
IsRefusedBy faults.TooLarge line = line ≡ codes "too large" ++ crlf
IsRefusedBy faults.Memory line = ⊥
IsRefusedBy faults.Keeper line = ⊥

-- ---- `refusal` tells whether a store refuses the record

-- The record was put last in the store that was opened, and in the keeper, and nothing was given.
pub record AddsOne (refusal : Kept → Option StoreFault) (one : Record) (old new : Option (List ℕ)) (before now : WireState) : Type 0 where
  pub store : StoreState
  pub after : StoreState
  pub opened : Option (List ℕ)
  pub opens : OpensStore old opened store
  pub free : refusal store.kept ≡ None
  pub follows : Follows store after opened new (one ∷ [])
  pub holds : HoldsStore new after
  pub quiet : Gives before now []

-- The store that was opened refuses the record, and the line tells why. The keeper holds what was opened.
pub record RefusesOne (refusal : Kept → Option StoreFault) (old new : Option (List ℕ)) (line : List ℕ) : Type 0 where
  pub store : StoreState
  pub opens : OpensStore old new store
  pub holds : HoldsStore new store
  pub why : StoreFault
  pub refused : refusal store.kept ≡ Some why
  pub told : IsRefusedBy why line

-- The command was broken off after the store was opened and before anything was given. The keeper opens with the store's
-- records, and maybe the new one; it failed only in putting it last.
pub record BreaksInAdding (refusal : Kept → Option StoreFault) (one : Record) (old new : Option (List ℕ)) (before now : WireState) (status : ℕ) : Type 0 where
  pub store : StoreState
  pub opened : Option (List ℕ)
  pub opens : OpensStore old opened store
  pub free : status ≡ KEEPER_FAULT → refusal store.kept ≡ None
  pub same : ¬ (status ≡ KEEPER_FAULT) → new ≡ opened
  pub holds : IfSome old (λ octets. HoldsBegun new store ((one ∷ []) ∷ []))
  pub quiet : Gives before now []

-- how far the command came that was broken off and ended so
pub data BreaksAdding (refusal : Kept → Option StoreFault) (one : Record) (old new : Option (List ℕ)) (before now : WireState) (ended : ℕ) : Type 0 where
  -- the journal wasn't opened
  InJournal : Gives before now [] → LeavesRecords old new → BreaksAdding refusal one old new before now ended
  -- the line that tells why it can't be
  InLine : (status : ℕ) (line : List ℕ) → IsUnopened old new status line → GivesPrefix before now line → LeavesRecords old new
      → BreaksAdding refusal one old new before now ended
  InAdding : BreaksInAdding refusal one old new before now ended → BreaksAdding refusal one old new before now ended
  -- the line that tells why the record is refused
  InRefusal : (line : List ℕ) → RefusesOne refusal old new line → GivesPrefix before now line → BreaksAdding refusal one old new before now ended

-- what the command does, by its status
pub data RunsAdding (refusal : Kept → Option StoreFault) (one : Record) (old new : Option (List ℕ)) (before now : WireState) (status : ℕ) : Type 0 where
  Added : AddsOne refusal one old new before now → status ≡ DONE → RunsAdding refusal one old new before now status
  Refused : (line : List ℕ) → RefusesOne refusal old new line → Gives before now line → status ≡ ADDING_REFUSED → RunsAdding refusal one old new before now status
  -- the journal was told to be bad
  Unopened : (line : List ℕ) → IsUnopened old new status line → Gives before now line → RunsAdding refusal one old new before now status
  -- it was broken off
  Broken : BreaksSessionOff status → BreaksAdding refusal one old new before now status → RunsAdding refusal one old new before now status

-- ---- the answer is exact

-- done where the store refuses nothing, and else refused, unless the command was broken off
abbrev pub IsAnswerTo : Option StoreFault → ℕ → Type 0
IsAnswerTo None status = (status ≡ DONE) ⊎ BreaksSessionOff status
IsAnswerTo (Some why) status = (status ≡ ADDING_REFUSED) ⊎ BreaksSessionOff status

-- whatever records the octets have
abbrev pub IsExactAdding : (Kept → Option StoreFault) → List ℕ → ℕ → Type 0
IsExactAdding refusal octets status = (all : List Record) → HasRecords octets all → IsAnswerTo (refusal (store_of all)) status

-- ---- words of the private calls

-- the line was given and this is the status, or that was broken off
abbrev pub TellsLine : WireState → WireState → Result ℕ Fault → ℕ → List ℕ → Type 0
TellsLine before now (Ok answer) status line = Gives before now line × (answer ≡ status)
TellsLine before now (Err fault.Wire) status line = GivesPrefix before now line
TellsLine before now (Err fault.Memory) status line = GivesPrefix before now line
TellsLine before now (Err fault.Keeper) status line = ⊥

-- nothing was told, and this is the fault
abbrev pub TellsNothing : WireState → WireState → Result ℕ Fault → Fault → Type 0
TellsNothing before now result met = (now ≡ before) × (result ≡ Err met)

-- why the journal wasn't opened was told
abbrev pub TellsUnopened : OpenFault → WireState → WireState → Result ℕ Fault → Type 0
TellsUnopened opening.Keeper before now result = TellsNothing before now result fault.Keeper
TellsUnopened (opening.BadJournal at) before now result = TellsLine before now result BAD_JOURNAL (place_line (codes "bad journal at ") at)
TellsUnopened opening.Memory before now result = TellsNothing before now result fault.Memory

-- why the record was refused was told
abbrev pub TellsRefused : StoreFault → WireState → WireState → Result ℕ Fault → Type 0
TellsRefused faults.Exists before now result = TellsLine before now result ADDING_REFUSED (codes "exists" ++ crlf)
TellsRefused faults.NoSuch before now result = TellsLine before now result ADDING_REFUSED (codes "no such domain" ++ crlf)
TellsRefused faults.TooLarge before now result = TellsLine before now result ADDING_REFUSED (codes "too large" ++ crlf)
TellsRefused faults.Memory before now result = TellsNothing before now result fault.Memory
TellsRefused faults.Keeper before now result = TellsNothing before now result fault.Keeper
