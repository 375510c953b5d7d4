-- What a call that opens the journal of a keeper does to its wire and its keeper, by its status.
use Rattle.std.specs.Prelude.{◌≡◌, ℕ, ◌≤◌, ◌⊎◌, List, ◌++◌, codes, decimal, Option, IfSome, IsTrue}
use Rattle.mail_wire.specs.Lines.{crlf}
use Rattle.mail_wire.specs.WireState.{WireState}
use Rattle.mail_wire.specs.KeeperState.{KeeperState}
use Rattle.mail_wire.specs.Causes.{Rose}
use Rattle.mail_store.specs.declared.opening.OpenFault.{OpenFault}
use Rattle.mail_store.specs.declared.opening.OpenFault.TheVariants as faults
use Rattle.journal_records.specs.declared.records.Record.{Record}
use Rattle.journal_records.specs.declared.versions.Version.{Version}
use Rattle.mail_store.specs.Answers.{IsFold, OpensTo, IsJournalFault}
use Rattle.mail_store.specs.Changing.{HoldsFirst}
use Rattle.mail_store.specs.Following.{records_of}
use Rattle.kept_mail.specs.Kept.{nothing, store_of}
use Rattle.mail_store.specs.Opening.{IsBadAt}
use Rattle.kept_mail.specs.Records.{AreRecords}
use Rattle.journal_records.specs.Spelling.{journal}
use Rattle.mail_store.specs.StoreState.{StoreState}
use Rattle.setup_command.specs.declared.statuses.TheConstants.{WIRE_FAULT, KEEPER_FAULT, WANT_OF_MEMORY, BAD_JOURNAL}

-- a fault of the wire, or want of memory
abbrev pub IsBrokenOff : ℕ → Type 0
IsBrokenOff status = (status ≡ WIRE_FAULT) ⊎ (status ≡ WANT_OF_MEMORY)

-- The store is the fold of the records that the keeper had, and the keeper holds them and nothing more.
pub record OpensStore (old new : Option (List ℕ)) (store : StoreState) : Type 0 where
  pub fold : IsFold store.kept
  pub opens : IfSome old (λ octets. OpensTo octets new store.kept)

-- the keeper holds the journal of the store
abbrev pub HoldsStore : Option (List ℕ) → StoreState → Type 0
HoldsStore kept store = IfSome kept (λ octets. (version : Version) × (all : List Record) × AreRecords version nothing all × (octets ≡ journal version all) × (store.kept ≡ store_of all))

-- a text, a place, and the end of the line
abbrev pub place_line : List ℕ → ℕ → List ℕ
place_line text at = text ++ (decimal at ++ crlf)

-- the status and the line that tell why a journal wasn't opened; a fault of the keeper and want of memory have none
abbrev pub IsToldBy : OpenFault → ℕ → List ℕ → Type 0
IsToldBy faults.Keeper status line = ⊥
IsToldBy (faults.BadJournal at) status line = (status ≡ BAD_JOURNAL) × (line ≡ place_line (codes "bad journal at ") at)
IsToldBy faults.Memory status line = ⊥

-- The journal isn't opened: it is bad at a place, and the line tells where.
pub record IsUnopened (old new : Option (List ℕ)) (status : ℕ) (line : List ℕ) : Type 0 where
  pub fault : OpenFault
  pub told : IsToldBy fault status line
  pub is : IfSome old (λ octets. IsJournalFault octets new fault)

-- a fault of the wire, of the keeper, or want of memory
abbrev pub BreaksSessionOff : ℕ → Type 0
BreaksSessionOff status = IsBrokenOff status ⊎ (status ≡ KEEPER_FAULT)

-- The keeper opens with the store's records and the first of those that the changes bring.
pub record HoldsBegun (octets : Option (List ℕ)) (store : StoreState) (due : List (List Record)) : Type 0 where
  pub version : Version
  pub all : List Record
  pub records : AreRecords version nothing all
  pub fold : store.kept ≡ store_of all
  pub holds : HoldsFirst octets all (records_of due)

-- A journal that is bad is answered so, unless the command was broken off.
abbrev pub IsExactJournal : List ℕ → ℕ → Type 0
IsExactJournal octets status = (at : ℕ) → IsBadAt octets at → (status ≡ BAD_JOURNAL) ⊎ BreaksSessionOff status

-- ---- causes

-- No count of faults falls. The wire's fault is told only where its count rose, the keeper's only where its own did, and neither where it tells
-- that it never fails.
pub record HasStatusCause (before now : WireState) (keeper kept : KeeperState) (status : ℕ) : Type 0 where
  pub later : before.faults ≤ now.faults
  pub wire_rose : status ≡ WIRE_FAULT → Rose before.faults now.faults
  pub wire_sure : IsTrue before.never_fails → IsTrue now.never_fails × ¬ (status ≡ WIRE_FAULT)
  pub keeper_later : keeper.faults ≤ kept.faults
  pub keeper_rose : status ≡ KEEPER_FAULT → Rose keeper.faults kept.faults
  pub keeper_sure : IsTrue keeper.never_fails → IsTrue kept.never_fails × ¬ (status ≡ KEEPER_FAULT)
