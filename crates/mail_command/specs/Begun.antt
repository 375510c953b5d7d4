-- What is left of the acts that were due where a fault or want of memory broke a call off.
use Rattle.std.specs.Prelude.{◌≡◌, ℕ, List, ◌++◌, true, Option}
use Rattle.journal_records.specs.declared.records.Record.{Record}
use Rattle.kept_mail.specs.Kept.{after_all}
use Rattle.mail_store.specs.Changing.{HoldsFirst, IsStoreOf}
use Rattle.mail_store.specs.Following.{records_of}
use Rattle.mail_store.specs.StoreState.{StoreState}
use Rattle.mail_wire.specs.declared.outside.Fault.{Fault}
use Rattle.mail_wire.specs.declared.outside.Fault.TheVariants as fault

-- Of the octets that were due a prefix was given, and of the changes the store has the first. Where the keeper failed it says so. The keeper
-- opens with the records that it had and the first of those that were due.
pub record HasFirstDone (octets : List ℕ) (due : List (List Record)) (old new : StoreState) (had has : Option (List ℕ)) (met : Fault) (given : List ℕ) : Type 0 where
  pub missing : List ℕ
  pub octets_are : octets ≡ given ++ missing
  pub made : List (List Record)
  pub left : List (List Record)
  pub due_is : due ≡ made ++ left
  pub kept : new.kept ≡ after_all old.kept (records_of made)
  pub noted : met ≡ fault.Keeper → new.failed ≡ true
  pub keeper : (all : List Record) → IsStoreOf old had all → HoldsFirst has all (records_of due)
