-- What is due first at octets, told by a function.
use Rattle.std.specs.Prelude.{◌≡◌, ℕ, ◌+◌, Bool, List, length, Option, None, Some}
use Rattle.imap_grammar.specs.Events.{NothingBefore, Tells}
use Rattle.imap_grammar.specs.declared.event.Event.{Event}
use Rattle.imap_grammar.specs.declared.event.Event.TheVariants.{More}

-- an event, and with how many octets it is due
pub record Due : Type 0 where
  pub used : ℕ
  pub event : Event

-- Of these octets after those that were seen this is due first; or nothing is, whatever front of them came.
abbrev pub IsFirstDue : Bool → (seen octets : List ℕ) → Option Due → Type 0
IsFirstDue utf8 seen octets None = NothingBefore utf8 seen octets (length octets + 1)
IsFirstDue utf8 seen octets (Some due) = Tells utf8 seen octets due.used due.event × (due.event ≡ More → ⊥)

-- The function tells what is due first.
abbrev pub ReadsCommands : (Bool → (seen octets : List ℕ) → Option Due) → Type 0
ReadsCommands event_of = (utf8 : Bool) (seen octets : List ℕ) → IsFirstDue utf8 seen octets (event_of utf8 seen octets)
