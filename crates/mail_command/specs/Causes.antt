-- Which words have which status, and that where nothing failed only want of memory breaks a command or a session off.
use Rattle.std.specs.Prelude.{◌≡◌, ◌⊎◌, ℕ, ◌<◌, ◌≤◌, List, length, Some}
use Rattle.address_grammar.specs.declared.Address.{Address}
use Rattle.mail_wire.specs.Causes.{Rose}
use Rattle.mail_wire.specs.KeeperState.{KeeperState}
use Rattle.mail_wire.specs.WireState.{WireState}
use Rattle.session_core.specs.Around.{Around}
use Rattle.session_core.specs.declared.serving.Served.{Served}
use Rattle.session_core.specs.declared.serving.Served.TheVariants as ended_as
use Rattle.setup_command.specs.Running.{BreaksSessionOff}
use Rattle.setup_command.specs.WordForms.{IsAccountCommand, IsDomainCommand}
use Rattle.setup_command.specs.declared.statuses.TheConstants.{KEEPER_FAULT, WANT_OF_MEMORY, WORDS_REFUSED, BAD_JOURNAL, LIMIT_REACHED, MESSAGE_REFUSED, LEFT_QUEUED, ADDING_REFUSED}
use Rattle.mail_command.specs.Words.{IsCheck, IsDowngrade, IsNoCommand, IsRelayCommand, IsSession, MayOpenJournal, TakesPassword}
use Rattle.mail_command.specs.declared.roles.Role.{Role}

-- the words of `account`, with a password or without, or of `domain`
abbrev pub IsAdding : List (List ℕ) → Type 0
IsAdding words = ((address : Address) × (password : List ℕ) × IsAccountCommand words address password) ⊎ (((name : List ℕ) × IsDomainCommand words name) ⊎ TakesPassword words)

-- A status comes only for words of a command that may end so.
pub record HasStatusWords (words : List (List ℕ)) (status : ℕ) : Type 0 where
  pub keeper : status ≡ KEEPER_FAULT → MayOpenJournal words
  pub refused : status ≡ WORDS_REFUSED → IsNoCommand words ⊎ TakesPassword words
  pub journal : status ≡ BAD_JOURNAL → MayOpenJournal words
  pub limit : status ≡ LIMIT_REACHED → (role : Role) × IsSession words role
  pub message : status ≡ MESSAGE_REFUSED → IsDowngrade words ⊎ IsCheck words
  pub left : status ≡ LEFT_QUEUED → (host : List ℕ) × IsRelayCommand words host
  pub adding : status ≡ ADDING_REFUSED → IsAdding words
  pub known : status ≤ ADDING_REFUSED

-- Where neither the wire nor the keeper failed, nothing but want of memory breaks a command off.
abbrev pub IsCompleteRun : (before now : WireState) (keeper kept : KeeperState) (status : ℕ) → Type 0
IsCompleteRun before now keeper kept status =
    ¬ Rose before.faults now.faults → ¬ Rose keeper.faults kept.faults → BreaksSessionOff status → status ≡ WANT_OF_MEMORY

-- Where neither failed, and less is left than a session may take, it ends, unless memory was wanting.
abbrev pub IsCompleteSession : (before now : Around) → Served → Type 0
IsCompleteSession before now served =
    ¬ Rose before.wire.faults now.wire.faults → ¬ Rose before.keeper.faults now.keeper.faults
    → (octets : List ℕ) → before.wire.left ≡ Some octets → length octets < before.desk.limits.session_max
    → (served ≡ ended_as.Ended) ⊎ (served ≡ ended_as.Memory)
