-- The words of the commands.
use Rattle.std.specs.Prelude.{◌≡◌, ◌⊎◌, ℕ, ◌<◌, ◌≤◌, List, [], ◌∷◌, codes, decimal, string_bytes, true, Option, Some, None}
use Rattle.address_grammar.specs.declared.Address.{Address}
use Rattle.setup_command.specs.PlainWords.{is_plain_word}
use Rattle.setup_command.specs.WordForms.{IsAccountByInput, IsAccountCommand, IsDomainCommand, IsHelpCommand}
use Rattle.mail_command.specs.declared.standalone.Standalone.{Standalone}
use Rattle.mail_command.specs.declared.standalone.Standalone.TheVariants as standalone
use Rattle.mail_command.specs.declared.command.Command.{Command}
use Rattle.mail_command.specs.declared.command.Command.TheVariants as command
use Rattle.mail_command.specs.declared.roles.Role.{Role}
use Rattle.mail_command.specs.declared.roles.Role.TheVariants as role
use Rattle.mail_command.specs.declared.tasks.Task.TheVariants as task

-- the one word of the command
abbrev pub IsDowngrade : List (List ℕ) → Type 0
IsDowngrade words = words ≡ codes "downgrade" ∷ []

-- The one word is `check`.
abbrev pub IsCheck : List (List ℕ) → Type 0
IsCheck words = words ≡ codes "check" ∷ []

-- the word of a protocol
abbrev pub role_word : Role → List ℕ
role_word role.Pop = codes "pop"
role_word role.Smtp = codes "smtp"
role_word role.Imap = codes "imap"

-- the one word of the command that serves a session
abbrev pub IsSession : List (List ℕ) → Role → Type 0
IsSession words role = words ≡ role_word role ∷ []

-- a number from 1 up to the greatest, as it is spelled in decimal: without a sign or a leading zero
pub record IsNumberUpTo (max : ℕ) (text : List ℕ) (number : ℕ) : Type 0 where
  pub text_is : text ≡ decimal number
  pub some : 0 < number
  pub bound : number ≤ max

-- `gen`, and how many messages are made
pub record IsGen (words : List (List ℕ)) (number : ℕ) : Type 0 where
  pub text : List ℕ
  pub words_are : words ≡ codes "gen" ∷ text ∷ []
  pub number_is : IsNumberUpTo 100000 text number

-- `relay`, and the host of the next server
pub record IsRelayCommand (words : List (List ℕ)) (host : List ℕ) : Type 0 where
  pub words_are : words ≡ codes "relay" ∷ host ∷ []
  pub plain : is_plain_word host ≡ true

-- `serve`, the word of a protocol, a port, and how many connections are served
pub record IsServeCommand (words : List (List ℕ)) (role : Role) (port connections : ℕ) : Type 0 where
  pub port_text : List ℕ
  pub connections_text : List ℕ
  pub words_are : words ≡ codes "serve" ∷ role_word role ∷ port_text ∷ connections_text ∷ []
  pub port_is : IsNumberUpTo 65535 port_text port
  pub connections_is : IsNumberUpTo 1000000 connections_text connections

-- the words of none
pub record IsNoCommand (words : List (List ℕ)) : Type 0 where
  pub downgrade : ¬ IsDowngrade words
  pub check : ¬ IsCheck words
  pub session : (role : Role) → ¬ IsSession words role
  pub account : (address : Address) (password : List ℕ) → ¬ IsAccountCommand words address password
  pub by_input : (address : Address) → ¬ IsAccountByInput words address
  pub domain : (name : List ℕ) → ¬ IsDomainCommand words name
  pub help : ¬ IsHelpCommand words
  pub gen : (number : ℕ) → ¬ IsGen words number
  pub relay : (host : List ℕ) → ¬ IsRelayCommand words host

-- the words of the commands that open the journal
pub data OpensJournal (words : List (List ℕ)) : Type 0 where
  OfSession : (role : Role) → IsSession words role → OpensJournal words
  OfAccount : (address : Address) (password : List ℕ) → IsAccountCommand words address password → OpensJournal words
  OfDomain : (name : List ℕ) → IsDomainCommand words name → OpensJournal words
  OfRelay : (host : List ℕ) → IsRelayCommand words host → OpensJournal words

-- the words of `account` whose password is the first line of the input
abbrev pub TakesPassword : List (List ℕ) → Type 0
TakesPassword words = (address : Address) × IsAccountByInput words address

-- the words of the commands that open the journal, the one among them that does so once it has taken a password
abbrev pub MayOpenJournal : List (List ℕ) → Type 0
MayOpenJournal words = OpensJournal words ⊎ TakesPassword words

-- the words of a command that leaves the keeper alone
abbrev pub IsStandalone : List (List ℕ) → Standalone → Type 0
IsStandalone words (standalone.Message task.Downgrade) = IsDowngrade words
IsStandalone words (standalone.Message task.Check) = IsCheck words
IsStandalone words (standalone.Gen number) = IsGen words number
IsStandalone words standalone.Help = IsHelpCommand words

-- the command that the words name
abbrev pub Names : List (List ℕ) → Option Command → Type 0
Names words None = IsNoCommand words
Names words (Some (command.Standalone one)) = IsStandalone words one
Names words (Some (command.Session role)) = IsSession words role
Names words (Some (command.Account address password)) = IsAccountCommand words address password
Names words (Some (command.AccountByInput address)) = IsAccountByInput words address
Names words (Some (command.Domain name)) = IsDomainCommand words (string_bytes name)
Names words (Some (command.Relay host)) = IsRelayCommand words (string_bytes host)
