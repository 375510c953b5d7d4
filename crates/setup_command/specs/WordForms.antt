-- The words of the commands that add to a store, and of `help`. A mailbox is that of RFC 5321, 4.1.2, and a domain has a form in A-labels (RFC 5891).
use Rattle.std.specs.Prelude.{◌≡◌, ◌≢◌, ℕ, ◌≤◌, List, [], ◌∷◌, length, codes, true, Option, Some, None}
use Rattle.ace_domains.specs.Domains.{normal_form}
use Rattle.address_grammar.specs.declared.Address.{Address}
use Rattle.address_grammar.specs.Addresses.{address_text}
use Rattle.journal_records.specs.Addresses.{IsTextOfAddress}
use Rattle.journal_records.specs.declared.limits.TheConstants.{TEXT_MAX}
use Rattle.setup_command.specs.PlainWords.{is_plain_word}

-- It is the text of an address whose domain has a normal form, and whose own text is within the limit.
pub record IsAccountText (text : List ℕ) (address : Address) : Type 0 where
  pub is_text : IsTextOfAddress text address
  pub form : normal_form address.domain ≢ None
  pub short : length (address_text address) ≤ TEXT_MAX

-- `account`, such a text, and a password
pub record IsAccountCommand (words : List (List ℕ)) (address : Address) (password : List ℕ) : Type 0 where
  pub text : List ℕ
  pub words_are : words ≡ codes "account" ∷ text ∷ password ∷ []
  pub plain_text : is_plain_word text ≡ true
  pub plain_password : is_plain_word password ≡ true
  pub says : IsAccountText text address
  pub short_password : length password ≤ TEXT_MAX

-- `account` and such a text alone: the password is the first line of the input
pub record IsAccountByInput (words : List (List ℕ)) (address : Address) : Type 0 where
  pub text : List ℕ
  pub words_are : words ≡ codes "account" ∷ text ∷ []
  pub plain_text : is_plain_word text ≡ true
  pub says : IsAccountText text address

-- what the words of `account` say, by the password where they have one
abbrev pub SaysAccount : List (List ℕ) → Address → Option (List ℕ) → Type 0
SaysAccount words address None = IsAccountByInput words address
SaysAccount words address (Some password) = IsAccountCommand words address password

-- `domain` and a domain
pub record IsDomainCommand (words : List (List ℕ)) (name : List ℕ) : Type 0 where
  pub words_are : words ≡ codes "domain" ∷ name ∷ []
  pub plain : is_plain_word name ≡ true
  pub form : normal_form name ≢ None

-- The one word is `help`.
abbrev pub IsHelpCommand : List (List ℕ) → Type 0
IsHelpCommand words = words ≡ codes "help" ∷ []
