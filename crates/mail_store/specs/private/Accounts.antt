-- What refuses an account, and what is put last for one; words of the private calls.
use Rattle.std.specs.Prelude.{ℕ, ◌≤◌, ◌≡◌, List, length, ◌||◌, not, Option, Some, None, if◌then◌else◌}
use Rattle.mail_store.specs.declared.changing.StoreFault.{StoreFault}
use Rattle.mail_store.specs.declared.changing.StoreFault.TheVariants as faults
use Rattle.mail_store.specs.Changing.{account_refusal}
use Rattle.kept_mail.specs.Records.{are_too_many}
use Rattle.kept_mail.specs.declared.kept.Account.{Account}
use Rattle.address_grammar.specs.declared.Address.{Address}
use Rattle.address_grammar.specs.Addresses.{address_text}
use Rattle.journal_records.specs.declared.limits.TheConstants.{TEXT_MAX}
use Rattle.journal_records.specs.Addresses.{IsSendable, WithPaths, mailbox_key}
use Rattle.journal_records.specs.declared.records.Record.TheVariants as records
use Rattle.journal_records.specs.Spelling.{record_text}
use Rattle.kept_mail.specs.Kept.{Kept, is_local}
use Rattle.mail_store.specs.StoreState.{StoreState}

-- why an account is refused whose mailbox has none
abbrev pub room_refusal : Kept → List ℕ → Option StoreFault
room_refusal kept domain =
    if not (is_local kept domain) then Some faults.NoSuch
    else if are_too_many (length kept.accounts) 1 || are_too_many (length kept.folders) 1 then Some faults.TooLarge
    else None

-- what is written of an account that isn't refused, and it
pub record IsNewAccount (store : StoreState) (name : List ℕ) (number : ℕ) (text : List ℕ) (own : Account) : Type 0 where
  pub address : Address
  pub own_is : own.address ≡ address_text address
  pub sendable : IsSendable address
  pub short : length own.password ≤ TEXT_MAX
  pub name_is : name ≡ mailbox_key address
  pub number_is : number ≡ length store.kept.accounts
  pub text_is : text ≡ record_text (records.Account own.address own.password)
  pub free : WithPaths (λ path_of. account_refusal path_of store.kept address ≡ None)
