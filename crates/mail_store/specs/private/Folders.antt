-- What is put last for a folder; words of the private calls.
use Rattle.std.specs.Prelude.{◌≡◌, ℕ, ◌<◌, List, length, None}
use Rattle.journal_records.specs.Grammar.{IsFolderName}
use Rattle.journal_records.specs.Spelling.{record_text}
use Rattle.journal_records.specs.declared.records.Record.TheVariants as records
use Rattle.kept_mail.specs.declared.kept.Folder.{Folder}
use Rattle.kept_mail.specs.Kept.{first_named}
use Rattle.kept_mail.specs.Records.{HasRoom}
use Rattle.mail_store.specs.StoreState.{StoreState}
use Rattle.kept_mail.specs.private.Names.{folder_key}

-- what is written of a folder that isn't refused, and it
pub record IsNewFolder (store : StoreState) (name : List ℕ) (number : ℕ) (text : List ℕ) (own : Folder) : Type 0 where
  pub known : own.account < length store.kept.accounts
  pub named : IsFolderName own.name
  pub name_is : name ≡ folder_key own.account own.name
  pub number_is : number ≡ length store.kept.folders
  pub text_is : text ≡ record_text (records.Folder own.account own.name)
  pub free : first_named own.account own.name 0 store.kept.folders ≡ None
  pub room : HasRoom (length store.kept.folders)
