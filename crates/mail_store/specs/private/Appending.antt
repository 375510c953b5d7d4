-- What is put last for a message; words of the private calls.
use Rattle.std.specs.Prelude.{◌≡◌, ℕ, List, ◌++◌, true, Some, None}
use Rattle.journal_records.specs.Spelling.{record_text}
use Rattle.journal_records.specs.declared.records.Record.TheVariants as records
use Rattle.kept_mail.specs.declared.kept.Message.{Message}
use Rattle.mail_store.specs.Changing.{IsAppendable, append_refusal}
use Rattle.mail_store.specs.StoreState.{StoreState}

-- a live message
abbrev pub live_message : ℕ → ℕ → List ℕ → List ℕ → Message
live_message folder flags date octets = record { folder = folder; flags = flags; live = true; date = date; octets = octets }

-- what is written of a message that isn't refused before its octets, and it
pub record IsNewMessage (store : StoreState) (front : List ℕ) (mark : ℕ) (own : Message) : Type 0 where
  pub appendable : IsAppendable store own.folder own.flags mark own.date own.octets
  pub own_is : own ≡ live_message own.folder own.flags own.date own.octets
  pub text : front ++ own.octets ≡ record_text (records.Message own.folder own.flags (Some mark) own.date own.octets)
  pub taken : append_refusal store own.octets ≡ None
