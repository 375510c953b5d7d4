-- What the bundle's changing calls do to a store.
use Rattle.std.specs.Prelude.{ℕ, List, [], ◌∷◌, Option, None, Some}
use Rattle.mail_store.specs.Changing.{append_refusal, delivery_refusal, folder_refusal}
use Rattle.kept_mail.specs.Deliveries.{delivered}
use Rattle.mail_store.specs.StoreState.{StoreState}
use Rattle.mail_store.specs.declared.changing.StoreFault.{StoreFault}
use Rattle.mail_store.specs.declared.changing.StoreFault.TheVariants as faults
use Rattle.kept_mail.specs.declared.delivery.Delivery.{Delivery}
use Rattle.journal_records.specs.Grammar.{kept_name}
use Rattle.journal_records.specs.declared.records.Record.{Record}
use Rattle.journal_records.specs.declared.records.Record.TheVariants as records
use Rattle.session_core.specs.declared.outside.Created.{Created}
use Rattle.session_core.specs.declared.outside.Created.TheVariants as created
use Rattle.session_core.specs.declared.outside.Delivered.{Delivered}
use Rattle.session_core.specs.declared.outside.Delivered.TheVariants.{Stored, TooLarge}

-- one call puts these records last, and there is none where there are none
abbrev pub calls_of : List Record → List (List Record)
calls_of [] = []
calls_of (one ∷ others) = (one ∷ others) ∷ []

-- one call, unless it is refused
abbrev pub unless_refused : Option StoreFault → List Record → List (List Record)
unless_refused None all = all ∷ []
unless_refused (Some refusal) all = []

-- the change of a delivery
abbrev pub changes_of : StoreState → Delivery → List (List Record)
changes_of store delivery = unless_refused (delivery_refusal store delivery) (delivered store.kept delivery)

-- the change that puts a message last in a folder
abbrev pub append_changes : StoreState → (folder flags mark : ℕ) → (date octets : List ℕ) → List (List Record)
append_changes store folder flags mark date octets = unless_refused (append_refusal store octets) (records.Message folder flags (Some mark) date octets ∷ [])

-- what came of a message that was refused so, or that wasn't
abbrev pub advance_of : Option StoreFault → Delivered
advance_of None = Stored
advance_of (Some refusal) = TooLarge

-- the change that makes a folder
abbrev pub folder_changes : StoreState → (account : ℕ) → (name : List ℕ) → List (List Record)
folder_changes store account name = unless_refused (folder_refusal store.kept account name) (records.Folder account (kept_name name) ∷ [])

-- what came of a folder that was refused so, or that wasn't
abbrev pub created_of : Option StoreFault → Created
created_of None = created.Made
created_of (Some faults.Exists) = created.Exists
created_of (Some other) = created.TooLarge
