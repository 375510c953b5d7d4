-- What commands do on the messages of the folder that is selected.
use Rattle.std.specs.Prelude.{◌≡◌, ℕ, List}
use Rattle.kept_mail.specs.Kept.{Kept, listed}
use Rattle.kept_mail.specs.declared.kept.Listed.{Listed}
use Rattle.mail_store.specs.StoreState.{StoreState}
use Rattle.imap_session.specs.Session.{KnowsFolder}
use Rattle.imap_session.specs.declared.states.Selected.{Selected}

-- these are the messages of a folder
pub record AreListed (kept : Kept) (messages : List Listed) : Type 0 where
  pub folder : ℕ
  pub are : messages ≡ listed kept folder

-- the store has the account and the folder of the state, whose messages are those of the state
abbrev pub KnowsSelected : StoreState → Selected → Type 0
KnowsSelected store state = KnowsFolder store state.account state.folder state.messages.items
