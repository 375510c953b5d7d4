-- How a store stands for what it keeps.
use Rattle.std.specs.Prelude.{◌≤◌}
use Rattle.kept_mail.specs.declared.limits.TheConstants.{MESSAGE_MAX}
use Rattle.mail_store.specs.declared.storing.Store.TheInside.{Inside}
use Rattle.kept_mail.specs.Kept.{Kept}
use Rattle.kept_mail.specs.private.Names.{number_named}
use Rattle.mail_store.specs.private.Names.{number_hashed}
use Rattle.mail_store.specs.StoreState.{StoreState, Indexes, AreIndexes}

abbrev pub kept_of : Inside → Kept
kept_of a = record {
  accounts = a.accounts.items;
  domains = a.domains.items;
  folders = a.folders.items;
  messages = a.messages.items;
  entries = a.entries.items;
}

abbrev pub indexes_of : Inside → Indexes
indexes_of a = record {
  contents = a.contents.items;
  previous = a.previous.items;
  inboxes = a.inboxes.items;
  names = number_named a.names;
  mailboxes = number_hashed a.mailboxes;
  locals = number_named a.locals;
  recipients = a.recipients;
  open_entries = a.open_entries.entries;
}

abbrev pub state_of : Inside → StoreState
state_of a = record { kept = kept_of a; message_max = a.message_max; failed = a.progress.failed; end = a.progress.end }

-- the indexes are right, and the limit of a message is within what a record can have
pub record IsIndexed (a : Inside) : Type 0 where
  pub indexes : AreIndexes (kept_of a) (indexes_of a)
  pub message_bound : a.message_max ≤ MESSAGE_MAX
