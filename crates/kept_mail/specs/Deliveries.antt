-- The records of a delivery (RFC 5321, 4.4), and when they pass a limit.
use Rattle.std.specs.Prelude.{ℕ, List, [], ◌∷◌, ◌++◌, length, map, Bool, ◌||◌, ◌&&◌, ◌==◌, not, nat_lt, Some, unwrap_or, if◌then◌else◌}
use Rattle.address_grammar.specs.Addresses.{address_text}
use Rattle.journal_records.specs.declared.records.Record.{Record}
use Rattle.journal_records.specs.declared.records.Record.TheVariants as records
use Rattle.journal_records.specs.Addresses.{path_text}
use Rattle.kept_mail.specs.declared.delivery.Delivery.{Delivery}
use Rattle.kept_mail.specs.Kept.{Kept, inbox_of}
use Rattle.kept_mail.specs.Records.{are_too_many, recipient_count}

-- a message without flags for a folder, with its mark
abbrev pub copy_for : List ℕ → ℕ → List ℕ → ℕ → Record
copy_for date mark octets folder = records.Message folder 0 (Some mark) date octets

-- The folders INBOX of these accounts.
abbrev pub inboxes_of : Kept → List ℕ → List ℕ
inboxes_of kept accounts = map (λ account. unwrap_or (inbox_of kept account) 0) accounts

-- a message waits for the remote recipients, where there are any
abbrev pub queued : Delivery → List Record
queued delivery =
    if length delivery.remote == 0 then []
    else records.Queue (path_text delivery.path) (map address_text delivery.remote) (Some delivery.remote_mark) delivery.remote_octets ∷ []

-- one message for the INBOX of each local account, in order, and then one for the queue
abbrev pub delivered : Kept → Delivery → List Record
delivered kept delivery = map (copy_for delivery.date delivery.local_mark delivery.local_octets) (inboxes_of kept delivery.local) ++ queued delivery

-- octets that are to be kept are more than the limit
abbrev pub has_large_octets : ℕ → Delivery → Bool
has_large_octets message_max delivery =
    (not (length delivery.local == 0) && nat_lt message_max (length delivery.local_octets))
    || (not (length delivery.remote == 0) && nat_lt message_max (length delivery.remote_octets))

-- messages, entries or recipients of the queue would be too many
abbrev pub has_many_things : Kept → Delivery → Bool
has_many_things kept delivery =
    are_too_many (length kept.messages) (length delivery.local)
    || (not (length delivery.remote == 0)
    && (are_too_many (length kept.entries) 1 || are_too_many (recipient_count kept.entries) (length delivery.remote)))
