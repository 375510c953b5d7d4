-- Which commands may change the store, and how each is answered (RFC 3501, 2.2.2 and 6.4.5).
use Rattle.std.specs.Prelude.{◌≡◌, ◌++◌, ℕ, Bool, true, false, List, [], ◌∷◌}
use Rattle.mail_store.specs.StoreState.{StoreState}
use Rattle.session_core.specs.Acts.{Act}
use Rattle.session_core.specs.Desks.{stored_octets}
use Rattle.surrogate_cache.specs.Caching.{Asked}
use Rattle.imap_grammar.specs.declared.command.Command.{Command}
use Rattle.imap_grammar.specs.declared.command.Command.TheVariants as command
use Rattle.imap_session.specs.Machine.{Numbered, Step, reply, tagged}
use Rattle.imap_session.specs.Replies.{ReplyPart}

-- the command puts something into the store that wasn't there, a folder or a message
abbrev pub adds_to_store : Command → Bool
adds_to_store (command.Create written) = true
adds_to_store (command.Append written flags date in_utf8 octets) = true
adds_to_store other = false

-- The command may change the store: it adds to it, or changes messages of the selected folder or takes them out.
abbrev pub changes_store : Command → Bool
changes_store (command.Create written) = true
changes_store (command.Append written flags date in_utf8 octets) = true
changes_store (command.Fetch by_uid set items) = true
changes_store (command.Store by_uid set op silent flags) = true
changes_store command.Expunge = true
changes_store command.Close = true
changes_store other = false

-- The command is FETCH, which tells of messages (RFC 3501, 6.4.5).
abbrev pub is_fetch : Command → Bool
is_fetch (command.Fetch by_uid set items) = true
is_fetch other = false

-- what is asked for of a message that is told
abbrev pub asked_as : StoreState → Numbered → Asked
asked_as store one = record { id = one.listed.id; octets = stored_octets store one.listed.id }

-- the last act of the step is the line with the command's tag
abbrev pub EndsTagged : (tag : List ℕ) → Step → Type 0
EndsTagged tag taken = (before : List (Act ReplyPart)) × (words : List ℕ) × (taken.acts ≡ before ++ reply (tagged tag words ∷ []))
