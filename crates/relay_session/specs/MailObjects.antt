-- The queue as mail objects.
use Rattle.std.specs.Prelude.{◌≡◌, ℕ, List, [], Some, map, slice_get}
use Rattle.std.specs.List.{AllZip}
use Rattle.std.specs.Option.{option_map_or}
use Rattle.address_grammar.specs.declared.Address.{Address}
use Rattle.mime_tree.specs.declared.entity.Entity.{Entity as MimeEntity}
use Rattle.mime_tree.specs.Tree.{HasTree}
use Rattle.kept_mail.specs.declared.kept.Entry.{Entry}
use Rattle.kept_mail.specs.Kept.{Kept}
use Rattle.mail_store.specs.declared.queue.Queued.{Queued}
use Rattle.mail_store.specs.declared.queue.Unsettled.{Unsettled}
use Rattle.mail_store.specs.Queue.{IsQueue}
use Rattle.relay_choice.specs.MailObjects.{mail_object_of}
use Rattle.relay_choice.specs.declared.mail_objects.MailObject.{MailObject}

-- the addresses of recipients who wait
abbrev pub addresses_of : List Unsettled → List Address
addresses_of unsettled = map (λ (one : Unsettled). one.address) unsettled

-- the mail object of an entry that is told of: its path, those who wait, and what its octets ask for
pub record IsMailObjectAt (kept : Kept) (queued : Queued) (mail_object : MailObject) : Type 0 where
  pub entry : Entry
  pub there : slice_get kept.entries queued.entry ≡ Some entry
  pub entities : List MimeEntity
  pub tree : HasTree entry.octets entities
  pub is : mail_object ≡ mail_object_of queued.path (addresses_of queued.unsettled) entry.octets entities

-- What waits in the queue, and the mail objects that it makes, both in order.
pub record Mailbag (kept : Kept) : Type 0 where
  pub queue : List Queued
  pub is_queue : IsQueue kept.entries queue
  pub mail_objects : List MailObject
  pub are_mail_objects : AllZip (IsMailObjectAt kept) queue mail_objects

-- the octets of an entry
abbrev pub entry_octets : Kept → (number : ℕ) → List ℕ
entry_octets kept number = option_map_or (λ (entry : Entry). entry.octets) (slice_get kept.entries number) []

-- the messages of a queue, in order
abbrev pub messages_of : Kept → List Queued → List (List ℕ)
messages_of kept queue = map (λ (queued : Queued). entry_octets kept queued.entry) queue
