use Rattle.std.proofs.Common.{◌≡◌, map, take}
use Rattle.std.specs.List.{flat_map}
use Rattle.kept_mail.specs.Deliveries.{copy_for, inboxes_of}
use Rattle.kept_mail.specs.private.Delivering.{fronts_text}
use Rattle.journal_records.specs.Spelling.{record_text}
use Rattle.mail_store.proofs.storing.Store.copy_fronts.Given as goal

abbrev pub invariant-loop-account : goal.invariant-loop-account
invariant-loop-account l =
    fronts_text l.fronts.items l.delivery.local_octets ≡ flat_map record_text (map (copy_for l.delivery.date l.delivery.local_mark l.delivery.local_octets) (inboxes_of l.self.kept (take l.account-index l.account-items)))
