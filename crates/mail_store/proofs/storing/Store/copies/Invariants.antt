use Rattle.std.proofs.Common.{◌≡◌, map, take}
use Rattle.kept_mail.specs.Deliveries.{inboxes_of}
use Rattle.kept_mail.specs.private.Delivering.{copied}
use Rattle.mail_store.proofs.storing.Store.copies.Given as goal

abbrev pub invariant-loop-account : goal.invariant-loop-account
invariant-loop-account l = l.copies.items ≡ map (copied l.delivery.date l.delivery.local_octets) (inboxes_of l.self.kept (take l.account-index l.account-items))
