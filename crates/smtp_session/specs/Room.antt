-- Which messages a store has room for.
use Rattle.std.specs.Prelude.{◌+◌, ◌<◌, ◌≤◌, length}
use Rattle.kept_mail.specs.declared.delivery.Delivery.{Delivery}
use Rattle.kept_mail.specs.declared.limits.TheConstants.{THINGS_MAX}
use Rattle.kept_mail.specs.Records.{recipient_count as waiting_count}
use Rattle.mail_store.specs.StoreState.{StoreState}

-- A store takes a delivery: what is kept of it is no larger than a message may be, and it has room for as many messages, and where
-- there are remote recipients for one more entry of the queue and for them.
pub record IsWithinLimits (store : StoreState) (delivery : Delivery) : Type 0 where
  pub local : 0 < length delivery.local → length delivery.local_octets ≤ store.message_max
  pub remote : 0 < length delivery.remote → length delivery.remote_octets ≤ store.message_max
  pub messages : length store.kept.messages + length delivery.local ≤ THINGS_MAX
  pub entries : 0 < length delivery.remote → length store.kept.entries + 1 ≤ THINGS_MAX
  pub waiting : 0 < length delivery.remote → waiting_count store.kept.entries + length delivery.remote ≤ THINGS_MAX
