use Rattle.std.proofs.Common.{refl, get_or}
use Rattle.mail_store.proofs.DeliveryLemmas.{copies-text-step}
use Rattle.mail_store.proofs.storing.Store.copy_fronts.Goals as goal

pub loop-account-preserved : goal.loop-account-preserved
loop-account-preserved c =
    rw c.in_ok-push.ensures.items
    (copies-text-step c.args.delivery.now.date c.args.delivery.now.local_mark c.args.delivery.now.local_octets c.args.self.now.kept c.as_slice-account-items.result.now c.loop-account.account-index
    (get_or c.as_slice-account-items.result.now c.loop-account.account-index 0) c.inbox-folder.result c.loop-account.fronts.items c.in_ok-message_front.field-0 c.loop-account-test.true
    refl c.inbox-folder.ensures.value c.loop-account.invariant (rw (c.as_slice.ensures, c.as_slice-in-loop-account.ensures) at c.in_ok-message_front.ensures))
