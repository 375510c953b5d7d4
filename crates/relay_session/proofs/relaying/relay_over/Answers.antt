use Rattle.relay_session.proofs.LeftCauses.{relays_nobody, somebody_left}
use Rattle.relay_session.proofs.relaying.relay_over.Goals as goal

pub returns-then-is_empty-clause-relays : goal.returns-then-is_empty-clause-relays
returns-then-is_empty-clause-relays g c =
    rw (c.end.ensures, c.before-then-is_empty.ensures) (relays_nobody c.args.outside.now c.in_ok-queue.queue (rw c.store.ensures at c.in_ok-queue.ensures.queue) (c.is_empty.ensures.0 c.if-is_empty.true))

pub returns-then-is_empty-clause-left : goal.returns-then-is_empty-clause-left
returns-then-is_empty-clause-left g c = somebody_left c.args.outside.now c.args.outside.now _ (returns-then-is_empty-clause-relays g c)

pub relay_mail_objects-requires-clause-queue : goal.relay_mail_objects-requires-clause-queue
relay_mail_objects-requires-clause-queue g c = rw c.as_slice.ensures (rw c.store.ensures at c.in_ok-queue.ensures.queue)

pub relay_mail_objects-requires-clause-few : goal.relay_mail_objects-requires-clause-few
relay_mail_objects-requires-clause-few g c = rw c.as_slice.ensures c.in_ok-queue.ensures.few
