use Rattle.kept_mail.specs.Deliveries.{queued}
use Rattle.kept_mail.proofs.BatchLemmas.{marked-some, writable-some, queued-text}
use Rattle.kept_mail.proofs.batches.waiting_of.Goals as goal

pub queued_front-requires-clause-writable : goal.queued_front-requires-clause-writable
queued_front-requires-clause-writable c = writable-some c.in_ok-queued.queued (queued c.args.delivery.now) c.in_ok-queued.ensures c.requires.writable

pub queued_front-requires-clause-mark : goal.queued_front-requires-clause-mark
queued_front-requires-clause-mark c = marked-some c.args.delivery.now c.in_ok-queued.queued c.in_ok-queued.ensures c.requires.mark

pub entry_of-requires : goal.entry_of-requires
entry_of-requires c = marked-some c.args.delivery.now c.in_ok-queued.queued c.in_ok-queued.ensures c.requires.mark

pub returns-clause-front : goal.returns-clause-front
returns-clause-front c = queued-text c.args.delivery.now c.in_ok-queued.queued c.in_ok-front.front c.in_ok-queued.ensures c.in_ok-front.ensures

pub returns-clause-entry : goal.returns-clause-entry
returns-clause-entry c = (c.in_ok-queued.queued, c.in_ok-queued.ensures, c.in_ok-entry.ensures)
