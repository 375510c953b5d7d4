use Rattle.mail_store.proofs.queue.address_of.Goals as goal

pub unreachable-requires : goal.unreachable-requires
unreachable-requires c = (rw c.in-None.is at c.in_ok-address.ensures.none) c.requires.0 c.requires.1
