use Rattle.mail_store.proofs.storing.Store.append.Goals as goal

pub returns-clause-uid : goal.returns-clause-uid
returns-clause-uid g c = rw c.in_ok-made.ensures.own at c.put_new_message.ensures.uid
