use Rattle.mail_store.proofs.UidLemmas as uids
use Rattle.mail_store.proofs.laws.uids_stay.Goals as goal

pub returns-clause-rise : goal.returns-clause-rise
returns-clause-rise c = uids.uids_rise

pub returns-clause-below : goal.returns-clause-below
returns-clause-below c = uids.uids_below

pub returns-clause-stay : goal.returns-clause-stay
returns-clause-stay c = uids.uids_stay

pub returns-clause-next : goal.returns-clause-next
returns-clause-next c = uids.next_uid
