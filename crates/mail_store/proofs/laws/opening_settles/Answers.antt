use Rattle.mail_store.proofs.SettleLemmas.{left, opened_twice, opened_begun, opened_store}
use Rattle.mail_store.proofs.laws.opening_settles.Goals as goal

pub returns-clause-left : goal.returns-clause-left
returns-clause-left c = left

pub returns-clause-again : goal.returns-clause-again
returns-clause-again c = opened_twice

pub returns-clause-begun : goal.returns-clause-begun
returns-clause-begun c = opened_begun

pub returns-clause-store : goal.returns-clause-store
returns-clause-store c = opened_store
