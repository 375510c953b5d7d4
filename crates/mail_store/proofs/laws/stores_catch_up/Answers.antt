use Rattle.mail_store.proofs.CatchLemmas.{end_changed, after_journal, after_failure}
use Rattle.mail_store.proofs.laws.stores_catch_up.Goals as goal

pub returns-clause-changed : goal.returns-clause-changed
returns-clause-changed c = end_changed

pub returns-clause-following : goal.returns-clause-following
returns-clause-following c = after_journal

pub returns-clause-failed : goal.returns-clause-failed
returns-clause-failed c = after_failure
