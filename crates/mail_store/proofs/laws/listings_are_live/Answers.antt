use Rattle.mail_store.proofs.ListedLemmas.{listed_live, listed_distinct}
use Rattle.mail_store.proofs.laws.listings_are_live.Goals as goal

pub returns-clause-live : goal.returns-clause-live
returns-clause-live c = listed_live

pub returns-clause-distinct : goal.returns-clause-distinct
returns-clause-distinct c = listed_distinct
