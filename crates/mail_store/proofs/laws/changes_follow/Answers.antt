use Rattle.mail_store.proofs.FollowLemmas.{followed, broken}
use Rattle.mail_store.proofs.laws.changes_follow.Goals as goal

pub returns-clause-made : goal.returns-clause-made
returns-clause-made c = followed

pub returns-clause-fails : goal.returns-clause-fails
returns-clause-fails c = broken
