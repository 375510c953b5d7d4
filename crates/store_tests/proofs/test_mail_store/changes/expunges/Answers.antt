use Rattle.std.specs.List.{IsDistinct}
use Rattle.store_tests.proofs.test_mail_store.changes.expunges.Goals as goal

pub expunge-requires-clause-distinct : goal.expunge-requires-clause-distinct
unfolding IsDistinct
expunge-requires-clause-distinct c = (tt, tt)
