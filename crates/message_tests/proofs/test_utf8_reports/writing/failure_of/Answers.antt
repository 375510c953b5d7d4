use Rattle.message_tests.proofs.FailureLemmas.{worked_failure}
use Rattle.message_tests.proofs.test_utf8_reports.writing.failure_of.Goals as goal

pub returns-in-Ok-from_slice : goal.returns-in-Ok-from_slice
returns-in-Ok-from_slice c = worked_failure c.in-Some.path c.in-Ok-from_slice.name c.in-Ok.failed c.in-Some.ensures c.in-Ok-from_slice.ensures c.in-Ok.ensures
