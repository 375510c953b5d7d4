use Rattle.message_tests.proofs.FailureLemmas.{worked_failed}
use Rattle.message_tests.proofs.test_utf8_reports.writing.failed_one.Goals as goal

pub returns : goal.returns
returns c = worked_failed _ _ _ _ c.requires c.in_ok-from_slice.ensures c.new-failed.ensures c.in_ok-push.ensures.ok
