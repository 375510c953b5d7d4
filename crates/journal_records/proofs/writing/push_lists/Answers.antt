use Rattle.std.proofs.lemmas.Result.{err_from_is_err_and}
use Rattle.journal_records.specs.Spelling.{octet_list}
use Rattle.journal_records.proofs.WritingLemmas.{first_parts}
use Rattle.journal_records.proofs.writing.push_lists.Goals as goal

pub returns-in_err-push_list : goal.returns-in_err-push_list
returns-in_err-push_list c =
    let failed = err_from_is_err_and c.from_residual.result c.from_residual.ensures.1 in
    rw (failed.1)
    (first_parts octet_list c.args.lists.now c.loop-list.list-index c.list-item.result c.args.journal.now c.loop-list.journal c.push_list.new.journal c.loop-list-test.true
    c.loop-list.invariant c.list-item.is (rw c.as_slice.ensures at c.in_err-push_list.ensures))
