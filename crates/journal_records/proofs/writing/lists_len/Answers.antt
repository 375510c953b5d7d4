use Rattle.std.proofs.Common.{arith}
use Rattle.journal_records.proofs.WritingLemmas.{next_within}
use Rattle.journal_records.proofs.writing.lists_len.Goals as goal

pub overflow_add-len : goal.overflow_add-len
overflow_add-len c =
    let next = next_within c.args.lists.now c.list-item.result c.loop-list.list-index c.loop-list-test.true c.list-item.is in
    omega (arith, next, c.requires, c.len.ensures)

pub overflow_add-len-in-loop-list : goal.overflow_add-len-in-loop-list
overflow_add-len-in-loop-list c =
    let next = next_within c.args.lists.now c.list-item.result c.loop-list.list-index c.loop-list-test.true c.list-item.is in
    omega (arith, next, c.requires, c.len.ensures, c.loop-list.invariant)
