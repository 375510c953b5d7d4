use Rattle.std.proofs.Common.{◌++◌}
use Rattle.std.proofs.lemmas.Result.{err_from_is_err_and}
use Rattle.journal_records.specs.Spelling.{number, octet_list}
use Rattle.journal_records.specs.private.Heads.{message_head}
use Rattle.journal_records.proofs.WritingLemmas.{first_of, puts_after}
use Rattle.journal_records.proofs.writing.push_message_front.Goals as goal

pub returns-in_err-push_message_head : goal.returns-in_err-push_message_head
returns-in_err-push_message_head c =
    let failed = err_from_is_err_and c.from_residual.result c.from_residual.ensures.1 in
    rw failed.1
    (first_of c.args.journal.now c.push_message_head.new.journal (message_head c.args.folder c.args.flags c.args.mark) (octet_list c.args.date.now ++ number c.args.len)
    c.in_err-push_message_head.ensures)

pub returns : goal.returns
returns c =
    puts_after c.args.journal.now c.push_message_head.new.journal c.push_parts.new.journal (message_head c.args.folder c.args.flags c.args.mark)
    (octet_list c.args.date.now ++ number c.args.len) c.push_parts.result c.in_ok-push_message_head.ensures (rw (c.number.ensures, c.number-2.ensures) at c.push_parts.ensures)
