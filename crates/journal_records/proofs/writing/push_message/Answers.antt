use Rattle.std.proofs.Common.{◌++◌, length, append-nil, subst}
use Rattle.std.proofs.lemmas.Result.{err_from_is_err_and}
use Rattle.journal_records.specs.Spelling.{number, octet_list}
use Rattle.journal_records.specs.Writing.{PutsText}
use Rattle.journal_records.specs.private.Heads.{message_head}
use Rattle.journal_records.proofs.WritingLemmas.{PutsFirst, first_of, puts_after, message_after}
use Rattle.journal_records.proofs.writing.push_message.Goals as goal

pub returns-in_err-push_message_front : goal.returns-in_err-push_message_front
returns-in_err-push_message_front c =
    let failed = err_from_is_err_and c.from_residual.result c.from_residual.ensures.1 in
    let front = message_head c.args.folder c.args.flags c.args.mark ++ (octet_list c.args.date.now ++ number (length c.args.octets.now)) in
    rw failed.1
    (subst (PutsFirst c.args.journal.now c.push_message_front.new.journal) (message_after c.args.folder c.args.flags c.args.mark c.args.date.now c.args.octets.now)
    (first_of c.args.journal.now c.push_message_front.new.journal front c.args.octets.now c.in_err-push_message_front.ensures))

pub returns : goal.returns
returns c =
    let front = message_head c.args.folder c.args.flags c.args.mark ++ (octet_list c.args.date.now ++ number (length c.args.octets.now)) in
    subst (PutsText c.args.journal.now c.push_parts.new.journal c.push_parts.result) (message_after c.args.folder c.args.flags c.args.mark c.args.date.now c.args.octets.now)
    (puts_after c.args.journal.now c.push_message_front.new.journal c.push_parts.new.journal front c.args.octets.now c.push_parts.result
    c.in_ok-push_message_front.ensures (rw (append-nil c.args.octets.now) at c.push_parts.ensures))
