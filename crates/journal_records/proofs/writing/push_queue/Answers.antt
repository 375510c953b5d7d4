use Rattle.std.proofs.Common.{◌++◌, length, append-nil, subst}
use Rattle.std.proofs.lemmas.Result.{err_from_is_err_and}
use Rattle.journal_records.specs.Spelling.{number}
use Rattle.journal_records.specs.Writing.{PutsText}
use Rattle.journal_records.specs.private.Heads.{queue_head}
use Rattle.journal_records.proofs.WritingLemmas.{PutsFirst, first_of, puts_after, queue_following}
use Rattle.journal_records.proofs.writing.push_queue.Goals as goal

pub returns-in_err-push_queue_front : goal.returns-in_err-push_queue_front
returns-in_err-push_queue_front c =
    let failed = err_from_is_err_and c.from_residual.result c.from_residual.ensures.1 in
    let front = queue_head c.args.path.now c.args.addresses.now c.args.mark ++ number (length c.args.octets.now) in
    rw failed.1
    (subst (PutsFirst c.args.journal.now c.push_queue_front.new.journal) (queue_following c.args.path.now c.args.addresses.now c.args.mark c.args.octets.now)
    (first_of c.args.journal.now c.push_queue_front.new.journal front c.args.octets.now c.in_err-push_queue_front.ensures))

pub returns : goal.returns
returns c =
    let front = queue_head c.args.path.now c.args.addresses.now c.args.mark ++ number (length c.args.octets.now) in
    subst (PutsText c.args.journal.now c.push_parts.new.journal c.push_parts.result) (queue_following c.args.path.now c.args.addresses.now c.args.mark c.args.octets.now)
    (puts_after c.args.journal.now c.push_queue_front.new.journal c.push_parts.new.journal front c.args.octets.now c.push_parts.result
    c.in_ok-push_queue_front.ensures (rw (append-nil c.args.octets.now) at c.push_parts.ensures))
