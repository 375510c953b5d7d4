use Rattle.std.proofs.Common.{◌∙◌, arith}
use Rattle.mail_store.proofs.WaitingLemmas.{open_last, open_none}
use Rattle.mail_store.proofs.queue.open_next.Goals as goal

pub returns-in_ok-insert-clause-ok : goal.returns-in_ok-insert-clause-ok
returns-in_ok-insert-clause-ok c =
    c.in_ok-insert.ensures.entries
    ∙ open_last c.args.entries.now c.args.entry.now c.args.counts.now.entries c.awaited-count.result c.awaited-count.ensures c.if-count-gt0.true c.requires.counts

pub returns-else-count-gt0-clause-ok : goal.returns-else-count-gt0-clause-ok
returns-else-count-gt0-clause-ok c =
    open_none c.args.entries.now c.args.entry.now c.args.counts.now.entries (omega (arith, c.awaited-count.ensures, c.if-count-gt0.false)) c.requires.counts
