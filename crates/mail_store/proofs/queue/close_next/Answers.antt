use Rattle.std.proofs.Common.{◌∙◌, arith}
use Rattle.mail_store.proofs.WaitingLemmas.{close_last, close_none}
use Rattle.mail_store.proofs.queue.close_next.Goals as goal

pub returns-then-awaited-gt0 : goal.returns-then-awaited-gt0
returns-then-awaited-gt0 c =
    c.remove-was.ensures.entries
    ∙ close_last c.args.entries.now c.args.batch.waiting.entry c.args.counts.now.entries (omega (arith, c.awaited.ensures, c.if-awaited-gt0.true)) c.requires.counts

pub returns : goal.returns
returns c =
    close_none c.args.entries.now c.args.batch.waiting.entry c.args.counts.now.entries (omega (arith, c.awaited.ensures, c.if-awaited-gt0.false)) c.requires.counts
