use Rattle.std.proofs.Common.{◌≡◌, take}
use Rattle.mail_store.specs.Queue.{told_count}
use Rattle.relay_session.proofs.relaying.open_count.Given as goal

abbrev pub invariant-loop-queued : goal.invariant-loop-queued
invariant-loop-queued l = l.count ≡ told_count (take l.queued-index l.queue)
