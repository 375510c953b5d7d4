use Rattle.std.specs.Map.{keys_of}
use Rattle.mail_store.proofs.QueueLemmas.{IsTelling}
use Rattle.mail_store.proofs.queue.tell_entries.Given as goal

abbrev pub invariant-loop-number : goal.invariant-loop-number
invariant-loop-number l = IsTelling l.entries (keys_of l.counts.entries) l.number-iterator l.queue.items
