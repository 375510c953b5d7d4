use Rattle.mail_store.proofs.QueueCounts.{told_few}
use Rattle.mail_store.proofs.QueueLemmas.{told_known, told_paths}
use Rattle.mail_store.proofs.storing.Store.queue.Goals as goal

pub returns-clause-known : goal.returns-clause-known
returns-clause-known c =
    rw (← c.self.view_is) (told_known c.tell_entries.result c.self.inside.entries.items (rw c.deref.ensures.value at c.tell_entries.ensures))

pub returns-clause-paths : goal.returns-clause-paths
returns-clause-paths c = told_paths c.tell_entries.result c.deref.result.now c.tell_entries.ensures

pub returns-clause-few : goal.returns-clause-few
returns-clause-few c = told_few c.tell_entries.result c.self.inside.entries.items c.self.invariant.indexes.few.recipients (rw c.deref.ensures.value at c.tell_entries.ensures)
