use Rattle.std.specs.Map.{keys_of}
use Rattle.mail_store.proofs.QueueLemmas.{telling-begins, telling-ends, telling-step}
use Rattle.mail_store.proofs.WaitingLemmas.{keys-open_counts}
use Rattle.mail_store.proofs.queue.tell_entries.Goals as goal

pub loop-number-init : goal.loop-number-init
loop-number-init c =
    rw (c.new-queue.ensures.items, c.into_iter-number-iterator.ensures.into_iter_gives, c.keys-number-items.ensures.rest)
    (telling-begins c.args.entries.now (keys_of c.args.counts.now.entries) (keys-open_counts c.args.entries.now c.args.counts.now.entries c.requires.counts))

pub loop-number-preserved : goal.loop-number-preserved
loop-number-preserved c =
    telling-step c.args.entries.now (keys_of c.args.counts.now.entries) c.loop-number.number-iterator c.next.new.self c.loop-number.queue.items c.push.new.self.items c.in-Some.number.now
    c.index-entries-number.result c.in_ok-tell_entry.field-0 c.loop-number.invariant c.in-Some.ensures.steps c.index-entries-number.is c.in_ok-tell_entry.ensures c.in_ok-push.ensures.items

pub returns : goal.returns
returns c =
    rw c.from_vec.ensures
    (telling-ends c.args.entries.now (keys_of c.args.counts.now.entries) c.loop-number.number-iterator c.loop-number.queue.items c.loop-number.invariant c.in-None.ensures.steps.0
    (keys-open_counts c.args.entries.now c.args.counts.now.entries c.requires.counts))
