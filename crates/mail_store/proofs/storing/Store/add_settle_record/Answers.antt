use Rattle.std.proofs.Common.{ap, ◌∙◌}
use Rattle.mail_store.specs.Queue.{open_counts}
use Rattle.mail_store.specs.private.Store.{kept_of, indexes_of}
use Rattle.mail_store.proofs.IndexLemmas.{AreIndexes-settled}
use Rattle.mail_store.proofs.storing.Store.add_settle_record.Goals as goal

pub invariant_of-self : goal.invariant_of-self
invariant_of-self c = record {
  indexes = rw c.settle_open.ensures.entries (AreIndexes-settled (kept_of c.self.inside) (indexes_of c.self.inside) c.args.entry c.args.index c.settle_open.new.counts.entries c.self.invariant.indexes (c.settle_open.ensures.counts ∙ ap open_counts c.settle_open.ensures.entries));
  message_bound = c.self.invariant.message_bound;
}
