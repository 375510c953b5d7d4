use Rattle.kept_mail.specs.Kept.{change_at, gone}
use Rattle.mail_store.specs.private.Store.{kept_of, indexes_of}
use Rattle.kept_mail.proofs.SameMessages.{AreSameMessages-gone}
use Rattle.mail_store.proofs.IndexLemmas.{AreIndexes-changed}
use Rattle.mail_store.proofs.storing.Store.put_expunged.Goals as goal

pub invariant_of-self : goal.invariant_of-self
invariant_of-self c = record {
  indexes = rw c.take_away.ensures (AreIndexes-changed (kept_of c.self.inside) (indexes_of c.self.inside) (change_at gone c.self.inside.messages.items c.args.id) c.self.invariant.indexes (AreSameMessages-gone c.self.inside.messages.items c.args.id));
  message_bound = c.self.invariant.message_bound;
}
