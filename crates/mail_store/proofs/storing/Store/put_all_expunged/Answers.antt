use Rattle.std.proofs.Common.{refl, get_or}
use Rattle.mail_store.proofs.ExpungeLemmas.{next_within, expunge-step}
use Rattle.mail_store.proofs.storing.Store.put_all_expunged.Goals as goal

pub put_expunged-requires : goal.put_expunged-requires
put_expunged-requires c =
    next_within c.args.self.now c.loop-id.self c.args.ids.now c.loop-id.id-index c.loop-id-test.true c.requires c.loop-id.invariant

pub loop-id-preserved : goal.loop-id-preserved
loop-id-preserved c =
    expunge-step c.args.self.now c.loop-id.self c.put_expunged.new.self c.args.ids.now c.loop-id.id-index (get_or c.args.ids.now c.loop-id.id-index 0) c.loop-id-test.true
    refl c.loop-id.invariant c.put_expunged.ensures
