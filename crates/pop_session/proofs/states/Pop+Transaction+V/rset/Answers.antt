use Rattle.std.proofs.Common.{false}
use Rattle.pop_session.proofs.MaildropLemmas.{unmark-turn}
use Rattle.pop_session.proofs.states.Pop+Transaction+V.rset.Goals as goal

pub loop-one-preserved : goal.loop-one-preserved
loop-one-preserved g c =
    unmark-turn c.deref_mut-one-items.result.now c.loop-one.one-items c.loop-one.one-index (record { listed = record { id = 0; uid = 0; flags = 0 }; deleted = false })
    c.loop-one-test.true c.loop-one.invariant
