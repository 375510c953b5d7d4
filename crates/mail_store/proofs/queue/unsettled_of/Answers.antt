use Rattle.mail_store.proofs.QueueLemmas.{unsettled-step}
use Rattle.mail_store.proofs.queue.unsettled_of.Goals as goal

pub loop-index-preserved : goal.loop-index-preserved
loop-index-preserved c =
    unsettled-step c.args.recipients.now c.loop-index.index c.index-recipients-index.result c.loop-index.unsettled.items c.push_unsettled.new.unsettled.items c.loop-index-test.true
    c.index-recipients-index.is c.in_ok-push_unsettled.ensures c.loop-index.invariant
