use Rattle.std.proofs.Common.{ap, refl, sym}
use Rattle.mail_store.specs.declared.queue.Queued.{Queued}
use Rattle.relay_choice.specs.declared.mail_objects.Act.TheVariants as act
use Rattle.session_core.specs.Keeps.{fault_of}
use Rattle.session_core.proofs.MeaningLemmas.{oracles_given}
use Rattle.relay_session.specs.private.Acting.{KeepsQueue}
use Rattle.relay_session.proofs.OneAct.{ActsBy-data, ActsBy-says, ActsBy-settles, KeepsQueue-gives, KeepsQueue-settles, OnOk-of, data_at, open_settles, settles_at}
use Rattle.relay_session.proofs.running.do_act.Goals as goal

pub settle-requires-clause-open : goal.settle-requires-clause-open
settle-requires-clause-open g c =
    let at = settles_at c.args.queue.now c.args.act.now c.in-Settle.number c.in-Settle.outcomes c.index-queue-number-in-Settle.result c.in-Settle.is c.requires.within c.index-queue-number-in-Settle.is in
    open_settles c.args.outside.now.desk.store.kept c.args.queue.now c.args.act.now c.in-Settle.number c.in-Settle.outcomes c.index-queue-number-in-Settle.result c.in-Settle.is at.there c.requires.order

pub settle-requires-clause-each : goal.settle-requires-clause-each
settle-requires-clause-each g c =
    let at = settles_at c.args.queue.now c.args.act.now c.in-Settle.number c.in-Settle.outcomes c.index-queue-number-in-Settle.result c.in-Settle.is c.requires.within c.index-queue-number-in-Settle.is in
    rw c.as_slice-in-Settle.ensures at.each

pub returns-in-Say-clause-acts : goal.returns-in-Say-clause-acts
returns-in-Say-clause-acts g c = λ path_of reads.
    rw c.in-Say.is (ActsBy-says path_of c.args.outside.now c.give.new.self c.args.queue.now c.in-Say.octets c.args.tally.now (fault_of c.give.result) (rw c.as_slice.ensures at c.give.ensures.replies))

pub returns-in-Say-clause-queue : goal.returns-in-Say-clause-queue
returns-in-Say-clause-queue g c =
    rw c.in-Say.is (OnOk-of c.give.result (KeepsQueue c.args.outside.now c.give.new.self c.args.queue.now _)
    (λ fine. KeepsQueue-gives c.args.outside.now c.give.new.self c.args.queue.now (act.Say c.in-Say.octets) (fault_of c.give.result) c.as_slice.result.now c.requires.known refl c.give.ensures.replies))

pub returns-in-SayData-clause-acts : goal.returns-in-SayData-clause-acts
returns-in-SayData-clause-acts g c = λ path_of reads.
    let there = data_at c.args.queue.now c.args.act.now c.in-SayData.number c.index-queue-number.result c.in-SayData.is c.requires.within c.index-queue-number.is in
    rw c.in-SayData.is (ActsBy-data path_of c.args.outside.now c.give_data.new.outside c.args.queue.now c.in-SayData.number c.index-queue-number.result _ c.args.tally.now (fault_of c.give_data.result)
    there (ap (λ (queued : Queued). queued.entry) (sym c.index-queue-number.is)) c.give_data.ensures.replies)

pub returns-in-SayData-clause-queue : goal.returns-in-SayData-clause-queue
returns-in-SayData-clause-queue g c =
    rw c.in-SayData.is (OnOk-of c.give_data.result (KeepsQueue c.args.outside.now c.give_data.new.outside c.args.queue.now _)
    (λ fine. KeepsQueue-gives c.args.outside.now c.give_data.new.outside c.args.queue.now (act.SayData c.in-SayData.number) (fault_of c.give_data.result) _ c.requires.known refl c.give_data.ensures.replies))

pub returns-in-Settle-clause-acts : goal.returns-in-Settle-clause-acts
returns-in-Settle-clause-acts g c = λ path_of reads.
    let at = settles_at c.args.queue.now c.args.act.now c.in-Settle.number c.in-Settle.outcomes c.index-queue-number-in-Settle.result c.in-Settle.is c.requires.within c.index-queue-number-in-Settle.is in
    rw c.in-Settle.is (ActsBy-settles path_of c.args.outside.now c.settle.new.outside c.args.queue.now c.in-Settle.number c.index-queue-number-in-Settle.result c.in-Settle.outcomes
    c.args.tally.now c.settle.new.tally (fault_of c.settle.result) at.there (rw c.as_slice-in-Settle.ensures at (c.settle.ensures.settles path_of reads)))

pub returns-in-Settle-clause-queue : goal.returns-in-Settle-clause-queue
returns-in-Settle-clause-queue g c =
    let at = settles_at c.args.queue.now c.args.act.now c.in-Settle.number c.in-Settle.outcomes c.index-queue-number-in-Settle.result c.in-Settle.is c.requires.within c.index-queue-number-in-Settle.is in
    rw c.in-Settle.is (OnOk-of c.settle.result (KeepsQueue c.args.outside.now c.settle.new.outside c.args.queue.now _)
    (λ fine. KeepsQueue-settles oracles_given.0.path_of c.args.outside.now c.settle.new.outside c.args.queue.now c.in-Settle.number c.index-queue-number-in-Settle.result c.in-Settle.outcomes
    c.args.tally.now c.settle.new.tally (fault_of c.settle.result) c.requires.known at.there (rw c.as_slice-in-Settle.ensures at (c.settle.ensures.settles oracles_given.0.path_of oracles_given.1.paths)) fine))
