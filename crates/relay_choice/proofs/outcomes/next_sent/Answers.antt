use Rattle.std.proofs.Common.{◌∙◌, sym, ap}
use Rattle.relay_choice.specs.Plans.{is_sent}
use Rattle.relay_choice.proofs.AskingLemmas.{sent_here}
use Rattle.relay_choice.proofs.outcomes.next_sent.Goals as goal

pub returns-then-is_sent-clause-next : goal.returns-then-is_sent-clause-next
returns-then-is_sent-clause-next c =
    let lt = c.loop-place-test.true in
    let here = c.index-recipients-place.is in
    sent_here c.args.offer c.args.mail_object.now c.args.from c.loop-place.place c.index-recipients-place.result (rw c.as_slice-recipients.ensures at lt) (rw c.as_slice-recipients.ensures at here)
    (sym (ap is_sent c.plan_of.ensures) ∙ sym c.is_sent.ensures ∙ c.if-is_sent.true) c.loop-place.invariant.1
