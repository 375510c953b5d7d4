use Rattle.std.proofs.Common.{◌≡◌, ◌++◌, ◌∙◌, ap, sym, map, drop, ℕ, List, []}
use Rattle.std.proofs.lemmas.List.{append-nil, drop_all, nil_from_length}
use Rattle.relay_choice.specs.declared.mail_objects.Recipient.{Recipient}
use Rattle.relay_choice.specs.declared.mail_objects.Outcome.{Outcome}
use Rattle.relay_choice.specs.Relay.{plan_of, outcome_by, merged}
use Rattle.relay_choice.specs.Plans.{is_sent}
use Rattle.relay_choice.proofs.outcomes.outcomes_of.Goals.{then-not-is_sent+in_ok-push, else-not-is_sent+in-Some+in_ok-push-2, else-not-is_sent+in_default}
use Rattle.relay_choice.proofs.OutcomeLemmas.{refused_turn, sent_turn, none_turn, merged_end}
use Rattle.relay_choice.proofs.outcomes.outcomes_of.Goals as goal

pub loop-recipient-preserved : goal.loop-recipient-preserved
loop-recipient-preserved c =
    let here = c.recipient-item.is in
    let lt = c.loop-recipient-test.true in
    elim c.if-not-is_sent.branch [
      | then-not-is_sent+in_ok-push w ↦ rw (w.outcomes-is, w.rest-is, w.in_ok-push.ensures.ok, w.detail_of-detail.ensures, c.plan_of-plan.ensures)
          (refused_turn (plan_of c.args.offer c.args.mail_object.now) c.args.mail_object.now.recipients c.loop-recipient.recipient-index c.recipient-item.result _ _ _
          (rw c.as_slice-recipient-items.ensures at lt) (rw c.as_slice-recipient-items.ensures at here)
          (sym (ap is_sent c.plan_of-plan.ensures) ∙ sym c.is_sent.ensures ∙ w.if-not-is_sent.true) c.loop-recipient.invariant)
      | else-not-is_sent+in-Some+in_ok-push-2 w ↦ rw (w.outcomes-is, w.rest-is, w.in_ok-push-2.ensures.ok, w.outcome_by.ensures)
          (sent_turn (plan_of c.args.offer c.args.mail_object.now) c.args.mail_object.now.recipients c.loop-recipient.recipient-index c.recipient-item.result _ _
          (map (outcome_by c.args.code) w.in-Some.others.now) (outcome_by c.args.code w.in-Some.answer.now)
          (rw c.as_slice-recipient-items.ensures at lt) (rw c.as_slice-recipient-items.ensures at here)
          (sym (ap is_sent c.plan_of-plan.ensures) ∙ sym c.is_sent.ensures ∙ w.if-not-is_sent.false)
          (c.loop-recipient.invariant ∙ ap (λ (answers : List ℕ). c.loop-recipient.outcomes
          ++ merged (map (plan_of c.args.offer c.args.mail_object.now) (drop c.loop-recipient.recipient-index c.args.mail_object.now.recipients)) (map (outcome_by c.args.code) answers)) w.in-Some.ensures.cases.0))
      | else-not-is_sent+in_default w ↦
          let none : c.loop-recipient.rest.now ≡ [] = nil_from_length c.loop-recipient.rest.now w.in_default.ensures.cases in
          let before = c.loop-recipient.invariant in
          rw (w.outcomes-is, w.rest-is, none)
          (none_turn (plan_of c.args.offer c.args.mail_object.now) c.args.mail_object.now.recipients c.loop-recipient.recipient-index c.recipient-item.result _ _
          (rw c.as_slice-recipient-items.ensures at lt) (rw c.as_slice-recipient-items.ensures at here)
          (sym (ap is_sent c.plan_of-plan.ensures) ∙ sym c.is_sent.ensures ∙ w.if-not-is_sent.false) (rw none at before))
    ]

pub returns : goal.returns
returns c =
    let past = c.loop-recipient-test.false in
    sym (c.loop-recipient.invariant
    ∙ ap (λ (l : List Recipient). c.loop-recipient.outcomes ++ merged (map (plan_of c.args.offer c.args.mail_object.now) l) (map (outcome_by c.args.code) c.loop-recipient.rest.now))
    (drop_all c.loop-recipient.recipient-index c.args.mail_object.now.recipients (rw c.as_slice-recipient-items.ensures at past))
    ∙ ap (λ (l : List Outcome). c.loop-recipient.outcomes ++ l) (merged_end (map (outcome_by c.args.code) c.loop-recipient.rest.now)) ∙ append-nil c.loop-recipient.outcomes)
