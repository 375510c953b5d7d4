use Rattle.std.proofs.Common.{◌≡◌, ◌++◌, map}
use Rattle.relay_choice.specs.declared.mail_objects.Recipient.{Recipient}
use Rattle.relay_choice.specs.Relay.{sent_to, sent_after}
use Rattle.relay_choice.proofs.outcomes.same_answers.Given as goal

abbrev pub invariant-loop-recipient : goal.invariant-loop-recipient
invariant-loop-recipient l = map (λ (recipient : Recipient). l.code) (sent_to l.offer l.mail_object)
    ≡ l.answers ++ map (λ (recipient : Recipient). l.code) (sent_after l.offer l.mail_object l.recipient-index)
