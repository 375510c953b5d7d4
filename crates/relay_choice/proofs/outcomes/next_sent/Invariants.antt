use Rattle.std.proofs.Common.{◌≡◌, ◌-◌, length}
use Rattle.relay_choice.specs.Relay.{sent_after}
use Rattle.relay_choice.proofs.outcomes.next_sent.Given as goal

abbrev pub invariant-loop-place : goal.invariant-loop-place
invariant-loop-place l = (l.recipients ≡ l.mail_object.recipients) × (sent_after l.offer l.mail_object l.from ≡ sent_after l.offer l.mail_object l.place)

abbrev pub decreases-loop-place : goal.decreases-loop-place
decreases-loop-place l = length l.recipients - l.place
