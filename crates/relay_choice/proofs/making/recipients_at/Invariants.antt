use Rattle.std.proofs.Common.{◌≡◌, map}
use Rattle.relay_choice.specs.MailObjects.{recipient_at}
use Rattle.relay_choice.proofs.making.recipients_at.Given as goal

abbrev pub invariant-loop-address : goal.invariant-loop-address
invariant-loop-address l = l.recipients ≡ map recipient_at l.yielded
