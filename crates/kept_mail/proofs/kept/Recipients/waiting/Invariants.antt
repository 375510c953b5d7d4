use Rattle.std.proofs.Common.{◌≡◌, map}
use Rattle.kept_mail.specs.Kept.{waiting}
use Rattle.kept_mail.proofs.kept.Recipients.waiting.Given as goal

abbrev pub invariant-loop-address : goal.invariant-loop-address
invariant-loop-address l = l.recipients.items ≡ map waiting l.yielded
