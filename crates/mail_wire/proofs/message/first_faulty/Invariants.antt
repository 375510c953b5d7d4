use Rattle.std.proofs.Common.{length, ◌-◌}
use Rattle.mail_wire.proofs.MessageLemmas.{HasScanned}
use Rattle.mail_wire.proofs.message.first_faulty.Given as goal

abbrev pub invariant-loop-passed : goal.invariant-loop-passed
invariant-loop-passed l = HasScanned l.octets l.at

abbrev pub decreases-loop-passed : goal.decreases-loop-passed
decreases-loop-passed l = length l.octets - l.at
