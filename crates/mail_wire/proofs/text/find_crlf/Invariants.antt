use Rattle.std.proofs.Common.{length, ◌-◌}
use Rattle.mail_wire.proofs.CrlfSearch.{HasNoneBelow}
use Rattle.mail_wire.proofs.text.find_crlf.Given as goal

abbrev pub invariant-loop-passed : goal.invariant-loop-passed
invariant-loop-passed l = HasNoneBelow l.octets l.at

abbrev pub decreases-loop-passed : goal.decreases-loop-passed
decreases-loop-passed l = length l.octets - l.at
