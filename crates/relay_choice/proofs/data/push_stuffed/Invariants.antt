use Rattle.std.proofs.Common.{◌≡◌, ◌++◌, length}
use Rattle.mail_wire.specs.Dots.{stuffed}
use Rattle.relay_choice.proofs.data.push_stuffed.Given as goal

abbrev pub invariant-loop-rest : goal.invariant-loop-rest
invariant-loop-rest l = l.made ++ stuffed l.rest ≡ l.initial.made ++ stuffed l.octets

abbrev pub decreases-loop-rest : goal.decreases-loop-rest
decreases-loop-rest l = length l.rest
