use Rattle.std.proofs.Common.{◌≡◌, ◌↔◌, ◌≤◌, true}
use Rattle.mail_wire.specs.private.Pairs.{ArePairsBelow}
use Rattle.mail_wire.proofs.message.are_pairs_sound.Given as goal

abbrev pub invariant-loop-at : goal.invariant-loop-at
invariant-loop-at l = (1 ≤ l.at) × ((l.sound ≡ true) ↔ ArePairsBelow l.octets l.at)
