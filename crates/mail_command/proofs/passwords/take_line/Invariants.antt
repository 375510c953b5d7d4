use Rattle.std.proofs.Common.{◌+◌, ◌-◌, ◌≤◌, length}
use Rattle.mail_wire.specs.Moves.{GoesOn}
use Rattle.mail_command.specs.Taking.{Takes}
use Rattle.mail_wire.specs.declared.traffic.TheConstants.{PIECE}
use Rattle.mail_command.proofs.passwords.take_line.Given as goal

abbrev pub invariant-loop-piece : goal.invariant-loop-piece
invariant-loop-piece g l = record {
  takes : Takes (g.W.Wire.observed l.initial.wire) (g.W.Wire.observed l.wire) l.taken;
  few : length l.taken ≤ l.max + PIECE;
  goes_on : GoesOn (g.W.Wire.observed l.initial.wire) (g.W.Wire.observed l.wire);
}

abbrev pub decreases-loop-piece : goal.decreases-loop-piece
decreases-loop-piece g l = l.max + 1 - length l.taken
