use Rattle.std.proofs.Common.{◌≤◌, ◌-◌, drop, take}
use Rattle.surrogate_rope.specs.Served.{shown_octets}
use Rattle.pop_session.specs.declared.stuffing.Place.TheVariants.{LineStart}
use Rattle.pop_session.specs.private.Stuffing.{stuffed_from}
use Rattle.pop_session.proofs.StuffedPieces.{HasGiven}
use Rattle.pop_session.proofs.stuffing.give_dotted.Given as goal

abbrev pub invariant-loop-given : goal.invariant-loop-given
invariant-loop-given g l = record {
  given : HasGiven (g.W.Wire.observed l.initial.wire) (g.W.Wire.observed l.wire) (stuffed_from LineStart (take l.len (drop l.at (shown_octets l.msg l.shown)))) l.place
      (drop l.given (take l.len (drop l.at (shown_octets l.msg l.shown))));
  low : l.given ≤ l.len;
}

abbrev pub decreases-loop-given : goal.decreases-loop-given
decreases-loop-given g l = l.len - l.given
