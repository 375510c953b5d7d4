use Rattle.std.proofs.Common.{◌≡◌, length}
use Rattle.pop_session.specs.private.Stuffing.{place_after, stuffed_from}
use Rattle.pop_session.proofs.StuffedPieces.{HasGiven}
use Rattle.pop_session.proofs.stuffing.give_stuffed.Given as goal

abbrev pub invariant-loop-rest : goal.invariant-loop-rest
invariant-loop-rest g l = record {
  given : HasGiven (g.W.Wire.observed l.initial.wire) (g.W.Wire.observed l.wire) (stuffed_from l.initial.at l.octets) l.at l.rest;
  place : place_after l.at l.rest ≡ place_after l.initial.at l.octets;
}

abbrev pub decreases-loop-rest : goal.decreases-loop-rest
decreases-loop-rest g l = length l.rest
