use Rattle.std.proofs.Common.{◌-◌, ◌≤◌, length}
use Rattle.field_downgrade.proofs.GlobalBodiesPlaces.{Counts}
use Rattle.field_downgrade.proofs.global_bodies.place_following.Given as goal

abbrev pub invariant-loop-at : goal.invariant-loop-at
invariant-loop-at l = (l.at ≤ length l.octets) × Counts l.octets l.count l.at l.left

abbrev pub decreases-loop-at : goal.decreases-loop-at
decreases-loop-at l = length l.octets - l.at
