use Rattle.std.proofs.Common.{◌≤◌, ◌-◌, length, take}
use Rattle.relay_choice.specs.private.Places.{IsPlaceIn, IsReplyFront}
use Rattle.relay_choice.proofs.replies.read_reply.Given as goal

abbrev pub invariant-loop-used : goal.invariant-loop-used
invariant-loop-used l = (l.used ≤ length l.octets) × IsPlaceIn (take l.used l.octets) l.place × IsReplyFront (take l.used l.octets) l.place

abbrev pub decreases-loop-used : goal.decreases-loop-used
decreases-loop-used l = length l.octets - l.used
