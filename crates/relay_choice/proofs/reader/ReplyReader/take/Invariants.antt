use Rattle.std.proofs.Common.{◌≡◌, ◌≤◌, ◌-◌, ◌++◌, length, take}
use Rattle.relay_choice.specs.private.Places.{IsPlaceIn, IsReplyFront}
use Rattle.relay_choice.proofs.reader.ReplyReader.take.Given as goal

abbrev pub invariant-loop-used : goal.invariant-loop-used
invariant-loop-used l =
    (l.used ≤ length l.piece) × IsPlaceIn l.octets l.place × (l.octets ≡ l.initial.octets ++ take l.used l.piece)
    × (IsReplyFront l.initial.octets l.initial.place → IsReplyFront l.octets l.place)

abbrev pub decreases-loop-used : goal.decreases-loop-used
decreases-loop-used l = length l.piece - l.used
