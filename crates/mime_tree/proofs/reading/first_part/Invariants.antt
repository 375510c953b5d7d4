use Rattle.std.proofs.Common.{length, ◌-◌}
use Rattle.mime_tree.specs.Parts.{parts_of}
use Rattle.mime_tree.specs.private.Open.{lines_at, region}
use Rattle.mime_tree.proofs.NextParts.{IsPreamble}
use Rattle.mime_tree.proofs.reading.first_part.Given as goal

abbrev pub invariant-loop-at : goal.invariant-loop-at
invariant-loop-at l =
    IsPreamble (l.boundaries) l.boundary l.octets
    (parts_of l.boundary l.fn.start.at (region (l.boundaries) (lines_at l.octets l.fn.start.from))) l.fn.start.from l.at

abbrev pub decreases-loop-at : goal.decreases-loop-at
decreases-loop-at l = length l.octets - l.at
