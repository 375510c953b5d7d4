use Rattle.std.proofs.Common.{◌≡◌, ◌+◌, ◌*◌, length}
use Rattle.mime_tree.specs.Parts.{parts_of}
use Rattle.mime_tree.specs.private.Reading.{region_at}
use Rattle.mime_tree.proofs.Dividing.{Dividing, next_left}
use Rattle.mime_tree.proofs.reading.+tree.Given as goal

abbrev pub decreases-read_entity : goal.decreases-read_entity
decreases-read_entity l = 3 * l.place.levels + 1

abbrev pub decreases-read_inside : goal.decreases-read_inside
decreases-read_inside l = 3 * l.content.levels

abbrev pub decreases-read_parts : goal.decreases-read_parts
decreases-read_parts l = 3 * l.division.levels + 2

abbrev pub invariant-read_parts-parts : goal.invariant-read_parts-parts
invariant-read_parts-parts l =
    Dividing l.division.levels l.fn.boundaries.items l.fn.boundary l.octets l.division.digest l.division.number
    (parts_of l.fn.boundary l.fn.division.start.at (region_at l.fn.boundaries.items l.octets l.fn.division.start.from)) l.fn.division.start.from l.fn.entities l.entities l.shape l.next
    × (l.boundaries.items ≡ l.fn.boundaries.items) × (l.own ≡ l.fn.boundary)

abbrev pub decreases-read_parts-parts : goal.decreases-read_parts-parts
decreases-read_parts-parts l = next_left (length l.octets) l.next
