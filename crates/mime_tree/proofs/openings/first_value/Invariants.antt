use Rattle.mime_tree.proofs.OpeningLemmas.{LeavesFields}
use Rattle.mime_tree.proofs.openings.first_value.Given as goal

abbrev pub invariant-loop-field : goal.invariant-loop-field
invariant-loop-field l = LeavesFields l.octets l.name l.fields l.field-index
