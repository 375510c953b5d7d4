use Rattle.std.proofs.Common.{◌≡◌, false, take}
use Rattle.mime_tree.specs.private.Open.{is_marked_text}
use Rattle.mime_tree.proofs.marks.is_marked.Given as goal

abbrev pub invariant-loop-boundary : goal.invariant-loop-boundary
invariant-loop-boundary l = is_marked_text (take l.boundary-index l.boundaries) l.text ≡ false
