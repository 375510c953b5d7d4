use Rattle.std.proofs.Common.{◌≡◌, map, slice_get}
use Rattle.mime_tree.specs.Sections.{child}
use Rattle.mime_tree.proofs.SectionLemmas.{children_at}
use Rattle.mime_tree.proofs.sections.child.Given as goal

-- the child that is looked for is the one that is left to find
abbrev pub invariant-loop-place : goal.invariant-loop-place
invariant-loop-place g l = child (map g.E.Outlined.outlined l.entities) l.number l.n ≡ slice_get (children_at g.E.Outlined.outlined l.entities l.place l.number) l.left
