use Rattle.std.proofs.Common.{◌≡◌, map, drop}
use Rattle.mime_tree.specs.Sections.{named_by, named_on}
use Rattle.mime_tree.proofs.sections.named_by.Given as goal

-- the further numbers lead on from the entity that is named
abbrev pub invariant-loop-n : goal.invariant-loop-n
invariant-loop-n g l = named_by (map g.E.Outlined.outlined l.entities) l.path ≡ named_on (map g.E.Outlined.outlined l.entities) (drop l.n-index l.rest) l.number
