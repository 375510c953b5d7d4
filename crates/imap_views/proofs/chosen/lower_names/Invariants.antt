use Rattle.std.proofs.Common.{take}
use Rattle.std.specs.BTreeSet.{contains_by}
use Rattle.std.specs.Cmp.Lexicographic.{slice_cmp}
use Rattle.std.specs.Ordering.{nat_cmp}
use Rattle.imap_views.specs.private.Reading.{HoldsNames}
use Rattle.imap_views.proofs.chosen.lower_names.Given as goal

abbrev pub invariant-loop-name : goal.invariant-loop-name
invariant-loop-name l = HoldsNames (take l.name-index l.names) (λ q. contains_by (λ key. slice_cmp nat_cmp q key.items) l.lower)
