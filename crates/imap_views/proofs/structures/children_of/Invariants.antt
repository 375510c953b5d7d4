use Rattle.imap_views.proofs.Children.{HasChildrenOf}
use Rattle.imap_views.proofs.structures.children_of.Given as goal

abbrev pub invariant-loop-number : goal.invariant-loop-number
invariant-loop-number l = HasChildrenOf l.outlines l.number l.children.items
