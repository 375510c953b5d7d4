use Rattle.imap_views.proofs.Counting.{GoesOn}
use Rattle.imap_views.proofs.structures.count_ends.Given as goal

abbrev pub invariant-loop-octet : goal.invariant-loop-octet
invariant-loop-octet l = GoesOn l.octets l.fn.is_after_cr l.octet-index l.count l.is_after_cr
