use Rattle.imap_views.proofs.PairLemmas.{PairsGo}
use Rattle.imap_views.proofs.params.pairs_of.Given as goal

abbrev pub invariant-loop-place : goal.invariant-loop-place
invariant-loop-place l = PairsGo l.text l.fn.places l.others l.place-index l.made
