use Rattle.surrogate_rope.proofs.LoadLemmas.{PiecesLoaded}
use Rattle.surrogate_rope.proofs.storing.load_pieces.Given as goal

abbrev pub invariant-loop : goal.invariant-loop
invariant-loop l = PiecesLoaded l.octets l.from l.count l.counter l.pieces l.at
