use Rattle.std.proofs.Common.{take}
use Rattle.surrogate_rope.specs.private.Pieces.{pieces_of}
use Rattle.surrogate_rope.proofs.StoredLemmas.{StoresFirst}
use Rattle.surrogate_rope.proofs.pieces.Pieces.store.Given as goal

abbrev pub invariant-loop-piece : goal.invariant-loop-piece
invariant-loop-piece l = StoresFirst l.fn.stored l.stored (pieces_of l.octets (take l.piece-index l.piece-items))
