use Rattle.std.proofs.Common.{◌<◌, List, length, map}
use Rattle.std.specs.List.{All}
use Rattle.param_grammar.specs.declared.Piece.{Piece}
use Rattle.param_grammar.specs.Places.{ArePlaced, piece_in}
use Rattle.param_grammar.proofs.SlotLemmas.{AreMade}
use Rattle.param_grammar.proofs.joining.in_order.Given as goal

abbrev pub invariant-loop-slot : goal.invariant-loop-slot
invariant-loop-slot l = All (λ part. part < length l.places) l.made.items
    × ((pieces : List Piece) → ArePlaced l.text l.places pieces → AreMade (piece_in pieces) l.slot-index (map (piece_in pieces) l.parts) (map (piece_in pieces) l.made.items))
