use Rattle.std.proofs.Common.{◌≡◌, List, map, take}
use Rattle.std.specs.List.{flat_map}
use Rattle.param_grammar.specs.declared.Piece.{Piece}
use Rattle.param_grammar.specs.Places.{ArePlaced, piece_in}
use Rattle.param_grammar.proofs.joining.joined_octets.Given as goal

abbrev pub invariant-loop-part : goal.invariant-loop-part
invariant-loop-part l = (pieces : List Piece) → ArePlaced l.text l.places pieces
    → l.octets ≡ flat_map (λ (part : Piece). part.octets) (map (piece_in pieces) (take l.part-index l.parts))
