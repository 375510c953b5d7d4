use Rattle.std.proofs.Common.{◌≡◌, List, length, map, take}
use Rattle.param_grammar.specs.declared.Piece.{Piece}
use Rattle.param_grammar.specs.Places.{ArePlaced, piece_in}
use Rattle.param_grammar.specs.private.Slots.{AreSlots, HoldBelow}
use Rattle.param_grammar.proofs.joining.slots_of.Given as goal

abbrev pub invariant-loop-part : goal.invariant-loop-part
invariant-loop-part l = (length l.slots.items ≡ length l.parts) × HoldBelow (length l.places) l.slots.items
    × ((pieces : List Piece) → ArePlaced l.text l.places pieces → AreSlots (piece_in pieces) (length l.parts) (map (piece_in pieces) (take l.part-index l.parts)) l.slots.items)
