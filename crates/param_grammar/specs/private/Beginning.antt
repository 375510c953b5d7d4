-- Parameters by the numbers of the pieces with which they begin.
use Rattle.std.specs.Prelude.{ℕ, if◌then◌else◌, List, [], ◌∷◌, take}
use Rattle.param_grammar.specs.declared.Piece.{Piece}
use Rattle.param_grammar.specs.Joining.{ParamValue, goes_on, unit_at}
use Rattle.param_grammar.specs.Places.{piece_in}

-- the parameter that begins with the piece of a number, where one does
abbrev pub begun_at : List Piece → ℕ → List ParamValue
begun_at pieces number =
    if goes_on (take number pieces) (piece_in pieces number) then []
    else record { name = (piece_in pieces number).base; unit = unit_at pieces (piece_in pieces number) } ∷ []
