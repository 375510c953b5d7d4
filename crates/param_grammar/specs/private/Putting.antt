-- What is put for the sections of a body.
use Rattle.std.specs.Prelude.{◌≡◌, ℕ, ◌⊎◌, ◌++◌, true, false, List, [], ◌∷◌}
use Rattle.field_tokens.specs.declared.Token.{Token}
use Rattle.param_grammar.specs.declared.Piece.{Piece}
use Rattle.param_grammar.specs.declared.places.Place.{Place}
use Rattle.param_grammar.specs.Bodies.{is_filled, IsPiece}
use Rattle.param_grammar.specs.Places.{IsPlaced}

-- new is old, and the place of the piece that the section is, where it is filled
abbrev pub PlacesPiece : List ℕ → List Token → List Place → List Place → Type 0
PlacesPiece text section old new = ((is_filled section ≡ false) × (new ≡ old))
    ⊎ ((place : Place) × (piece : Piece) × (is_filled section ≡ true) × IsPiece text section piece × IsPlaced text place piece × (new ≡ old ++ place ∷ []))
