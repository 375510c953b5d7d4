-- Pieces by their places in a text.
use Rattle.std.specs.Prelude.{◌≡◌, ℕ, List, [], ◌∷◌, None, get_or, is_some}
use Rattle.std.specs.List.{list_all}
use Rattle.std.specs.Str.{str_to_ascii_lowercase}
use Rattle.mail_wire.specs.Octets.{is_ascii}
use Rattle.mail_wire.specs.declared.values.Span.{Span}
use Rattle.field_tokens.specs.Tokens.{octets_at}
use Rattle.param_grammar.specs.declared.Piece.{Piece}
use Rattle.param_grammar.specs.declared.places.Place.{Place}
use Rattle.param_grammar.specs.declared.places.Stretch.{Stretch}
use Rattle.param_grammar.specs.private.Placing.{IsPieceBy}

-- The place of a stretch.
abbrev pub span_of : Stretch → Span
span_of s = record { at = s.at; len = s.len }

-- the name of a piece as it is written, without stars and number
abbrev pub base_span : Place → Span
base_span place = record { at = place.name.at; len = place.base_len }

-- the piece stands at the place
pub record IsPlaced (text : List ℕ) (place : Place) (piece : Piece) : Type 0 where
  pub by_octets : IsPieceBy (octets_at text (span_of place.name)) place.is_quoted (octets_at text (span_of place.value)) piece
  pub base_is : piece.base ≡ str_to_ascii_lowercase (octets_at text (base_span place))
  pub numbered_is : is_some piece.number ≡ place.is_numbered
  pub ascii_is : list_all is_ascii piece.written ≡ place.is_ascii

-- a piece at each place
abbrev pub ArePlaced : List ℕ → List Place → List Piece → Type 0
ArePlaced text [] pieces = pieces ≡ []
ArePlaced text (place ∷ places) pieces = (piece : Piece) × (more : List Piece) × IsPlaced text place piece × ArePlaced text places more × (pieces ≡ piece ∷ more)

-- what stands for a piece where there is none
abbrev pub no_piece : Piece
no_piece = record { base = []; number = None; charset = []; octets = []; written = [] }

-- The piece of this number among pieces.
abbrev pub piece_in : List Piece → ℕ → Piece
piece_in pieces number = get_or pieces number no_piece
