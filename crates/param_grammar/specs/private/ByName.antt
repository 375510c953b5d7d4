-- Pieces by their names.
use Rattle.std.specs.Prelude.{ℕ, Bool, List, is_some}
use Rattle.std.specs.List.{list_all}
use Rattle.std.specs.Str.{bytes_eq}
use Rattle.mail_wire.specs.Octets.{is_ascii}
use Rattle.param_grammar.specs.declared.Piece.{Piece}

abbrev pub is_named : List ℕ → Piece → Bool
is_named name piece = bytes_eq name piece.base

abbrev pub is_numbered : Piece → Bool
is_numbered piece = is_some piece.number

-- no name and no value of the pieces has an octet above 127
abbrev pub are_ascii : List Piece → Bool
are_ascii pieces = list_all (λ piece. list_all is_ascii piece.written) pieces
