-- What is told of a text that is rewritten.
use Rattle.std.specs.Prelude.{ℕ, ◌==◌, Bool, not, List}
use Rattle.mail_wire.specs.Characters.{left_parenthesis}
use Rattle.field_tokens.specs.declared.Style.TheVariants.{Mime}
use Rattle.field_tokens.specs.declared.Token.{Token}
use Rattle.field_tokens.specs.Tokens.{HasTokens}
use Rattle.param_grammar.specs.declared.ParamKind.{ParamKind}
use Rattle.param_grammar.specs.declared.Piece.{Piece}
use Rattle.param_grammar.specs.declared.role.Placed.{Placed}
use Rattle.param_grammar.specs.declared.role.Role.{Role}
use Rattle.param_grammar.specs.declared.role.Role.TheVariants.{GoesOn, Begins}
use Rattle.param_grammar.specs.Bodies.{WritesBody}
use Rattle.param_grammar.specs.Placed.{HasPlaced}

-- the role is that of a piece of an ASCII parameter
abbrev pub is_ascii_role : Role → Bool
is_ascii_role (GoesOn is_ascii) = is_ascii
is_ascii_role (Begins is_ascii doubled) = is_ascii

-- the octet opens no comment
abbrev pub is_no_parenthesis : ℕ → Bool
is_no_parenthesis x = not (x == left_parenthesis)

-- The text has parameters and a main part, which is written so, and these are the places of its pieces.
pub record SaysPlaced (kind : ParamKind) (text written : List ℕ) (placed : Placed) : Type 0 where
  pub tokens : List Token
  pub has_tokens : HasTokens Mime text tokens
  pub pieces : List Piece
  pub writes : WritesBody kind text tokens written pieces
  pub has_placed : HasPlaced text placed pieces
