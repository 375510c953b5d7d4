-- Pieces by their places, and what each is to its parameter.
use Rattle.std.specs.Prelude.{◌≡◌, ℕ, ◌<◌, List, length, take, get_or}
use Rattle.std.specs.Str.{str_to_ascii_lowercase}
use Rattle.field_tokens.specs.declared.Style.TheVariants.{Mime}
use Rattle.field_tokens.specs.declared.Token.{Token}
use Rattle.field_tokens.specs.Tokens.{HasTokens}
use Rattle.param_grammar.specs.declared.Body.{Body}
use Rattle.param_grammar.specs.declared.ParamKind.{ParamKind}
use Rattle.param_grammar.specs.declared.Piece.{Piece}
use Rattle.param_grammar.specs.declared.role.Placed.{Placed}
use Rattle.param_grammar.specs.declared.role.Role.{Role}
use Rattle.param_grammar.specs.Bodies.{IsBody}
use Rattle.param_grammar.specs.Joining.{AreNumbered, IsRole, parts_named}
use Rattle.param_grammar.specs.Places.{ArePlaced, piece_in}
use Rattle.param_grammar.specs.private.Ordered.{name_in, InNameOrder}

-- These are the pieces at the places of the text. The parts of each name have the numbers from 0 on.
pub record HasPlaced (text : List ℕ) (placed : Placed) (pieces : List Piece) : Type 0 where
  pub are_placed : ArePlaced text placed.places.items pieces
  pub lower_is : placed.lower ≡ str_to_ascii_lowercase text
  pub in_order : InNameOrder (name_in placed.lower placed.places.items) (length placed.places.items) placed.order.items
  pub counted : length placed.roles.items ≡ length pieces
  pub roles : (number : ℕ) (other : Role) → number < length pieces → IsRole pieces (take number pieces) (piece_in pieces number) (get_or placed.roles.items number other)
  pub are_numbered : (base : List ℕ) → AreNumbered (parts_named base pieces)

-- The text has this main part, and these are the places of its pieces.
pub record HasBodyAt (kind : ParamKind) (text : List ℕ) (body : Body) : Type 0 where
  pub tokens : List Token
  pub has_tokens : HasTokens Mime text tokens
  pub pieces : List Piece
  pub is_body : IsBody kind text tokens body.main pieces
  pub has_placed : HasPlaced text body.placed pieces
