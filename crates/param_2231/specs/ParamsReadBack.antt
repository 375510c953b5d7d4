-- The pieces of parameters, read again.
use Rattle.std.specs.Prelude.{ℕ, ◌<◌, Bool, ◌&&◌, if◌then◌else◌, List, length, codes}
use Rattle.std.specs.List.{AllByRecursion, join_with_byte}
use Rattle.mail_wire.specs.Characters.{space}
use Rattle.mail_wire.specs.Octets.{is_white}
use Rattle.mail_wire.specs.Spans.{Stops, StopsAfter}
use Rattle.field_tokens.specs.Comments.{CommentValue, IsLinePiece}
use Rattle.param_grammar.specs.declared.ParamKind.{ParamKind}
use Rattle.param_grammar.specs.Joining.{ParamValue, SaysParams}
use Rattle.param_2231.specs.Layout.{is_global}

-- the main part as it is served
abbrev pub served_main : Bool → ParamKind → List ℕ → List ℕ
served_main open_global kind main = if open_global && is_global kind main then codes "message/rfc822" else main

-- The pieces, with a space between any two, have this main part as it is served, these parameters and these comments. No white
-- stands at an end, and each piece can stand on a line of its own.
pub record AreParamsAgain (kind : ParamKind) (open_global : Bool) (main : List ℕ) (params : List ParamValue) (comments : List CommentValue) (pieces : List (List ℕ)) : Type 0 where
  pub says : SaysParams kind (join_with_byte space pieces) (served_main open_global kind main) params comments
  pub begins : Stops is_white (join_with_byte space pieces)
  pub ends : StopsAfter is_white (join_with_byte space pieces)
  pub some : 0 < length pieces
  pub are_pieces : AllByRecursion IsLinePiece pieces
