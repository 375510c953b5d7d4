-- Parameters from their pieces (RFC 2231, 3).
use Rattle.std.specs.Prelude.{◌≡◌, ℕ, zero, suc, ◌+◌, ◌*◌, ◌<◌, ◌==◌, Bool, true, false, ◌&&◌, if◌then◌else◌, nat_lt, List, [], ◌∷◌, ◌++◌, length, filter, is_some}
use Rattle.std.specs.List.{flat_map, list_any, list_all}
use Rattle.mail_wire.specs.Octets.{is_ascii}
use Rattle.std.specs.Option.{option_map_or}
use Rattle.std.specs.Char.{digit_value}
use Rattle.std.specs.Str.{bytes_eq}
use Rattle.encoded_words.specs.Words.{UnitValue}
use Rattle.encoded_words.specs.private.Values.{value_of}
use Rattle.field_tokens.specs.declared.Style.TheVariants.{Mime}
use Rattle.field_tokens.specs.declared.Token.{Token}
use Rattle.field_tokens.specs.Tokens.{HasTokens}
use Rattle.field_tokens.specs.Trees.{Tree}
use Rattle.field_tokens.specs.Squeezed.{comments_of}
use Rattle.field_tokens.specs.Comments.{CommentValue, CommentsSay}
use Rattle.param_grammar.specs.declared.ParamKind.{ParamKind}
use Rattle.param_grammar.specs.Extended.{unit_of}
use Rattle.param_grammar.specs.declared.Piece.{Piece}
use Rattle.param_grammar.specs.declared.Param.{Param}
use Rattle.param_grammar.specs.declared.role.Role.{Role}
use Rattle.param_grammar.specs.declared.role.Role.TheVariants.{GoesOn, Begins}
use Rattle.param_grammar.specs.Bodies.{HasBody, IsBody}

-- the number that decimal digits go on to, after those of this number
abbrev pub decimal_onward : ℕ → List ℕ → ℕ
decimal_onward number [] = number
decimal_onward number (digit ∷ digits) = decimal_onward (10 * number + digit_value digit) digits

-- The number that decimal digits write.
abbrev pub decimal_value : List ℕ → ℕ
decimal_value digits = decimal_onward 0 digits

-- the piece is part of a parameter of this name
abbrev pub is_part_of : List ℕ → Piece → Bool
is_part_of base piece = is_some piece.number && bytes_eq piece.base base

-- The numbered pieces of the parameter of this name.
abbrev pub parts_named : List ℕ → List Piece → List Piece
parts_named base pieces = filter (is_part_of base) pieces

-- The piece has this number.
abbrev pub has_number : ℕ → Piece → Bool
has_number n piece = option_map_or (λ digits. decimal_value digits == n) piece.number false

-- the parts with this number
abbrev pub numbered : ℕ → List Piece → List Piece
numbered n parts = filter (has_number n) parts

-- As many numbers as there are parts, from 0 on, stand at one part each. (So no part has another number.)
abbrev pub AreNumbered : List Piece → Type 0
AreNumbered parts = (n : ℕ) → n < length parts → (part : Piece) × (numbered n parts ≡ part ∷ [])

-- the parts of these many numbers, from 0 on
abbrev pub first_parts : ℕ → List Piece → List Piece
first_parts zero parts = []
first_parts (suc n) parts = first_parts n parts ++ numbered n parts

-- the parts of one name say together what their octets say in the charset of the first
abbrev pub joined_unit : List Piece → UnitValue
joined_unit parts = unit_of (flat_map (λ part. part.charset) (numbered 0 parts)) (flat_map (λ part. part.octets) (first_parts (length parts) parts))

-- a parameter: its name in lower case, and what it says
pub record ParamValue : Type 0 where
  pub name : List ℕ
  pub unit : UnitValue

-- What the parameter of a piece says: its numbered pieces joined (RFC 2231, 3), or the piece itself.
abbrev pub unit_at : List Piece → Piece → UnitValue
unit_at pieces piece = if is_some piece.number then joined_unit (parts_named piece.base pieces) else unit_of piece.charset piece.octets

-- the piece goes on with a parameter that began before it
abbrev pub goes_on : List Piece → Piece → Bool
goes_on before piece = is_some piece.number && list_any (is_part_of piece.base) before

-- the parameters that begin after the pieces before
abbrev pub params_after : List Piece → List Piece → List Piece → List ParamValue
params_after pieces before [] = []
params_after pieces before (piece ∷ more) =
    if goes_on before piece then params_after pieces (before ++ piece ∷ []) more
    else record { name = piece.base; unit = unit_at pieces piece } ∷ params_after pieces (before ++ piece ∷ []) more

-- each parameter, at the place of its first piece
abbrev pub params_of : List Piece → List ParamValue
params_of pieces = params_after pieces [] pieces

-- The pieces are these parameters. The parts of each name have the numbers from 0 on.
pub record AreParams (pieces : List Piece) (params : List ParamValue) : Type 0 where
  pub are_numbered : (base : List ℕ) → AreNumbered (parts_named base pieces)
  pub params_are : params ≡ params_of pieces

-- The text has this main part, these parameters and these comments.
pub record HasParams (kind : ParamKind) (text main : List ℕ) (params : List ParamValue) (comments : List Tree) : Type 0 where
  pub pieces : List Piece
  pub body : HasBody kind text main pieces comments
  pub are_params : AreParams pieces params

-- The text has this main part and these parameters.
pub record HasSaidBody (kind : ParamKind) (text main : List ℕ) (params : List ParamValue) : Type 0 where
  pub tokens : List Token
  pub has_tokens : HasTokens Mime text tokens
  pub pieces : List Piece
  pub is_body : IsBody kind text tokens main pieces
  pub are_params : AreParams pieces params

-- The text has this main part and these parameters, and its comments say this.
pub record SaysParams (kind : ParamKind) (text main : List ℕ) (params : List ParamValue) (comments : List CommentValue) : Type 0 where
  pub body : HasSaidBody kind text main params
  pub comments_say : CommentsSay (comments_of body.has_tokens.values) comments

-- ---- what is asked of each piece

-- the pieces of the parameter that a piece is, or is a part of
abbrev pub own_pieces : List Piece → Piece → List Piece
own_pieces pieces piece = if is_some piece.number then parts_named piece.base pieces else piece ∷ []

-- no name and no value of the parameter has an octet above 127
abbrev pub is_ascii_parameter : List Piece → Piece → Bool
is_ascii_parameter pieces piece = list_all (λ own. list_all is_ascii own.written) (own_pieces pieces piece)

-- another parameter has this name, too
abbrev pub is_doubled : List ParamValue → List ℕ → Bool
is_doubled params name = nat_lt 1 (length (filter (λ param. bytes_eq param.name name) params))

-- the role of a piece after those before it
abbrev pub IsRole : List Piece → List Piece → Piece → Role → Type 0
IsRole pieces before piece (GoesOn is_ascii) = (goes_on before piece ≡ true) × (is_ascii ≡ is_ascii_parameter pieces piece)
IsRole pieces before piece (Begins is_ascii is_doubled_name) = (goes_on before piece ≡ false) × (is_ascii ≡ is_ascii_parameter pieces piece)
    × (is_doubled_name ≡ is_doubled (params_of pieces) piece.base)

-- what a parameter is seen as
abbrev pub param_value : Param → ParamValue
param_value param = record { name = param.name; unit = value_of param.value }
