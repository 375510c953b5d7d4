-- What the pieces of one parameter are read as.
use Rattle.std.specs.Prelude.{◌≡◌, ℕ, true, List, [], ◌∷◌, Contains}
use Rattle.std.specs.List.{join_with_byte}
use Rattle.std.specs.Str.{str_to_ascii_lowercase}
use Rattle.mail_wire.specs.Characters.{space}
use Rattle.encoded_words.specs.Words.{UnitValue}
use Rattle.field_tokens.specs.declared.Style.TheVariants.{Mime}
use Rattle.field_tokens.specs.declared.Token.{Token}
use Rattle.field_tokens.specs.Tokens.{HasTokens}
use Rattle.field_tokens.specs.Comments.{CommentValue}
use Rattle.param_grammar.specs.declared.ParamKind.{ParamKind}
use Rattle.param_grammar.specs.Bodies.{is_main}
use Rattle.param_grammar.specs.Joining.{ParamValue, SaysParams}
use Rattle.param_2231.specs.Layout.{with_semicolons}

-- some text has a parameter of this name that says this
pub record ComesInParams (name : List ℕ) (unit : UnitValue) : Type 0 where
  pub kind : ParamKind
  pub text : List ℕ
  pub main : List ℕ
  pub params : List ParamValue
  pub comments : List CommentValue
  pub says : SaysParams kind text main params comments
  pub among : Contains params (record { name = name; unit = unit })

-- a main part of this kind, without gaps and comments
pub record IsMainText (kind : ParamKind) (main : List ℕ) : Type 0 where
  pub tokens : List Token
  pub has_tokens : HasTokens Mime main tokens
  pub is_main_part : is_main kind main tokens ≡ true

-- After any main part, with a semicolon after each but the last and a space between any two, the pieces are this one parameter.
abbrev pub ReadsAsOne : List ℕ → UnitValue → List (List ℕ) → Type 0
ReadsAsOne name unit pieces = (kind : ParamKind) (main : List ℕ) → IsMainText kind main
    → SaysParams kind (join_with_byte space (with_semicolons (main ∷ pieces))) (str_to_ascii_lowercase main) (record { name = name; unit = unit } ∷ []) []
