-- The type of a message whose headers are UTF-8 (RFC 6532, 3.7), and the one of a message in its place.
use Rattle.std.specs.Prelude.{◌≡◌, ℕ, ◌+◌, true, List, [], ◌∷◌, ◌++◌, length, take, drop, codes}
use Rattle.field_tokens.specs.declared.Style.TheVariants.{Mime}
use Rattle.field_tokens.specs.Tokens.{TokenValue, HasTokenValues}
use Rattle.field_tokens.specs.Squeezed.{octets_of, words_of, is_atom_kind}
use Rattle.field_tokens.specs.Comments.{CommentValue}
use Rattle.param_grammar.specs.declared.ParamKind.TheVariants.{Content}
use Rattle.param_grammar.specs.Joining.{ParamValue, SaysParams}

-- the atom after the slash of a Content-Type's main part stands at this place
pub record HasSubtype (text : List ℕ) (at : ℕ) : Type 0 where
  pub front : List TokenValue
  pub rest : List TokenValue
  pub subtype : TokenValue
  pub type : TokenValue
  pub slash : TokenValue
  pub has : HasTokenValues Mime text (front ++ subtype ∷ rest)
  pub words : words_of front ≡ type ∷ slash ∷ []
  pub is_word : is_atom_kind subtype.kind ≡ true
  pub at_is : at ≡ length (octets_of front)

-- the text is a Content-Type whose main part is message/global, in any case, and `global` stands at this place
pub record NamesGlobal (text : List ℕ) (at : ℕ) : Type 0 where
  pub params : List ParamValue
  pub comments : List CommentValue
  pub says : SaysParams Content text (codes "message/global") params comments
  pub subtype : HasSubtype text at

-- the text with `rfc822` in place of the six octets of `global`
abbrev pub with_rfc822 : List ℕ → ℕ → List ℕ
with_rfc822 text at = take at text ++ codes "rfc822" ++ drop (at + 6) text
